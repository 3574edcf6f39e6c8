use Prim.Native.Nat.{◌≤◌}
use native.Mathlib.Omega.{arith}
use lib.ListN.{length}
use Rattle.words.proofs.Output.{wrote_then}
use Rattle.numerals.proofs.Digits.{five_digits_lem}
use Rattle.numerals.proofs.put_five.Goals as goal

pub returns : goal.returns
returns c =
    let room : c.args.at ≤ length c.args.text.now = omega arith in
    let one-off = c.count_off-first.ensures in
    let two-off = c.count_off-second.ensures in
    let three-off = c.count_off-third.ensures in
    rw (five_digits_lem _ _ _ _ _ _ _ one-off.0 one-off.1 two-off.0 two-off.1 three-off.0 three-off.1)
    (wrote_then room (wrote_then room (wrote_then room c.put_digit-next.ensures c.put_digit-next-2.ensures) c.put_digit-next-3.ensures) c.put_two_digits.ensures)
