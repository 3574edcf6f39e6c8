use Prim.Native.Nat.{◌≤◌}
use native.Mathlib.Omega.{arith}
use lib.ListN.{length}
use Rattle.words.proofs.Output.{wrote_then}
use Rattle.output.proofs.put_two_digits.Goals as goal

pub returns : goal.returns
returns c =
    let room : c.args.at ≤ length c.args.out.now = omega arith in
    let off = c.count_off-tens.ensures in
    rw (← off.0, ← off.1) (wrote_then room c.put_digit-next.ensures c.put_digit.ensures)
