use Prim.Native.Nat.{◌≤◌}
use native.Mathlib.Omega.{arith}
use lib.ListN.{length}
use Rattle.words.proofs.Output.{wrote_then}
use Rattle.numerals.proofs.put_hex_byte.Goals as goal

pub returns : goal.returns
returns c =
    let room : c.args.at ≤ length c.args.text.now = omega arith in
    rw (← c.digit_of-high.ensures, ← c.digit_of-low.ensures) (wrote_then room c.put_byte-next.ensures c.put_byte.ensures)
