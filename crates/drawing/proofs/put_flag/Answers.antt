use Prim.Native.Nat.{◌≤◌}
use native.Mathlib.Omega.{arith}
use lib.ListN.{length}
use Rattle.words.proofs.Output.{wrote_then}
use Rattle.drawing.proofs.put_flag.Goals as goal

pub returns : goal.returns
returns c =
    let room : c.args.at ≤ length c.args.text.now = omega arith in
    rw (← c.byte_if.ensures) (wrote_then room c.put_all-next.ensures c.put_byte.ensures)
