use Prim.Native.Nat.{◌≤◌}
use native.Mathlib.Omega.{arith}
use lib.ListN.{length}
use Rattle.words.proofs.Output.{wrote_then}
use Rattle.drawing.proofs.put_pair.Goals as goal

pub returns : goal.returns
returns c =
    let room : c.args.at ≤ length c.args.text.now = omega arith in
    wrote_then room (wrote_then room c.put_number-gap.ensures c.put_number-end.ensures) c.put_byte.ensures
