use Prim.Native.Nat.{◌≤◌}
use native.Mathlib.Omega.{arith}
use lib.ListN.{length}
use Rattle.words.proofs.Output.{wrote_then}
use Rattle.drawing.proofs.U8Cell.put_row.Goals as goal

pub returns : goal.returns
returns c =
    let room : c.args.at ≤ length c.args.text.now = omega (arith, c.requires) in
    wrote_then room (wrote_then room c.put_byte-characters.ensures c.put_all-bar.ensures) c.put_all.ensures
