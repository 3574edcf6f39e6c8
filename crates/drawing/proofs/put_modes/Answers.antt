use Prim.Native.Nat.{◌≤◌}
use native.Mathlib.Omega.{arith}
use lib.ListN.{length}
use Rattle.words.proofs.Output.{wrote_then}
use Rattle.drawing.specs.Drawing.{pen_line}
use Rattle.drawing.proofs.put_modes.Goals as goal

pub returns : goal.returns
unfolding pen_line
returns c =
    let room : c.args.at ≤ length c.args.text.now = omega arith in
    let so_far = wrote_then room (wrote_then room c.put_all-pen.ensures c.put_hex_pair-erasure.ensures) c.put_flag-full.ensures in
    wrote_then room (wrote_then room so_far c.put_flag-end.ensures) c.put_byte.ensures
