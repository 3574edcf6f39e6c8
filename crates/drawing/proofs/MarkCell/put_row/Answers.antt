use Prim.Native.Nat.{◌≤◌}
use native.Mathlib.Omega.{arith}
use lib.ListN.{length}
use Rattle.words.proofs.Output.{wrote_then}
use Rattle.drawing.proofs.Lengths.{mark_line_length}
use Rattle.drawing.proofs.MarkCell.put_row.Goals as goal

pub put_hex_pairs-end-requires : goal.put_hex_pairs-end-requires
put_hex_pairs-end-requires c = omega (arith, c.requires, mark_line_length c.args.row.now)

pub returns : goal.returns
returns c =
    let room : c.args.at ≤ length c.args.text.now = omega (arith, c.requires) in
    wrote_then room (wrote_then room c.put_byte-digits.ensures c.put_hex_pairs-end.ensures) c.put_byte.ensures
