use Prim.Native.Nat.{◌≤◌}
use native.Mathlib.Omega.{arith}
use lib.ListN.{length}
use Rattle.words.proofs.Output.{wrote_then}
use Rattle.drawing.specs.Drawing.{drawn}
use Rattle.drawing.proofs.Lengths.{parts_length, state_length}
use Rattle.drawing.proofs.draw.Goals as goal

pub put_state-first_row-requires : goal.put_state-first_row-requires
put_state-first_row-requires c = let parts = parts_length c.args.state c.args.characters.now c.args.marks.now in record { five_digits_each = c.requires.five_digits_each; at_in_bounds = omega (arith, parts, state_length c.args.state) }

pub put_rows-first_marks-requires : goal.put_rows-first_marks-requires
put_rows-first_marks-requires c = let parts = parts_length c.args.state c.args.characters.now c.args.marks.now in record { cells_len = c.requires.characters_len.0; cells_in_bounds = omega (arith, parts) }

pub put_rows-requires : goal.put_rows-requires
put_rows-requires c = let parts = parts_length c.args.state c.args.characters.now c.args.marks.now in record { cells_len = c.requires.characters_len.1; cells_in_bounds = omega (arith, parts) }

pub returns : goal.returns
unfolding drawn
returns c =
    let room : c.args.at ≤ length c.args.text.now = omega arith in
    wrote_then room (wrote_then room c.put_state-first_row.ensures c.put_rows-first_marks.ensures) c.put_rows.ensures
