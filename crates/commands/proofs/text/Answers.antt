use mathlib.Core.Path.{refl}
use mathlib.Core.List.{[], ◌∷◌}
use native.Mathlib.Omega.{arith}
use Rattle.places.proofs.Counting.{cell_is}
use Rattle.steps.specs.Steps.{cursor_cell}
use Rattle.commands.specs.Text.{text_step}
use Rattle.steps.proofs.Measuring.{measured}
use Rattle.commands.proofs.text.Goals as goal

pub place-requires : goal.place-requires
place-requires c = (measured c.requires).on_page

pub store_text-requires : goal.store_text-requires
store_text-requires c =
    let known = measured c.requires in
    let here = cell_is _ _ c.place.ensures in
    (omega arith, known.as_many)

pub to_next_cell-requires : goal.to_next_cell-requires
to_next_cell-requires c = (measured c.requires).on_page

pub returns : goal.returns
unfolding text_step
returns c =
    rw (c.stored.ensures (cursor_cell c.args.state ∷ []) _ refl, c.to_next_cell.ensures, c.store_text.ensures, cell_is _ _ c.place.ensures)
