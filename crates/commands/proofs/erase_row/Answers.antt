use mathlib.Core.Path.{ap, ◌∙◌}
use Prim.Native.Nat.{ℕ, ◌+◌, ◌-◌}
use native.Mathlib.Omega.{arith}
use Rattle.page.specs.Page.{page_of}
use Rattle.places.proofs.Counting.{cell_is}
use Rattle.steps.specs.Told.{tells}
use Rattle.commands.specs.Commands.{erase_part}
use Rattle.steps.proofs.Soundness.{row_on_page}
use Rattle.steps.proofs.Measuring.{measured}
use Rattle.commands.proofs.erase_row.Goals as goal

pub place-requires : goal.place-requires
place-requires c = (measured c.requires).on_page

pub overflow_sub-first : goal.overflow_sub-first
overflow_sub-first c = let on = (measured c.requires).on_page in omega arith

pub overflow_sub-first-2 : goal.overflow_sub-first-2
overflow_sub-first-2 c =
    let here = cell_is c.args.state.size.columns _ c.place.ensures in
    let on = (measured c.requires).on_page in
    let row = row_on_page _ c.requires in
    omega arith

pub overflow_add-first : goal.overflow_add-first
overflow_add-first c =
    let here = cell_is c.args.state.size.columns _ c.place.ensures in
    let on = (measured c.requires).on_page in
    let row = row_on_page _ c.requires in
    omega arith

pub erase_part-requires : goal.erase_part-requires
erase_part-requires c = let here = cell_is c.args.state.size.columns _ c.place.ensures in
    let on = (measured c.requires).on_page in
    let row = row_on_page _ c.requires in record { valid = c.requires; first_bound = omega arith }

pub returns : goal.returns
returns c =
    let size = c.args.state.size in
    let column = c.args.state.cursor.column in
    let here = cell_is size.columns _ c.place.ensures in
    c.erase_part.ensures
    ∙ ap (λ (cell : ℕ). tells (erase_part c.args.letter c.args.what (cell - (column - 1)) (cell - (column - 1) + size.columns) (record { state = c.args.state; page = page_of c.args.characters.now c.args.marks.now }))) here
