use native.Mathlib.Omega.{arith}
use borrow.Author.Tests.{ne_eqb}
use Rattle.words.specs.Choice.{If◌then◌else◌}
use Rattle.places.proofs.Counting.{cell_is}
use Rattle.commands.specs.Commands.{erase_part}
use Rattle.steps.proofs.Measuring.{measured}
use Rattle.commands.proofs.erase_part.Goals as goal

pub place-cell-requires : goal.place-cell-requires
place-cell-requires c = (measured c.requires.valid).on_page

pub erase_cells-requires : goal.erase_cells-requires
erase_cells-requires c =
    let known = measured c.requires.valid in
    let here = cell_is _ _ c.place-cell.ensures in
    (omega arith, omega arith, known.as_many)

pub overflow_add-cell : goal.overflow_add-cell
overflow_add-cell c =
    let here = cell_is _ _ c.place-cell.ensures in
    omega arith

pub erase_cells-requires-in-1 : goal.erase_cells-requires-in-1
erase_cells-requires-in-1 c =
    let known = measured c.requires.valid in
    let here = cell_is _ _ c.place-cell.ensures in
    (omega arith, omega arith, known.as_many)

pub erase_cells-requires-in-2 : goal.erase_cells-requires-in-2
erase_cells-requires-in-2 c =
    let known = measured c.requires.valid in
    (omega arith, omega arith, known.as_many)

pub returns-in-0 : goal.returns-in-0
unfolding erase_part If◌then◌else◌
returns-in-0 c =
    rw (c.erase_cells.ensures, cell_is _ _ c.place-cell.ensures, c.in-0.is)

pub returns-in-1 : goal.returns-in-1
unfolding erase_part If◌then◌else◌
returns-in-1 c =
    rw (c.erase_cells-in-1.ensures, cell_is _ _ c.place-cell.ensures, c.in-1.is)

pub returns-in-2 : goal.returns-in-2
unfolding erase_part If◌then◌else◌
returns-in-2 c =
    rw (c.erase_cells-in-2.ensures, c.in-2.is)

pub returns-in_default : goal.returns-in_default
unfolding erase_part If◌then◌else◌
returns-in_default c =
    let none = c.in_default.in_default-own.rest in
    rw (c.refuse.ensures _) (simp (ne_eqb _ _ none.0.0.1, ne_eqb _ _ none.0.1, ne_eqb _ _ none.1))
