use native.Mathlib.Omega.{arith}
use Rattle.places.proofs.Counting.{cell_is, columns_are}
use Rattle.keys.specs.Keys.{to_previous_field}
use Rattle.steps.proofs.Measuring.{measured}
use Rattle.keys.proofs.Laws.{found}
use Rattle.keys.proofs.to_previous_field.Goals as goal

pub place-requires : goal.place-requires
unfolding to_previous_field
place-requires c = (measured c.requires).on_page

pub previous_field-sought-requires : goal.previous_field-sought-requires
previous_field-sought-requires c = let known = measured c.requires in
    let here = found c.requires c.place.ensures in (here.inside, known.on_page.rows_most, omega (arith, here.columns, known.on_page.columns_most), rw here.columns known.all_cells)

pub returns : goal.returns
unfolding to_previous_field
returns c = rw (c.quiet.ensures _, c.gone_to.ensures, c.previous_field-sought.ensures, columns_are _ _ c.place.ensures, (measured c.requires).as_many, cell_is _ _ c.place.ensures)
