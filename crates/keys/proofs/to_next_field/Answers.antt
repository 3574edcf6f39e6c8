use Rattle.places.proofs.Counting.{cell_is, columns_are}
use Rattle.keys.specs.Keys.{to_next_field}
use Rattle.steps.proofs.Measuring.{measured}
use Rattle.keys.proofs.Laws.{found}
use Rattle.keys.proofs.to_next_field.Goals as goal

pub place-requires : goal.place-requires
unfolding to_next_field
place-requires c = (measured c.requires).on_page

pub next_field-sought-requires : goal.next_field-sought-requires
unfolding to_next_field
next_field-sought-requires c = let here = found c.requires c.place.ensures in (here.inside, here.most)

pub returns : goal.returns
unfolding to_next_field
returns c = rw (c.quiet.ensures _, c.gone_to.ensures, c.next_field-sought.ensures, columns_are _ _ c.place.ensures, (measured c.requires).as_many, cell_is _ _ c.place.ensures)
