use Rattle.steps.proofs.Measuring.{measured}
use Rattle.keys.proofs.Laws.{found, end_is}
use Rattle.keys.proofs.rest_of_field.Goals as goal

pub place-place-requires : goal.place-place-requires
place-place-requires c = (measured c.requires).on_page

pub field_end-end-requires : goal.field_end-end-requires
field_end-end-requires c = (found c.requires c.place-place.ensures).inside

pub returns : goal.returns
returns c =
    let here = found c.requires c.place-place.ensures in
    λ i. record { start = here.cell i; end = end_is here c.field_end-end.ensures i }
