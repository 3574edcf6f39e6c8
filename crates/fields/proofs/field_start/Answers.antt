use mathlib.Core.Path.{sym, ap, ◌∙◌}
use native.Mathlib.Omega.{arith}
use Rattle.places.specs.Places.{place_of}
use Rattle.fields.specs.Fields.{field_start}
use Rattle.places.proofs.Counting.{cell_is, columns_are}
use Rattle.fields.proofs.Laws.{joined_has_before, start_here}
use Rattle.fields.proofs.Walks.{start_on, place_here}
use Rattle.fields.proofs.field_start.Goals as goal

pub is_joined-requires : goal.is_joined-requires
is_joined-requires c = c.loop-here.invariant.1

pub back-here-requires : goal.back-here-requires
back-here-requires c = joined_has_before _ _ (sym c.is_joined.ensures ∙ c.loop-here-test.true)

pub loop-here-smaller : goal.loop-here-smaller
loop-here-smaller c =
    let here = c.loop-here.invariant in
    let late = joined_has_before _ _ (sym c.is_joined.ensures ∙ c.loop-here-test.true) in
    omega (arith, cell_is _ _ c.back-here.ensures)

pub loop-here-preserved : goal.loop-here-preserved
loop-here-preserved c =
    let here = c.loop-here.invariant in
    let back = cell_is _ _ c.back-here.ensures in
    let j = sym c.is_joined.ensures ∙ c.loop-here-test.true in
    (columns_are _ _ c.back-here.ensures ∙ here.0, omega arith, here.2 ∙ start_on _ _ j ∙ ap (field_start _) (sym back))

pub returns : goal.returns
returns c =
    let here = c.loop-here.invariant in
    place_here _ here.0 ∙ ap (place_of _) (sym (here.2 ∙ start_here _ _ (sym c.is_joined.ensures ∙ c.loop-here-test.false)))
