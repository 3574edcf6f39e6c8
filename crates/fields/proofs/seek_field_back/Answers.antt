use mathlib.Core.Path.{sym, ap, ◌∙◌}
use native.Mathlib.Omega.{arith}
use Rattle.fields.specs.Fields.{starts_field}
use Rattle.places.specs.declared.WalkBack.{WalkBack}
use Rattle.places.proofs.Counting.{cell_is}
use Rattle.fields.proofs.Walks.{sets_out_back, goes_back, comes_back_to, comes_back_to_nothing}
use Rattle.fields.proofs.Searching.{one_last, last_start}
use Rattle.fields.proofs.seek_field_back.Goals as goal

pub loop-here-init : goal.loop-here-init
loop-here-init c =
    let is = c.into_iter-here-iterator.ensures.into_iter_gives ∙ c.backward-here-items.ensures in
    rw (ap (λ (w : WalkBack). w.here) is) sets_out_back

pub starts_field-requires : goal.starts_field-requires
starts_field-requires c =
    let gives = c.in-Some.ensures.steps in
    omega (arith, cell_is _ _ gives.1, gives.0, c.loop-here.invariant.come)

pub returns-then-starts_field : goal.returns-then-starts_field
returns-then-starts_field c =
    let gives = c.in-Some.ensures.steps in
    let starts = ap (starts_field _) (sym (cell_is _ _ gives.1)) ∙ sym c.starts_field.ensures ∙ c.if-starts_field.true in
    one_last _ (comes_back_to c.loop-here.invariant gives.0 starts gives.1) (last_start _ _ _ _ _ _ (omega arith) (omega arith))

pub loop-here-preserved : goal.loop-here-preserved
loop-here-preserved c =
    let gives = c.in-Some.ensures.steps in
    let none-starts = ap (starts_field _) (sym (cell_is _ _ gives.1)) ∙ sym c.starts_field.ensures ∙ c.if-starts_field.false in
    rw (ap (λ (w : WalkBack). w.here) gives.2) (goes_back c.loop-here.invariant gives.0 none-starts gives.1)

pub returns : goal.returns
returns c =
    one_last _ (comes_back_to_nothing c.loop-here.invariant (omega (arith, c.in-None.ensures.steps.0)))
    (last_start _ _ _ _ _ _ (omega arith) (omega arith))
