use mathlib.Core.Path.{◌≡◌, sym, ap, ◌∙◌}
use Prim.Native.Nat.{◌+◌, ◌-◌}
use native.Mathlib.Omega.{arith}
use lib.ListN.{length}
use Rattle.page.specs.Marks.{unprotected}
use Rattle.fields.specs.Fields.{joined, field_end}
use Rattle.fields.proofs.Laws.{joined_if_unprotected}
use Rattle.fields.proofs.Walks.{end_on, end_stops, end_at_last, end_of_protected}
use Rattle.fields.proofs.field_end.Goals as goal

pub returns-then-not-is_unprotected : goal.returns-then-not-is_unprotected
returns-then-not-is_unprotected c = sym (end_of_protected _ _ _ (sym c.is_unprotected.ensures ∙ c.if-not-is_unprotected.true))

pub loop-end-init : goal.loop-end-init
loop-end-init c =
    let here : c.args.cell ≡ c.args.cell + 1 - 1 = omega arith in
    let is-unprotected = sym c.is_unprotected.ensures ∙ c.if-not-is_unprotected.false in
    (omega arith, omega arith, ap (unprotected _) (sym here) ∙ is-unprotected, ap (field_end _ _) here)

pub returns-then-not-is_unprotected-2 : goal.returns-then-not-is_unprotected-2
returns-then-not-is_unprotected-2 c =
    let loop = c.loop-end in
    let here : loop.end - 1 + 1 ≡ loop.end = omega (arith, loop.invariant.0) in
    let apart = ap (joined _) here ∙ joined_if_unprotected _ _ loop.invariant.0 loop.invariant.2 ∙ sym c.is_unprotected-in-loop-end.ensures ∙ c.if-not-is_unprotected-2.true in
    sym (loop.invariant.3 ∙ end_stops _ _ _ (omega (arith, c.loop-end-test.true)) apart ∙ here)

pub loop-end-preserved : goal.loop-end-preserved
loop-end-preserved c =
    let loop = c.loop-end in
    let here : loop.end - 1 + 1 ≡ loop.end = omega (arith, loop.invariant.0) in
    let next : loop.end ≡ loop.end + 1 - 1 = omega arith in
    let is-unprotected = sym c.is_unprotected-in-loop-end.ensures ∙ c.if-not-is_unprotected-2.false in
    let is-joined = ap (joined _) here ∙ joined_if_unprotected _ _ loop.invariant.0 loop.invariant.2 ∙ is-unprotected in (
      omega arith,
      omega arith,
      ap (unprotected _) (sym next) ∙ is-unprotected,
      loop.invariant.3 ∙ end_on _ _ _ (omega (arith, c.loop-end-test.true)) is-joined ∙ ap (field_end _ _) (omega arith),
    )

pub returns : goal.returns
returns c =
    let loop = c.loop-end in
    let last : loop.end - 1 + 1 ≡ length c.args.marks.now = omega (arith, loop.invariant.0, loop.invariant.1, c.loop-end-test.false) in
    sym (loop.invariant.3 ∙ end_at_last _ _ _ (omega (arith, c.loop-end-test.false)) ∙ last)
