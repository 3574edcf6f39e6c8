use mathlib.Core.Path.{refl, sym, ap, ◌∙◌}
use native.Mathlib.Omega.{arith}
use Rattle.std.specs.Prelude.{Some}
use Rattle.places.specs.declared.Place.{Place}
use Rattle.places.specs.declared.Walk.{Walk}
use Rattle.places.proofs.Walking.{turn, walked}
use Rattle.places.proofs.Walking as Walking
use Rattle.fields.proofs.Walks.{sets_out, goes_on, comes_to, comes_to_nothing}
use Rattle.fields.proofs.Searching.{one_first, first_unprotected_lem}
use Rattle.fields.proofs.seek.Goals as goal

pub loop-here-init : goal.loop-here-init
loop-here-init g c =
    let is = c.into_iter-here-iterator.ensures.into_iter_gives ∙ c.onward-here-items.ensures in
    record {
      walks = Walking.sets_out refl c.requires.on_page.0 is;
      way = λ passes agree. rw (ap (λ (w : Walk). w.here) is) (sets_out c.requires.on_page.0);
    }

pub test-requires : goal.test-requires
test-requires g c =
    let now = turn c.loop-here.invariant.walks c.in-Some.ensures.steps in
    c.requires.callable _ (omega (arith, now.less, ap (λ (p : Place). p.cell) now.here))

pub returns-then-test : goal.returns-then-test
returns-then-test g c passes agree =
    let now = turn c.loop-here.invariant.walks c.in-Some.ensures.steps in
    let cell = ap (λ (p : Place). p.cell) now.here in
    let here = ap passes (sym cell) ∙ sym (agree _ _ (omega (arith, now.less, cell)) c.test.ensures) ∙ c.if-test.true in
    ap Some now.here ∙ one_first _ (comes_to (c.loop-here.invariant.way passes agree) now.less here) (first_unprotected_lem _ _ _ _ _ (omega (arith, c.requires.on_page)))

pub loop-here-preserved : goal.loop-here-preserved
loop-here-preserved g c =
    let now = turn c.loop-here.invariant.walks c.in-Some.ensures.steps in
    let cell = ap (λ (p : Place). p.cell) now.here in
    record {
      walks = now.on;
      way = λ passes agree.
          let not-here = ap passes (sym cell) ∙ sym (agree _ _ (omega (arith, now.less, cell)) c.test.ensures) ∙ c.if-test.false in
          goes_on (c.loop-here.invariant.way passes agree) now.less not-here now.next;
    }

pub returns : goal.returns
returns g c passes agree =
    let end = walked c.loop-here.invariant.walks c.in-None.ensures.steps in
    one_first _ (comes_to_nothing (c.loop-here.invariant.way passes agree) (omega (arith, end))) (first_unprotected_lem _ _ _ _ _ (omega (arith, c.requires.on_page)))
