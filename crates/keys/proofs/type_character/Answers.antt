use mathlib.Core.Path.{refl}
use mathlib.Core.List.{[], ◌∷◌}
use native.Mathlib.Omega.{arith}
use Rattle.words.specs.Choice.{If◌then◌else◌}
use Rattle.steps.specs.Steps.{cursor_cell}
use Rattle.keys.specs.Keys.{typed_step}
use Rattle.steps.proofs.Measuring.{measured}
use Rattle.keys.proofs.Laws.{found, is_unprotected, stays}
use Rattle.keys.proofs.type_character.Goals as goal

pub returns-then-not-stands_unprotected : goal.returns-then-not-stands_unprotected
unfolding typed_step
returns-then-not-stands_unprotected c = stays _ _ c.stands_unprotected.ensures c.if-not-stands_unprotected.true-raw (c.quiet.ensures _)

pub place-place-requires : goal.place-place-requires
place-place-requires c = (measured c.requires).on_page

pub next_unprotected-next-requires : goal.next_unprotected-next-requires
next_unprotected-next-requires c = let here = found c.requires c.place-place.ensures in (here.inside, here.most)

pub store_typed-requires : goal.store_typed-requires
store_typed-requires c =
    let here = found c.requires c.place-place.ensures in
    (omega arith, here.as_many)

pub returns : goal.returns
unfolding typed_step If◌then◌else◌
returns c =
    let here = found c.requires c.place-place.ensures in
    let cell-unprotected = is_unprotected c.stands_unprotected.ensures c.if-not-stands_unprotected.false-raw in
    rw (cell-unprotected, c.stored.ensures (cursor_cell c.args.state ∷ []) _ refl, c.gone_to.ensures, c.next_unprotected-next.ensures, here.columns, here.as_many, c.store_typed.ensures, here.cell)
