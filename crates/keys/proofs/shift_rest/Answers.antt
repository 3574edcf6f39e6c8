use mathlib.Core.Path.{◌≡◌}
use borrow.Author.Rules.{rules}
use native.Mathlib.Omega.{arith}
use Rattle.page.specs.Page.{page_of, part_stored}
use Rattle.keys.specs.Keys.{rest_shifted}
use Rattle.keys.proofs.Laws.{is_unprotected, stays, rest_on_page, rest_shifted_lem}
use Rattle.keys.proofs.shift_rest.Goals as goal

pub returns-then-not-stands_unprotected : goal.returns-then-not-stands_unprotected
unfolding rest_shifted
returns-then-not-stands_unprotected g c =
    stays _ _ c.stands_unprotected.ensures c.if-not-stands_unprotected.true-raw (c.quiet.ensures _)

pub overflow_sub-rest : goal.overflow_sub-rest
overflow_sub-rest g c =
    let bounds = rest_on_page c.requires.1.0 in
    rw c.rest_of_field-rest.ensures (omega (arith, bounds.some))

pub change-requires : goal.change-requires
change-requires g c =
    let bounds = rest_on_page c.requires.1.0 in
    rw c.rest_of_field-rest.ensures (c.requires.1.1.0 _ _ _ _ (search rules) (search rules) bounds.some bounds.on_page bounds.as_many)

pub returns : goal.returns
returns g c =
    let rest = c.rest_of_field-rest.result in
    let cell-unprotected = is_unprotected c.stands_unprotected.ensures c.if-not-stands_unprotected.false-raw in
    let changed : page_of c.change.new.arg2 c.change.new.arg3 ≡ part_stored g.changed rest.start rest.end (page_of c.args.characters.now c.args.marks.now) =
    c.requires.1.1.1 _ _ _ _ _ _ c.change.ensures in
    rest_shifted_lem _ g.changed {page = page_of c.change.new.arg2 c.change.new.arg3} cell-unprotected (rw c.rest_of_field-rest.ensures at c.stored.ensures) (rw c.rest_of_field-rest.ensures at changed)
