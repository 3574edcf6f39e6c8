use mathlib.Core.Path.{◌≡◌, sym, ◌∙◌}
use mathlib.Core.Bool.{false}
use native.Mathlib.Omega.{arith}
use borrow.Author.Tests.{ne_eqb}
use lib.Dec.{eqb}
use Rattle.words.specs.Choice.{If◌then◌else◌, ◌and◌, ◌is◌to◌}
use Rattle.keys.specs.Keys.{is_typing, is_not_taken}
use Rattle.keys.proofs.Silent.{typing_range}
use Rattle.keys.proofs.is_not_taken.Goals as goal

pub overflow_cast-key : goal.overflow_cast-key
overflow_cast-key c =
    let range = typing_range _ (sym c.is_typing.ensures ∙ c.if-is_typing.true) in
    omega arith

pub returns-in-264 : goal.returns-in-264
unfolding is_not_taken is_typing ◌is◌to◌ ◌and◌ If◌then◌else◌
returns-in-264 c = rw (c.in-264.is, sym c.rest_takes.ensures)

pub returns-in-265 : goal.returns-in-265
unfolding is_not_taken is_typing ◌is◌to◌ ◌and◌ If◌then◌else◌
returns-in-265 c = rw (c.in-265.is, sym c.rest_takes-in-265.ensures)

pub returns-then-is_typing : goal.returns-then-is_typing
unfolding is_not_taken If◌then◌else◌
returns-then-is_typing c = rw (sym c.is_typing.ensures ∙ c.if-is_typing.true, sym c.takes_here.ensures)

pub returns-else-is_typing : goal.returns-else-is_typing
unfolding is_not_taken If◌then◌else◌
returns-else-is_typing c =
    let no_264 : eqb c.args.key 264 ≡ false = ne_eqb _ _ (λ same. omega arith) in
    let no_265 : eqb c.args.key 265 ≡ false = ne_eqb _ _ (λ same. omega arith) in
    rw (sym c.is_typing.ensures ∙ c.if-is_typing.false, no_264, no_265) c.if-is_typing.false
