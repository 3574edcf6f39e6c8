use mathlib.Core.Path.{sym, ◌∙◌}
use borrow.Author.Tests.{eq-eqb, ne_eqb}
use Rattle.words.proofs.Choosing.{first_decides, first_fails}
use Rattle.steps.proofs.Measuring.{measured}
use Rattle.keys.specs.Keys.{is_held_back}
use Rattle.keys.proofs.is_held_back.Goals as goal

pub has_left_blank-requires : goal.has_left_blank-requires
has_left_blank-requires c = sym (measured c.requires).as_many

pub returns-then-key-eq266 : goal.returns-then-key-eq266
unfolding is_held_back
returns-then-key-eq266 c = c.has_left_blank.ensures ∙ sym (first_decides _ _ (eq-eqb _ 266 c.if-key-eq266.true))

pub returns-else-key-eq266 : goal.returns-else-key-eq266
unfolding is_held_back
returns-else-key-eq266 c = let other = ne_eqb _ 266 c.if-key-eq266.false in other ∙ sym (first_fails _ _ other)
