use mathlib.Core.Path.{sym, ◌∙◌}
use Rattle.words.proofs.Choosing.{first_decides, first_fails}
use Rattle.fields.specs.Required.{is_left_blank}
use Rattle.fields.proofs.is_left_blank.Goals as goal

pub returns-then-some_have : goal.returns-then-some_have
unfolding is_left_blank
returns-then-some_have c =
    c.is_all_blank.ensures ∙ sym (first_decides _ _ (sym c.some_have.ensures ∙ c.if-some_have.true))

pub returns-else-some_have : goal.returns-else-some_have
unfolding is_left_blank
returns-else-some_have c =
    c.if-some_have.false ∙ sym (first_fails _ _ (sym c.some_have.ensures ∙ c.if-some_have.false))
