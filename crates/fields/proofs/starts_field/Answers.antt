use mathlib.Core.Path.{sym, ap, ◌∙◌}
use mathlib.Core.Bool.{not}
use Rattle.words.proofs.Choosing.{first_decides, first_fails}
use Rattle.fields.specs.Fields.{starts_field}
use Rattle.fields.proofs.starts_field.Goals as goal

pub returns-then-is_unprotected : goal.returns-then-is_unprotected
unfolding starts_field
returns-then-is_unprotected c =
    ap not c.is_joined.ensures ∙ sym (first_decides _ _ (sym c.is_unprotected.ensures ∙ c.if-is_unprotected.true))

pub returns-else-is_unprotected : goal.returns-else-is_unprotected
unfolding starts_field
returns-else-is_unprotected c =
    c.if-is_unprotected.false ∙ sym (first_fails _ _ (sym c.is_unprotected.ensures ∙ c.if-is_unprotected.false))
