use mathlib.Core.Path.{sym, ◌∙◌}
use Rattle.words.proofs.Choosing.{first_decides, first_fails}
use Rattle.keys.specs.Keys.{is_locked_out}
use Rattle.keys.proofs.is_locked_out.Goals as goal

pub returns-then-is_locked : goal.returns-then-is_locked
unfolding is_locked_out
returns-then-is_locked c = sym (first_decides _ _ (sym c.is_locked.ensures ∙ c.if-is_locked.true))

pub returns-else-is_locked : goal.returns-else-is_locked
unfolding is_locked_out
returns-else-is_locked c = c.if-is_locked.false ∙ sym (first_fails _ _ (sym c.is_locked.ensures ∙ c.if-is_locked.false))
