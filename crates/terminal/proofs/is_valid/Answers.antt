use mathlib.Core.Path.{sym, ◌∙◌}
use Rattle.words.proofs.Choosing.{first_decides, first_fails}
use Rattle.terminal.specs.Tests.{passes_line2}
use Rattle.terminal.proofs.is_valid.Goals as goal

pub returns-then-is_valid : goal.returns-then-is_valid
unfolding passes_line2
returns-then-is_valid c = c.is_valid_page.ensures ∙ sym (first_decides _ _ (sym c.is_valid.ensures ∙ c.if-is_valid.true))

pub returns-else-is_valid : goal.returns-else-is_valid
unfolding passes_line2
returns-else-is_valid c = rw c.if-is_valid.false (sym (first_fails _ _ (sym c.is_valid.ensures ∙ c.if-is_valid.false)))
