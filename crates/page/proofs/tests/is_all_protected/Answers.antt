use mathlib.Core.Path.{◌∙◌}
use Rattle.page.proofs.Asking.{next_asked}
use Rattle.page.proofs.tests.is_all_protected.Goals as goal

pub loop-mark-preserved : goal.loop-mark-preserved
loop-mark-preserved c = rw c.has_attribute-all.ensures (c.loop-mark.invariant ∙ next_asked _ 0 _ _ _ c.loop-mark-test.true)
