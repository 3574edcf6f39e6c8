use mathlib.Core.Path.{◌∙◌}
use Rattle.page.proofs.Asking.{next_asked, next_within}
use Rattle.page.proofs.tests.characters_are_valid.Goals as goal

pub loop-character-preserved : goal.loop-character-preserved
loop-character-preserved c =
    rw (c.max-most.ensures, c.min-least.ensures, ← next_within)
    (c.loop-character.invariant ∙ next_asked _ 0 _ _ _ c.loop-character-test.true)
