use mathlib.Core.Path.{◌≡◌}
use mathlib.Core.Bool.{◌&&◌}
use lib.ListN.{drop}
use Rattle.words.specs.Lists.{every}
use Rattle.page.specs.Marks.{valid_mark}
use Rattle.page.proofs.tests.marks_are_valid.Given as goal

-- the test of all marks is what is known of those before this one and the test of those from it on
abbrev pub invariant-loop-mark : goal.invariant-loop-mark
invariant-loop-mark l = every valid_mark l.marks ≡ (l.all && every valid_mark (drop l.mark-index l.marks))
