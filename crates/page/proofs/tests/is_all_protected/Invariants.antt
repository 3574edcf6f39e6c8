use mathlib.Core.Path.{◌≡◌}
use mathlib.Core.Bool.{◌&&◌}
use lib.ListN.{drop}
use Rattle.words.specs.Lists.{every}
use Rattle.page.specs.Marks.{is_protected}
use Rattle.page.proofs.tests.is_all_protected.Given as goal

-- the test of all marks is what is known of those before this one and the test of those from it on
abbrev pub invariant-loop-mark : goal.invariant-loop-mark
invariant-loop-mark l = every is_protected l.marks ≡ (l.all && every is_protected (drop l.mark-index l.marks))
