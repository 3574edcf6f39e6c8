use native.Mathlib.Omega.{arith}
use Rattle.words.specs.Choice.{If◌then◌else◌}
use Rattle.words.proofs.Testing.{code_tests}
use Rattle.table.specs.Settings.{tab_control}
use Rattle.table.proofs.settings.tab_control.Goals as goal

pub returns-in-0 : goal.returns-in-0
unfolding tab_control If◌then◌else◌
returns-in-0 c = λ page. rw (c.quiet.ensures page, c.set_stop.ensures, c.in-0.is)

pub returns-in-2 : goal.returns-in-2
unfolding tab_control If◌then◌else◌
returns-in-2 c = λ page. rw (c.quiet-in-2.ensures page, c.clear_stop.ensures, c.in-2.is)

pub returns-in-5 : goal.returns-in-5
unfolding tab_control If◌then◌else◌
returns-in-5 c = λ page. rw (c.quiet-in-5.ensures page, c.clear_stops.ensures, c.in-5.is)

pub returns-in_default : goal.returns-in_default
unfolding tab_control If◌then◌else◌
returns-in_default c = λ page. rw (c.refuse.ensures page) (grind (arith, code_tests))
