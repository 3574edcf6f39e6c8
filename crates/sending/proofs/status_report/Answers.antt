use mathlib.Core.Path.{refl}
use borrow.Author.Tests.{ne_eqb}
use Rattle.words.specs.Choice.{If◌then◌else◌}
use Rattle.words.proofs.Choosing.{else_case}
use Rattle.steps.specs.Steps.{bytes_of}
use Rattle.sending.specs.Sending.{status_report}
use Rattle.steps.proofs.Writing.{told_silent}
use Rattle.sending.proofs.status_report.Goals as goal

pub returns-in-5 : goal.returns-in-5
unfolding status_report If◌then◌else◌
returns-in-5 c = λ before page. rw c.in-5.is (c.ready_report.ensures before page)

pub returns-in-6 : goal.returns-in-6
unfolding status_report If◌then◌else◌
returns-in-6 c = λ before page. rw c.in-6.is (c.cursor_report.ensures before page)

pub returns-in_default : goal.returns-in_default
unfolding status_report bytes_of
returns-in_default c =
    λ before page.
    let rest = c.in_default.in_default-own.rest in
    rw (else_case _ _ _ (ne_eqb _ _ rest.0.1), else_case _ _ _ (ne_eqb _ _ rest.1))
    (told_silent _ _ _ _ _ _ (c.refuse.ensures page) refl)
