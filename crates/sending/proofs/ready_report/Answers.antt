use mathlib.Core.Path.{sym, ◌∙◌}
use Rattle.steps.specs.Steps.{bytes_of}
use Rattle.steps.specs.Told.{told}
use Rattle.sending.specs.Sending.{ready_report}
use Rattle.steps.proofs.Writing.{no_room, with_room}
use Rattle.sending.proofs.ready_report.Goals as goal

pub returns-then-out-at-lt4 : goal.returns-then-out-at-lt4
unfolding ready_report bytes_of
returns-then-out-at-lt4 c = λ before page. sym (no_room _ _ _ _ c.if-out-at-lt4.true)

pub returns : goal.returns
unfolding ready_report bytes_of
returns c =
    λ before page.
    (λ i. record { told = told (c.did_send.ensures i) page; output = c.put_all.ensures.left i })
    ∙ sym (with_room _ _ _ _ c.if-out-at-lt4.false)
