use mathlib.Core.Path.{sym, ◌∙◌}
use Rattle.words.proofs.Choosing.{then_case, else_case}
use Rattle.steps.specs.Light.{light_step}
use Rattle.table.specs.Settings.{rendition}
use Rattle.table.proofs.Walking.{listed, unlisted}
use Rattle.table.proofs.settings.rendition.Goals as goal

pub returns-in-Some : goal.returns-in-Some
unfolding rendition light_step
returns-in-Some c =
    λ page.
    let all = listed _ _ _ (sym c.in-Some.is ∙ c.pen_after_all.ensures) in
    rw (c.sets.ensures, c.with_pen.ensures, all.1) (sym (then_case _ _ _ all.0))

pub returns-in-None : goal.returns-in-None
unfolding rendition light_step
returns-in-None c = λ page. sym (else_case _ _ _ (unlisted _ _ (sym c.in-None.is ∙ c.pen_after_all.ensures)))
