use Rattle.steps.specs.Light.{light_step}
use Rattle.table.specs.Settings.{area_set}
use Rattle.table.proofs.settings.set_area.Goals as goal

pub returns : goal.returns
unfolding area_set light_step
returns c = λ page. rw (c.sets.ensures, c.with_pen.ensures, c.pen_of_area.ensures)
