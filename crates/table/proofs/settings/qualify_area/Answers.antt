use native.Mathlib.Omega.{arith}
use Rattle.words.proofs.Testing.{code_tests}
use Rattle.steps.specs.Light.{light_step}
use Rattle.table.specs.Settings.{area_qualified}
use Rattle.table.proofs.settings.qualify_area.Goals as goal

pub returns-then-is_area : goal.returns-then-is_area
unfolding area_qualified light_step
returns-then-is_area c = λ page. grind (arith, code_tests, c.set_area.ensures page)

pub returns : goal.returns
unfolding area_qualified light_step
returns c = λ page. grind (arith, code_tests)
