use native.Mathlib.Omega.{arith}
use Rattle.words.proofs.Testing.{code_tests}
use Rattle.commands.specs.Light.{is_light_control}
use Rattle.commands.proofs.light.is_light_control.Goals as goal

pub returns-in-9 : goal.returns-in-9
unfolding is_light_control
returns-in-9 c = grind (arith, code_tests)

pub returns-in-10 : goal.returns-in-10
unfolding is_light_control
returns-in-10 c = grind (arith, code_tests)

pub returns-in_default : goal.returns-in_default
unfolding is_light_control
returns-in_default c = grind (arith, code_tests)
