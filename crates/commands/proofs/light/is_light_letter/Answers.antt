use native.Mathlib.Omega.{arith}
use Rattle.words.proofs.Testing.{code_tests}
use Rattle.commands.specs.Light.{is_light_letter}
use Rattle.commands.proofs.light.is_light_letter.Goals as goal

pub returns-in-86 : goal.returns-in-86
unfolding is_light_letter
returns-in-86 c = grind (arith, code_tests)

pub returns-in_default : goal.returns-in_default
unfolding is_light_letter
returns-in_default c = grind (arith, code_tests)

pub returns-in_default-2 : goal.returns-in_default-2
unfolding is_light_letter
returns-in_default-2 c = grind (arith, code_tests)
