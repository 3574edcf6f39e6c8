use native.Mathlib.Omega.{arith}
use Rattle.words.proofs.Testing.{code_tests}
use Rattle.steps.specs.Light.{light_step}
use Rattle.table.specs.PrivateForms.{private_step}
use Rattle.table.proofs.private_forms.private_command.Goals as goal

pub returns-in-6-eq104 : goal.returns-in-6-eq104
unfolding private_step light_step
returns-in-6-eq104 c = λ page. grind (arith, code_tests)

pub returns-in-6-eq108 : goal.returns-in-6-eq108
unfolding private_step light_step
returns-in-6-eq108 c = λ page. grind (arith, code_tests)

pub returns-in_default : goal.returns-in_default
unfolding private_step light_step
returns-in_default c = λ page. grind (arith, code_tests)

pub returns-in_default-2 : goal.returns-in_default-2
unfolding private_step light_step
returns-in_default-2 c = λ page. grind (arith, code_tests)
