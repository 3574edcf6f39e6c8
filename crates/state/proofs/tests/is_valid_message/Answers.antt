use native.Mathlib.Omega.{arith}
use Rattle.state.specs.Tests.{valid_message}
use Rattle.words.proofs.Testing.{code_tests}
use Rattle.state.proofs.tests.is_valid_message.Goals as goal

pub returns-in-0 : goal.returns-in-0
unfolding valid_message
returns-in-0 c = grind (arith, code_tests)

pub returns-in_default : goal.returns-in_default
unfolding valid_message
returns-in_default c = grind (arith, code_tests)
