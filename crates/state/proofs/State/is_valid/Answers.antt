use native.Mathlib.Omega.{arith}
use Rattle.state.specs.Tests.{valid_state}
use Rattle.words.proofs.Testing.{code_tests}
use Rattle.state.proofs.State.is_valid.Goals as goal

pub returns-then-is_valid_message : goal.returns-then-is_valid_message
unfolding valid_state
returns-then-is_valid_message c = grind (arith, code_tests)

pub returns-else-is_valid_message : goal.returns-else-is_valid_message
unfolding valid_state
returns-else-is_valid_message c = grind (arith, code_tests)
