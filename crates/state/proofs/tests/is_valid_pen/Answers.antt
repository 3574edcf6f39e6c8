use native.Mathlib.Omega.{arith}
use Rattle.state.specs.Pen.{valid_pen}
use Rattle.words.proofs.Testing.{code_tests}
use Rattle.state.proofs.tests.is_valid_pen.Goals as goal

pub returns-then-is_valid_mark : goal.returns-then-is_valid_mark
unfolding valid_pen
returns-then-is_valid_mark c = grind (arith, code_tests)

pub returns-else-is_valid_mark : goal.returns-else-is_valid_mark
unfolding valid_pen
returns-else-is_valid_mark c = grind (arith, code_tests)
