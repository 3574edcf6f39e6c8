use native.Mathlib.Omega.{arith}
use Rattle.words.proofs.Testing.{code_tests}
use Rattle.state.specs.Tests.{listed_columns}
use Rattle.state.proofs.tests.is_listed_columns.Goals as goal

pub returns-in-80 : goal.returns-in-80
unfolding listed_columns
returns-in-80 c = grind (arith, code_tests)

pub returns-in_default : goal.returns-in_default
unfolding listed_columns
returns-in_default c = grind (arith, code_tests)
