use native.Mathlib.Omega.{arith}
use Rattle.words.proofs.Testing.{code_tests}
use Rattle.state.specs.Tests.{listed_rows}
use Rattle.state.proofs.tests.is_listed_rows.Goals as goal

pub returns-in-24 : goal.returns-in-24
unfolding listed_rows
returns-in-24 c = grind (arith, code_tests)

pub returns-in_default : goal.returns-in_default
unfolding listed_rows
returns-in_default c = grind (arith, code_tests)
