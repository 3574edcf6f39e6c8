use native.Mathlib.Omega.{arith}
use Rattle.state.specs.Tests.{listed_size}
use Rattle.words.proofs.Testing.{code_tests}
use Rattle.state.proofs.Size.is_listed.Goals as goal

pub returns-then-is_listed_rows : goal.returns-then-is_listed_rows
unfolding listed_size
returns-then-is_listed_rows c = grind (arith, code_tests)

pub returns-else-is_listed_rows : goal.returns-else-is_listed_rows
unfolding listed_size
returns-else-is_listed_rows c = grind (arith, code_tests)
