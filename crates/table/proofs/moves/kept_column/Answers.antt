use native.Mathlib.Omega.{arith}
use Rattle.words.proofs.Testing.{code_tests}
use Rattle.table.specs.Moves.{kept_column}
use Rattle.table.proofs.moves.kept_column.Goals as goal

pub returns-then-row-gt0 : goal.returns-then-row-gt0
unfolding kept_column
returns-then-row-gt0 c = grind (arith, code_tests)

pub returns : goal.returns
unfolding kept_column
returns c = grind (arith, code_tests)
