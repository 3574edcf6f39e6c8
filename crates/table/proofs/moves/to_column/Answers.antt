use native.Mathlib.Omega.{arith}
use Rattle.words.proofs.Testing.{code_tests}
use Rattle.steps.specs.Light.{light_step}
use Rattle.table.specs.Moves.{to_column}
use Rattle.table.proofs.moves.to_column.Goals as goal

pub returns-then-column-state : goal.returns-then-column-state
unfolding to_column light_step
returns-then-column-state c = λ page. grind (arith, code_tests)

pub returns : goal.returns
unfolding to_column light_step
returns c = λ page. grind (arith, code_tests)
