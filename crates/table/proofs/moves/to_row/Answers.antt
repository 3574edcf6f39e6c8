use native.Mathlib.Omega.{arith}
use Rattle.words.proofs.Testing.{code_tests}
use Rattle.steps.specs.Light.{light_step}
use Rattle.table.specs.Moves.{to_row}
use Rattle.table.proofs.moves.to_row.Goals as goal

pub returns-then-state-row : goal.returns-then-state-row
unfolding to_row light_step
returns-then-state-row c = λ page. grind (arith, code_tests)

pub returns : goal.returns
unfolding to_row light_step
returns c = λ page. grind (arith, code_tests)
