use native.Mathlib.Omega.{arith}
use Rattle.words.proofs.Testing.{code_tests}
use Rattle.steps.specs.Light.{light_step}
use Rattle.table.specs.Moves.{to_place}
use Rattle.table.proofs.moves.to_place.Goals as goal

pub returns-then-column-state : goal.returns-then-column-state
unfolding to_place light_step
returns-then-column-state c = λ page. grind (arith, code_tests)

pub returns : goal.returns
unfolding to_place light_step
returns c = λ page. grind (arith, code_tests)
