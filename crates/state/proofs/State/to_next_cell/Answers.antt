use native.Mathlib.Omega.{arith}
use Rattle.words.proofs.Testing.{code_tests}
use Rattle.state.specs.Moves.{to_next_cell}
use Rattle.state.proofs.State.to_next_cell.Goals as goal

pub returns-then-self : goal.returns-then-self
unfolding to_next_cell
returns-then-self c = grind (arith, code_tests)

pub returns-then-self-2 : goal.returns-then-self-2
unfolding to_next_cell
returns-then-self-2 c = grind (arith, code_tests)

pub returns : goal.returns
unfolding to_next_cell
returns c = grind (arith, code_tests)
