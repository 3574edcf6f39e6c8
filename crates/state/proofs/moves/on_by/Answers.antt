use native.Mathlib.Omega.{arith}
use Rattle.state.specs.Moves.{on_by}
use Rattle.words.proofs.Testing.{code_tests}
use Rattle.state.proofs.moves.on_by.Goals as goal

pub returns : goal.returns
unfolding on_by
returns c = grind (arith, code_tests)
