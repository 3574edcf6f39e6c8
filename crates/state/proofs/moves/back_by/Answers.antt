use native.Mathlib.Omega.{arith}
use Rattle.state.specs.Moves.{back_by}
use Rattle.words.proofs.Testing.{code_tests}
use Rattle.state.proofs.moves.back_by.Goals as goal

pub returns : goal.returns
unfolding back_by
returns c = grind (arith, code_tests)
