use Rattle.words.specs.Choice.{◌is◌to◌}
use native.Mathlib.Omega.{arith}
use Rattle.words.proofs.Choosing.{tests}
use Rattle.sequence.proofs.is_between.Goals as goal

pub returns-then-low-n : goal.returns-then-low-n
unfolding ◌is◌to◌
returns-then-low-n c = search (arith, tests)

pub returns-else-low-n : goal.returns-else-low-n
unfolding ◌is◌to◌
returns-else-low-n c = search (arith, tests)
