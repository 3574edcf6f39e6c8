use native.Mathlib.Omega.{arith}
use Rattle.words.proofs.Choosing.{tests}
use Rattle.sequence.specs.Record.{largest_argument}
use Rattle.sequence.proofs.largest_argument.Goals as goal

pub returns-then-i-reached : goal.returns-then-i-reached
unfolding largest_argument
returns-then-i-reached c = search (arith, tests)

pub returns-else-i-reached : goal.returns-else-i-reached
unfolding largest_argument
returns-else-i-reached c = search (arith, tests)
