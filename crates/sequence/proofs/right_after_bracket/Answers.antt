use native.Mathlib.Omega.{arith}
use Rattle.words.proofs.Choosing.{tests}
use Rattle.sequence.specs.Reading.{right_after_bracket}
use Rattle.sequence.proofs.right_after_bracket.Goals as goal

pub returns-in-62 : goal.returns-in-62
unfolding right_after_bracket
returns-in-62 c = rw c.reads_on.ensures (search (arith, tests))

pub returns-in_default : goal.returns-in_default
unfolding right_after_bracket
returns-in_default c = search (arith, tests)
