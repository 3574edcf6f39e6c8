use native.Mathlib.Omega.{arith}
use Rattle.words.proofs.Choosing.{tests}
use Rattle.sequence.specs.Reading.{after_intermediate}
use Rattle.sequence.proofs.after_intermediate.Goals as goal

pub returns-in-0-to-47 : goal.returns-in-0-to-47
unfolding after_intermediate
returns-in-0-to-47 c = rw c.reads_on.ensures (search (arith, tests))

pub returns-in_default : goal.returns-in_default
unfolding after_intermediate
returns-in_default c = rw c.refused.ensures (search (arith, tests))
