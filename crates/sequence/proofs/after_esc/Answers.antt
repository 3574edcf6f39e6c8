use native.Mathlib.Omega.{arith}
use Rattle.words.proofs.Choosing.{tests}
use Rattle.sequence.specs.Reading.{after_esc}
use Rattle.sequence.proofs.after_esc.Goals as goal

pub returns-in-91 : goal.returns-in-91
unfolding after_esc
returns-in-91 c = rw c.reads_on.ensures (search (arith, tests))

pub returns-in-0-to-47 : goal.returns-in-0-to-47
unfolding after_esc
returns-in-0-to-47 c = rw c.reads_on-in-0-to-47.ensures (search (arith, tests))

pub returns-in_default : goal.returns-in_default
unfolding after_esc
returns-in_default c = rw c.ends.ensures (search (arith, tests))
