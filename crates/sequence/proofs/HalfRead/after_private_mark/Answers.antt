use native.Mathlib.Omega.{arith}
use Rattle.sequence.specs.Reading.{after_private_mark}
use Rattle.sequence.proofs.Laws.{reading}
use Rattle.words.specs.Choice.{◌is◌to◌}
use Rattle.sequence.proofs.HalfRead.after_private_mark.Goals as goal

pub returns-in-48-to-57 : goal.returns-in-48-to-57
unfolding ◌is◌to◌ after_private_mark
returns-in-48-to-57 c = rw c.reads_on.ensures (rw c.with_digit.ensures (search (arith, reading)))

pub returns-in_default : goal.returns-in_default
unfolding ◌is◌to◌ after_private_mark
returns-in_default c = rw c.ends.ensures (search (arith, reading))

pub returns-in-0-to-63 : goal.returns-in-0-to-63
unfolding ◌is◌to◌ after_private_mark
returns-in-0-to-63 c = rw c.reads_on-in-0-to-63.ensures (search (arith, reading))
