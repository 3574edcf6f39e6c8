use native.Mathlib.Omega.{arith}
use Rattle.sequence.specs.Reading.{after_bracket}
use Rattle.sequence.proofs.Laws.{reading}
use Rattle.words.specs.Choice.{◌is◌to◌}
use Rattle.sequence.proofs.HalfRead.after_bracket.Goals as goal

pub returns-in-59 : goal.returns-in-59
unfolding ◌is◌to◌ after_bracket
returns-in-59 c = rw c.reads_on.ensures (rw c.with_next_argument.ensures (search (arith, reading)))

pub returns-in-48-to-57 : goal.returns-in-48-to-57
unfolding ◌is◌to◌ after_bracket
returns-in-48-to-57 c = rw c.reads_on-in-48-to-57.ensures (rw c.with_digit.ensures (search (arith, reading)))

pub returns-in_default : goal.returns-in_default
unfolding ◌is◌to◌ after_bracket
returns-in_default c = rw c.refused.ensures (search (arith, reading))

pub returns-in_default-2 : goal.returns-in_default-2
unfolding ◌is◌to◌ after_bracket
returns-in_default-2 c = rw c.ends.ensures (search (arith, reading))

pub returns-in-0-to-63 : goal.returns-in-0-to-63
unfolding ◌is◌to◌ after_bracket
returns-in-0-to-63 c = rw c.reads_on-in-0-to-63.ensures (search (arith, reading))
