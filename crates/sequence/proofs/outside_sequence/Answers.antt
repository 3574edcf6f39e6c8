use native.Mathlib.Omega.{arith}
use Rattle.sequence.specs.Reading.{outside_sequence}
use Rattle.sequence.proofs.Laws.{reading}
use Rattle.sequence.proofs.outside_sequence.Goals as goal

pub returns-then-is_text : goal.returns-then-is_text
unfolding outside_sequence
returns-then-is_text c = rw c.ends.ensures (search (arith, reading))

pub returns-then-is_control : goal.returns-then-is_control
unfolding outside_sequence
returns-then-is_control c = rw c.ends-in_default-2.ensures (search (arith, reading))

pub returns-in-27 : goal.returns-in-27
unfolding outside_sequence
returns-in-27 c = rw c.reads_on.ensures (search (arith, reading))

pub returns-in_default-3 : goal.returns-in_default-3
unfolding outside_sequence
returns-in_default-3 c = rw c.ends-in_default-3.ensures (search (arith, reading))

pub returns-in-128-to-255 : goal.returns-in-128-to-255
unfolding outside_sequence
returns-in-128-to-255 c = rw c.refused.ensures (search (arith, reading))
