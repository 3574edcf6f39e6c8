use native.Mathlib.Omega.{arith}
use Rattle.sequence.specs.Reading.{inside_sequence}
use Rattle.sequence.proofs.Laws.{reading}
use Rattle.sequence.proofs.HalfRead.inside_sequence.Goals as goal

pub returns-then-is_cancel : goal.returns-then-is_cancel
unfolding inside_sequence
returns-then-is_cancel c = search (arith, reading)

pub returns-in_default-2 : goal.returns-in_default-2
unfolding inside_sequence
returns-in_default-2 c = search (arith, reading)

pub returns-in_default-3 : goal.returns-in_default-3
unfolding inside_sequence
returns-in_default-3 c = search (arith, reading)

pub returns-in-128-to-255 : goal.returns-in-128-to-255
unfolding inside_sequence
returns-in-128-to-255 c = search (arith, reading)

pub returns-in-27 : goal.returns-in-27
unfolding inside_sequence
returns-in-27 c = search (arith, reading)
