use native.Mathlib.Omega.{arith}
use Rattle.sequence.specs.Reading.{sequence_read_on}
use Rattle.sequence.proofs.Laws.{reading}
use Rattle.sequence.proofs.Keeping.{arguments_counted}
use Rattle.sequence.proofs.HalfRead.sequence_read_on.Goals as goal

pub after_private_mark-requires : goal.after_private_mark-requires
after_private_mark-requires c = arguments_counted _ c.requires.self_value (omega arith)

pub after_bracket-requires : goal.after_bracket-requires
after_bracket-requires c = arguments_counted _ c.requires.self_value (omega (arith, c.requires.fact))

pub returns-in-1 : goal.returns-in-1
unfolding sequence_read_on
returns-in-1 c = search (arith, reading)

pub returns-in-2 : goal.returns-in-2
unfolding sequence_read_on
returns-in-2 c = search (arith, reading)

pub returns-in-4 : goal.returns-in-4
unfolding sequence_read_on
returns-in-4 c = search (arith, reading)

pub returns-in-5 : goal.returns-in-5
unfolding sequence_read_on
returns-in-5 c = search (arith, reading)

pub returns-in_default : goal.returns-in_default
unfolding sequence_read_on
returns-in_default c = search (arith, reading)
