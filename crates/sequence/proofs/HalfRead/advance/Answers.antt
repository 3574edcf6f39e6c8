use native.Mathlib.Omega.{arith}
use Rattle.sequence.specs.Reading.{advance_of}
use Rattle.sequence.proofs.Laws.{reading}
use Rattle.sequence.proofs.HalfRead.advance.Goals as goal

pub returns-in-0 : goal.returns-in-0
unfolding advance_of
returns-in-0 c = search (arith, reading)

pub returns-in_default : goal.returns-in_default
unfolding advance_of
returns-in_default c = search (arith, reading)
