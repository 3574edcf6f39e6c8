use native.Mathlib.Omega.{arith}
use Rattle.words.proofs.Choosing.{tests}
use Rattle.sequence.specs.Reading.{is_control}
use Rattle.sequence.proofs.is_control.Goals as goal

pub returns-in_default : goal.returns-in_default
unfolding is_control
returns-in_default c = search (arith, tests)

pub returns-in_default-2 : goal.returns-in_default-2
unfolding is_control
returns-in_default-2 c = search (arith, tests)

pub returns-in-8 : goal.returns-in-8
unfolding is_control
returns-in-8 c = search (arith, tests)

pub returns-in-8-2 : goal.returns-in-8-2
unfolding is_control
returns-in-8-2 c = search (arith, tests)
