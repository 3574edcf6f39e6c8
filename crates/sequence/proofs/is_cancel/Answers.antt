use native.Mathlib.Omega.{arith}
use Rattle.words.proofs.Choosing.{tests}
use Rattle.sequence.specs.Reading.{is_cancel}
use Rattle.sequence.proofs.is_cancel.Goals as goal

pub returns-in-24 : goal.returns-in-24
unfolding is_cancel
returns-in-24 c = search (arith, tests)

pub returns-in_default : goal.returns-in_default
unfolding is_cancel
returns-in_default c = search (arith, tests)
