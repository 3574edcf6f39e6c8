use native.Mathlib.Omega.{arith}
use Rattle.record.specs.Bytes.{number_at}
use Rattle.record.proofs.numbers.number_there.Goals as goal

pub returns : goal.returns
unfolding number_at
returns c = omega arith
