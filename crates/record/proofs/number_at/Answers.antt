use native.Mathlib.Omega.{arith}
use Rattle.record.specs.Bytes.{number_at}
use Rattle.record.proofs.number_at.Goals as goal

pub returns : goal.returns
unfolding number_at
returns c = rw (← c.byte_at.ensures, ← c.byte_at-2.ensures) (omega arith)
