use native.Mathlib.Nat.{mul-le-mul}
use native.Mathlib.Omega.{arith}
use Rattle.places.proofs.Counting.{place_is, right}
use Rattle.places.proofs.Place.end.Goals as goal

pub overflow_mul-result : goal.overflow_mul-result
overflow_mul-result c = omega (arith, mul-le-mul c.requires.0 c.requires.2)

pub invariant_of-result : goal.invariant_of-result
invariant_of-result c = record { counted = place_is _ _ _ _ c.args.rows 0 c.requires.1 (omega arith) (omega arith) (omega arith) }

pub returns : goal.returns
returns c = right _
