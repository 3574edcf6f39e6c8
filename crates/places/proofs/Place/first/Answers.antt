use native.Mathlib.Nat.{zero-div, zero-mod}
use native.Mathlib.Omega.{arith}
use Rattle.places.proofs.Counting.{right}
use Rattle.places.proofs.Place.first.Goals as goal

pub invariant_of-result : goal.invariant_of-result
invariant_of-result c = record { counted = (omega (arith, zero-div c.args.columns), omega (arith, zero-mod c.args.columns)) }

pub returns : goal.returns
returns c = right _
