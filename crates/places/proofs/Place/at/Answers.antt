use Prim.Native.Nat.{◌-◌, ◌≤◌}
use native.Mathlib.Nat.{mul-le-mul}
use native.Mathlib.Omega.{arith}
use Rattle.places.proofs.Counting.{place_is, right}
use Rattle.places.proofs.Place.at.Goals as goal

pub overflow_mul-result : goal.overflow_mul-result
overflow_mul-result c = let above : c.args.row - 1 ≤ 48 = omega arith in omega (arith, mul-le-mul above c.requires.4)

pub overflow_add-result : goal.overflow_add-result
overflow_add-result c = let above : c.args.row - 1 ≤ 48 = omega arith in omega (arith, mul-le-mul above c.requires.4)

pub invariant_of-result : goal.invariant_of-result
invariant_of-result c =
    record {
      counted = place_is _ _ _ _ (c.args.row - 1) (c.args.column - 1) (omega arith) (omega arith) (omega arith) (omega arith);
    }

pub returns : goal.returns
returns c = right _
