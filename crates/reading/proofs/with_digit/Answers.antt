use native.Mathlib.Omega.{arith}
use Rattle.words.proofs.Choosing.{range_holds}
use Rattle.reading.proofs.with_digit.Goals as goal

pub overflow_sub-digit : goal.overflow_sub-digit
overflow_sub-digit c = let range = range_holds _ _ _ c.requires in omega arith
