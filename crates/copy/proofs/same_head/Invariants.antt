use mathlib.Core.Path.{◌≡◌}
use lib.ListN.{length, drop}
use Rattle.copy.specs.Copy.{same_head}
use Rattle.copy.proofs.same_head.Given as goal

-- the heads are the same if they are so from here on
abbrev pub invariant-loop-a : goal.invariant-loop-a
invariant-loop-a l = same_head l.one l.other ≡ same_head (drop (length l.yielded) l.one) (drop (length l.yielded) l.other)
