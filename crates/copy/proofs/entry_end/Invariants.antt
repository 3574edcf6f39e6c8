use mathlib.Core.Path.{◌≡◌}
use Prim.Native.Nat.{◌+◌, ◌≤◌}
use lib.ListN.{length, drop}
use Rattle.copy.specs.Copy.{plain_length, entry_end}
use Rattle.copy.proofs.entry_end.Given as goal

-- the entry ends as many bytes from here as are plain
abbrev pub invariant-loop-end : goal.invariant-loop-end
invariant-loop-end l = (l.end ≤ length l.bytes) × (entry_end l.bytes ≡ l.end + plain_length (drop l.end l.bytes))
