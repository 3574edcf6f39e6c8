use Rattle.std.proofs.Common.{◌≤◌}
use Rattle.calls.proofs.count_changed.Given as goal

-- no more have been counted than were looked at
abbrev pub invariant-loop-byte : goal.invariant-loop-byte
invariant-loop-byte l = l.changed ≤ l.byte-index
