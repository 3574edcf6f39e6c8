use Rattle.std.proofs.Common.{List, ℕ}
use Rattle.frames.specs.Transcript.{none_so_far, after_bytes}
use Rattle.frames.specs.Held.{Holds}
use Rattle.transcript.proofs.read_all.Given as goal

-- what is held is what the bytes read so far leave
abbrev pub invariant-loop : goal.invariant-loop
invariant-loop g l =
    (bytes : List ℕ) ×
    Holds (after_bytes bytes none_so_far) l.here.held l.here.digits l.rooms.line l.rooms.characters l.rooms.marks
