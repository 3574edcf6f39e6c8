use Rattle.std.proofs.Common.{take}
use Rattle.frames.specs.Transcript.{SoFar, after_bytes}
use Rattle.frames.specs.Held.{Holds}
use Rattle.transcript.proofs.take_bytes.Given as goal

-- what is held is what the bytes so far leave
abbrev pub invariant-loop-byte : goal.invariant-loop-byte
invariant-loop-byte g l =
    (read : SoFar) →
    Holds read l.initial.reading.held l.initial.reading.digits
    l.initial.rooms.line l.initial.rooms.characters l.initial.rooms.marks →
    Holds (after_bytes (take l.byte-index l.bytes) read) l.reading.held l.reading.digits
    l.rooms.line l.rooms.characters l.rooms.marks
