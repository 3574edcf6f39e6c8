use Rattle.std.proofs.Common.{◌≡◌, ◌≤◌, length}
use Rattle.frames.specs.Held.{session_in}
use Rattle.frames.proofs.Running.{to_come}
use Rattle.transcript.proofs.do_calls.Given as goal

-- the place to carry on from is in the line, whose room stays, and what the calls still to come leave is what all leave
abbrev pub invariant-loop : goal.invariant-loop
invariant-loop g l =
    (l.from ≤ 512) × (length l.rooms.line ≡ 512) ×
    ((to_come l.kind l.rooms.line l.counter l.from (session_in l.here l.rooms.characters l.rooms.marks)).after
    ≡ (to_come l.kind l.initial.rooms.line 0 l.initial.from
    (session_in l.initial.here l.initial.rooms.characters l.initial.rooms.marks)).after)
