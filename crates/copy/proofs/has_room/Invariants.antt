use mathlib.Core.Path.{◌≡◌}
use Prim.Native.Nat.{◌+◌}
use lib.ListN.{length}
use Rattle.blocks.specs.Lay.{lay}
use Rattle.copy.proofs.has_room.Given as goal

-- what is laid before here is what has been taken from the room
abbrev pub invariant-loop-own : goal.invariant-loop-own
invariant-loop-own l =
    let block = l.block.bytes.now in
    length (lay block l.fn.copy.bytes.now) + l.left ≡ l.room + length (lay block l.own-iterator.bytes.now)
