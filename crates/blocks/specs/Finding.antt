-- The blocks in a stream of blocks and reports, found from its bytes alone, one by one. Any bytes can be read.
use Rattle.std.specs.Prelude.{Bool, List, [], ◌∷◌, ◌++◌, ℕ, eqb}
use Prim.Native.Char.{code}
use Rattle.words.specs.Choice.{If◌then◌else◌, ◌or◌}

-- n or R ends a report, f a field's head. A sequence is read on to the first of these.
unfoldable pub ends_report : ℕ → Bool
ends_report byte = eqb byte (code "n") or eqb byte (code "R")

unfoldable pub ends_head : ℕ → Bool
ends_head byte = eqb byte (code "f")

-- What the host holds after a byte: the block that is going on; the sequence being read, from its ESC on, and []
-- outside one; the block that the byte ended, if it ended one.
pub record Held : Type 0 where
  pub block : List ℕ
  pub sequence : List ℕ
  pub ended : List (List ℕ)

abbrev pub holding : List ℕ → List ℕ → Held
holding block sequence = record { block = block; sequence = sequence; ended = [] }

-- Outside a sequence ESC begins one, 03 ends the block, and any other byte is a character of it.
unfoldable pub outside : ℕ → List ℕ → Held
outside byte block =
    If eqb byte 0x1B then holding block (byte ∷ [])
    else If eqb byte 0x03 then record { block = []; sequence = []; ended = (block ++ (byte ∷ [])) ∷ [] }
    else holding (block ++ (byte ∷ [])) []

-- Inside one: a report is no part of the block, a field's head is.
unfoldable pub inside : ℕ → List ℕ → List ℕ → Held
inside byte block sequence =
    If ends_report byte then holding block []
    else If ends_head byte then holding (block ++ (sequence ++ (byte ∷ []))) []
    else holding block (sequence ++ (byte ∷ []))

unfoldable pub after_byte : ℕ → List ℕ → List ℕ → Held
after_byte byte block [] = outside byte block
after_byte byte block (esc ∷ begun) = inside byte block (esc ∷ begun)

-- The blocks that end in the bytes to come. One that has not ended is not found.
unfoldable pub blocks_from : Held → List ℕ → List (List ℕ)
blocks_from held [] = []
blocks_from held (byte ∷ later) =
    let now = after_byte byte held.block held.sequence in
    now.ended ++ blocks_from now later

abbrev pub blocks_in : List ℕ → List (List ℕ)
blocks_in bytes = blocks_from (holding [] []) bytes
