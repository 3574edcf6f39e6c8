-- A block laid over a copy of an earlier one, from the bytes of the two alone.
use Rattle.std.specs.Prelude.{Bool, List, [], ◌∷◌, map, ℕ, eqb}
use Rattle.words.specs.Choice.{If◌then◌else◌, ◌and◌}
use Rattle.blocks.specs.Blocks.{Entry, encode}
use Rattle.blocks.specs.Decode.{decode}

-- The same row and column.
unfoldable pub same_place : Entry → Entry → Bool
same_place a b = eqb a.row b.row and eqb a.column b.column

-- A field of the copy, with the characters that the block has for its row and column, however many; else as it is.
-- Of two entries for one place the first counts; no page sends two (`InOrder`, fields/proofs/Claims.antt).
unfoldable pub laid_on : List Entry → Entry → Entry
laid_on [] field = field
laid_on (sent ∷ later) field =
    let further = laid_on later field in
    If same_place sent field then sent
    else further

-- A field that the copy lacks is passed by.
unfoldable pub lay : List ℕ → List ℕ → List ℕ
lay block copy = encode (map (laid_on (decode block)) (decode copy))
