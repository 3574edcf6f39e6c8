-- Wrong ways for a host to find the blocks in the bytes it gets.
use Rattle.std.specs.Prelude.{List, [], ◌∷◌, ◌++◌, ℕ, eqb}
use Rattle.words.specs.Choice.{If◌then◌else◌}
use Rattle.blocks.specs.Finding.{blocks_in}

-- By 03 alone: all bytes up to it are the block, a report before it too.
pub record UpTo03 : Type 0 where
  pub held : List ℕ
  pub ended : List (List ℕ)

abbrev taking03 : ℕ → List ℕ → UpTo03
taking03 byte held =
    If eqb byte 0x03 then record { held = []; ended = (held ++ (byte ∷ [])) ∷ [] }
    else record { held = held ++ (byte ∷ []); ended = [] }

unfoldable pub up_to03 : List ℕ → List ℕ → List (List ℕ)
up_to03 held [] = []
up_to03 held (byte ∷ later) = let now = taking03 byte held in now.ended ++ up_to03 now.held later

abbrev pub by03_alone : List ℕ → List (List ℕ)
by03_alone bytes = up_to03 [] bytes

-- Where there is none, 03 is said to be one.
unfoldable pub or_else_one : List (List ℕ) → List (List ℕ)
or_else_one [] = (0x03 ∷ []) ∷ []
or_else_one (block ∷ later) = block ∷ later

abbrev pub invents_block : List ℕ → List (List ℕ)
invents_block bytes = or_else_one (blocks_in bytes)

-- None is ever found.
abbrev pub finds_none : List ℕ → List (List ℕ)
finds_none bytes = []
