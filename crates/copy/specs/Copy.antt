-- A block laid over a copy, byte by byte: what the code finds in the bytes, and what it gives and leaves.
-- What is laid is `lay` (crates/blocks/specs/Lay.antt).
use Rattle.std.specs.Prelude.{◌≡◌, Bool, true, false, List, [], ◌∷◌, length, drop, Option, Some, None, Result, Ok, Err}
use Rattle.std.specs.Prelude.{ℕ, ◌+◌, leb, eqb}
use Rattle.std.specs.Borrow.{Bor}
use Prim.Native.Char.{code}
use Rattle.words.specs.Choice.{If◌then◌else◌, ◌and◌, ◌or◌}
use Rattle.words.specs.Lists.{every}
use Rattle.words.specs.Output.{placed}
use Rattle.output.specs.declared.NoRoom.{NoRoom}
use Rattle.blocks.specs.Blocks.{Entry, entry_bytes, encode}
use Rattle.blocks.specs.Decode.{decode, valid_entry}

-- Bytes that are a block of entries that can be written: read and written again they are the same.
pub record IsBlock (bytes : List ℕ) : Type 0 where
  pub valid : every valid_entry (decode bytes) ≡ true
  pub same : encode (decode bytes) ≡ bytes

-- How many bytes come before the first below 20, which in a block is an ESC or 03.
unfoldable pub plain_length : List ℕ → ℕ
plain_length [] = 0
plain_length (byte ∷ later) =
    let further = plain_length later in
    If leb 0x20 byte then further + 1
    else 0

-- Where the entry ends whose ESC comes first.
unfoldable pub entry_end : List ℕ → ℕ
entry_end bytes = 1 + plain_length (drop 1 bytes)

-- The same bytes up to the first f, with it.
unfoldable pub same_head : List ℕ → List ℕ → Bool
same_head [] other = false
same_head (a ∷ one) [] = false
same_head (a ∷ one) (b ∷ other) = eqb a b and (eqb a (code "f") or same_head one other)

-- The first entry of a block, as its bytes, and the block of those after it.
pub record FirstEntry (block given rest : List ℕ) : Type 0 where
  pub entry : Entry
  pub entry_valid : valid_entry entry ≡ true
  pub read : decode block ≡ entry ∷ decode rest
  pub bytes : given ≡ entry_bytes entry

-- What a step over a block's entries gives and leaves: none where there is none.
abbrev pub GivesEntry : List ℕ → Option (Bor (List ℕ)) → List ℕ → Type 0
GivesEntry block (Some given) rest = FirstEntry block given.now rest
GivesEntry block None rest = decode block ≡ []

-- Bytes put into an output from its start on; where there is too little room, nothing happens.
pub record BlockLaid : Type 0 where
  pub answer : Result ℕ NoRoom
  pub output : List ℕ

unfoldable pub laying : List ℕ → List ℕ → BlockLaid
laying bytes output =
    If leb (length bytes) (length output) then record { answer = Ok (length bytes); output = placed 0 bytes output }
    else record { answer = Err (record {}); output = output }
