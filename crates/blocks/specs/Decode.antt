-- A block read back from its bytes: what a host does that was written for these blocks. Any bytes can be read.
use Rattle.std.specs.Prelude.{Bool, List, [], ◌∷◌, map, ℕ, ◌+◌, ◌-◌, ◌*◌, eqb, ltb, drop}
use Prim.Native.Char.{code}
use Rattle.words.specs.Choice.{If◌then◌else◌, ◌and◌, ◌is◌to◌}
use Rattle.words.specs.Lists.{every}
use Rattle.page.specs.Marks.{valid_character}
use Rattle.blocks.specs.Blocks.{Entry}

-- Bytes, split at each ESC, up to the first 03: those before the first ESC, and the run after each.
pub record Split : Type 0 where
  pub before : List ℕ
  pub runs : List (List ℕ)

-- A byte in front of what comes after it.
unfoldable pub in_front : ℕ → Split → Split
in_front byte after =
    If eqb byte 0x03 then record { before = []; runs = [] }
    else If eqb byte 0x1B then record { before = []; runs = after.before ∷ after.runs }
    else record { before = byte ∷ after.before; runs = after.runs }

unfoldable pub split : List ℕ → Split
split [] = record { before = []; runs = [] }
split (byte ∷ later) = in_front byte (split later)

-- Digits are read onto a number; the byte that ends them is passed by.
pub record Number : Type 0 where
  pub value : ℕ
  pub after : List ℕ

unfoldable pub read_number : ℕ → List ℕ → Number
read_number value [] = record { value = value; after = [] }
read_number value (byte ∷ later) =
    let further = read_number (value * 10 + (byte - code "0")) later in
    If byte is code "0" to code "9" then further
    else record { value = value; after = later }

-- What follows an ESC: [ is passed by, then the row and ;, the column and f, and the characters.
unfoldable pub read_entry : List ℕ → Entry
read_entry run =
    let row = read_number 0 (drop 1 run) in
    let column = read_number 0 row.after in
    record { row = row.value; column = column.value; characters = column.after }

unfoldable pub decode : List ℕ → List Entry
decode bytes = map read_entry (split bytes).runs

-- An entry that can be written and read back: a row and a column below 1,000, and characters 20 to 7E.
-- Every entry that a page sends is one.
unfoldable pub valid_entry : Entry → Bool
valid_entry entry = ltb entry.row 1000 and ltb entry.column 1000 and every valid_character entry.characters
