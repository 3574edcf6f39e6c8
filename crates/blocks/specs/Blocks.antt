-- Document 01, "Fields, keys and blocks": the block that is sent to the host.
use Rattle.std.specs.Prelude.{Bool, List, [], ◌∷◌, ◌++◌, map, ℕ, ◌-◌, leb, length, take, drop, Result, Ok, Err}
use Prim.Native.Char.{code}
use Rattle.words.specs.Choice.{If◌then◌else◌, ◌and◌, ◌or◌}
use Rattle.words.specs.Lists.{selected}
use Rattle.words.specs.Output.{placed}
use Rattle.page.specs.declared.Attribute.TheVariants.{Modified}
use Rattle.page.specs.Marks.{unprotected}
use Rattle.page.specs.Page.{Page, cells, some_have, modified_cleared}
use Rattle.places.specs.Places.{place_of}
use Rattle.output.specs.declared.NoRoom.{NoRoom}
use Rattle.output.specs.Decimal.{place_bytes}
use Rattle.fields.specs.Fields.{Field, starts_field, field_from, fields_of}

-- What a block says of one field: where it starts, and its characters.
pub record Entry : Type 0 where
  pub row : ℕ
  pub column : ℕ
  pub characters : List ℕ

-- ESC [ row ; column f
abbrev pub head_bytes : ℕ → ℕ → List ℕ
head_bytes row column = place_bytes row column (code "f")

-- and the field's characters.
unfoldable pub entry_bytes : Entry → List ℕ
entry_bytes entry = head_bytes entry.row entry.column ++ entry.characters

-- A block: all its entries, then 03.
unfoldable pub encode : List Entry → List ℕ
encode [] = 0x03 ∷ []
encode (entry ∷ later) = entry_bytes entry ++ encode later

-- The entry of a field, on a page of so many columns.
unfoldable pub entry_of : ℕ → List ℕ → Field → Entry
entry_of columns characters field =
    record {
      row = (place_of columns field.start).row;
      column = (place_of columns field.start).column;
      characters = take field.length (drop field.start characters);
    }

-- One of the n cells from `cell` on is modified.
abbrev pub some_modified : List ℕ → ℕ → ℕ → Bool
some_modified = some_have Modified

-- Which fields are sent: all, or those in which something is modified.
unfoldable pub is_in_block : Bool → List ℕ → Field → Bool
is_in_block full marks field = full or some_modified marks field.start field.length

unfoldable pub entries_sent : Bool → ℕ → Page → List Entry
entries_sent full columns page =
    map (entry_of columns page.characters)
    (selected (is_in_block full page.marks) (fields_of (unprotected page.marks) (cells page)))

unfoldable pub block : Bool → ℕ → Page → List ℕ
block full columns page = encode (entries_sent full columns page)

-- What the block has for a cell: the entry of the field that starts there, if it is sent.
-- (The code goes by this; no rule does.)
unfoldable pub bytes_at : Bool → ℕ → Page → ℕ → List ℕ
bytes_at full columns page cell =
    let field = field_from (unprotected page.marks) (cells page) cell in
    If starts_field (unprotected page.marks) cell and is_in_block full page.marks field then
    entry_bytes (entry_of columns page.characters field)
    else []

-- Sending a block into the room left from a place of the output on. Where there is too little, nothing happens.
pub record BlockWritten : Type 0 where
  pub answer : Result ℕ NoRoom
  pub marks : List ℕ
  pub output : List ℕ

unfoldable pub writing_block : Bool → ℕ → Page → ℕ → List ℕ → BlockWritten
writing_block full columns page at output =
    If leb (length (block full columns page)) (length output - at) then
    record {
      answer = Ok (length (block full columns page));
      marks = modified_cleared page.marks;
      output = placed at (block full columns page) output;
    }
    else record { answer = Err (record {}); marks = page.marks; output = output }
