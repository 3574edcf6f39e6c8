-- Document 01, "Numbers a call gives back": lines 1 and 2 in the table's words, a constructor for each clause.
use Rattle.std.specs.Prelude.{◌≡◌, true, ℕ, ◌*◌, ◌<◌, ◌≤◌, length, get_or}
use Rattle.page.specs.Marks.{is_protected, is_modified, is_numeric, is_alphabetic, is_required}
use Rattle.page.specs.Page.{Page, cells}
use Rattle.sequence.specs.Range.{HalfReadOutOfRange}
use Rattle.state.specs.declared.Size.{Size}
use Rattle.state.specs.declared.State.{State}
use Rattle.state.specs.Tabs.{stop_at}

-- The size is none of the nine, or a slice has another length than the size says.
pub data Line1 (size : Size) (page : Page) : Type 0 where
  rows_not_listed : (size.rows ≡ 24 → ⊥) → (size.rows ≡ 27 → ⊥) → (size.rows ≡ 48 → ⊥) → Line1 size page
  columns_not_listed : (size.columns ≡ 80 → ⊥) → (size.columns ≡ 132 → ⊥) → (size.columns ≡ 160 → ⊥) →
      Line1 size page
  characters_not_as_long : (cells page ≡ size.rows * size.columns → ⊥) → Line1 size page
  marks_not_as_long : (length page.marks ≡ size.rows * size.columns → ⊥) → Line1 size page

-- M-103 and M-107: marks that neither a cell nor the pen may have. One of the bits 10 to 15 is set; two kinds stand
-- together; a protected one is required.
pub data MarkOutOfRange (mark : ℕ) : Type 0 where
  above_bit_9 : 0x400 ≤ mark → MarkOutOfRange mark
  numeric_and_alphabetic : is_numeric mark ≡ true → is_alphabetic mark ≡ true → MarkOutOfRange mark
  numeric_and_protected : is_numeric mark ≡ true → is_protected mark ≡ true → MarkOutOfRange mark
  alphabetic_and_protected : is_alphabetic mark ≡ true → is_protected mark ≡ true → MarkOutOfRange mark
  required_and_protected : is_required mark ≡ true → is_protected mark ≡ true → MarkOutOfRange mark

-- A cell is 20 to 7E. The pen is without modified.
pub data Line2 (s : State) (page : Page) : Type 0 where
  -- cursor off the page
  above_first_row : s.cursor.row < 1 → Line2 s page
  below_last_row : s.size.rows < s.cursor.row → Line2 s page
  before_first_column : s.cursor.column < 1 → Line2 s page
  past_last_column : s.size.columns < s.cursor.column → Line2 s page
  -- what a cell has
  cell_too_low : (cell : ℕ) → cell < cells page → get_or page.characters cell 0 < 0x20 → Line2 s page
  cell_too_high : (cell : ℕ) → cell < cells page → 0x7E < get_or page.characters cell 0 → Line2 s page
  marks_out_of_range : (cell : ℕ) → cell < length page.marks → MarkOutOfRange (get_or page.marks cell 0) →
      Line2 s page
  -- a tab stop off the page
  stop_past_last_column : (column : ℕ) → s.size.columns < column → stop_at s.stops column ≡ true → Line2 s page
  -- the other ranges
  pen_out_of_range : MarkOutOfRange s.modes.pen → Line2 s page
  pen_modified : is_modified s.modes.pen ≡ true → Line2 s page
  -- message and byte, as M-102 has them
  message_above_4 : 4 < s.locks.message → Line2 s page
  byte_without_message : s.locks.message ≡ 0 → (s.locks.byte ≡ 0 → ⊥) → Line2 s page
  -- the half-read record's clauses have a table of their own
  half_read_out_of_range : HalfReadOutOfRange s.half → Line2 s page
