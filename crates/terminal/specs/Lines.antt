-- Document 01, "Numbers a call gives back": each line as a proposition in the table's words (1 and 2 stand in `state`),
-- and the order of each call. Line 3 is about the steps of the call's bytes, or of its key: they are handed in.
use Rattle.std.specs.Prelude.{◌≡◌, true, false, ℕ, ◌+◌, ◌-◌, ◌<◌, ◌≤◌, length}
use mathlib.Core.List.{List, [], ◌∷◌, ◌++◌, Memᴰ}
use Rattle.page.specs.Page.{Page}
use Rattle.fields.specs.Fields.{Field}
use Rattle.state.specs.declared.Size.{Size}
use Rattle.state.specs.declared.State.{State}
use Rattle.state.specs.Lines.{Line1, Line2}
use Rattle.steps.specs.Steps.{Terminal, Stepped, bytes_of, cursor_cell}
use Rattle.steps.specs.Seen.{character_at, unprotected_at, takes_at, required_at, fields_here, end_here}
use Rattle.terminal.specs.Runs.{bytes_sent_by}

-- 3: a transmission is longer than the room that those before it left.
pub record Line3 (room : ℕ) (steps : List Stepped) : Type 0 where
  pub before : List Stepped
  pub next : Stepped
  pub later : List Stepped
  pub are : steps ≡ before ++ (next ∷ later)
  pub fit : length (bytes_sent_by before) ≤ room
  pub exceeds : room - length (bytes_sent_by before) < length (bytes_of next.transmission)

-- 4: the key is none of 32 to 126, 256 to 266, and 268.
pub record Line4 (key : ℕ) : Type 0 where
  pub no_character : 32 ≤ key → key ≤ 126 → ⊥
  pub no_other_key : 256 ≤ key → key ≤ 266 → ⊥
  pub not_268 : key ≡ 268 → ⊥

-- 5: a lock is set, and the key is not 268.
pub data Line5 (key : ℕ) (s : State) : Type 0 where
  manual_lock : s.locks.manual ≡ true → (key ≡ 268 → ⊥) → Line5 key s
  soft_lock : s.locks.soft ≡ true → (key ≡ 268 → ⊥) → Line5 key s

-- 6: more than 65,536 host bytes.
abbrev pub Line6 : List ℕ → Type 0
Line6 bytes = 65536 < length bytes

-- 7: nothing to write in, nowhere to go.
pub data Line7 (key : ℕ) (t : Terminal) : Type 0 where
  typed_on_protected : 32 ≤ key → key ≤ 126 → unprotected_at t (cursor_cell t.state) ≡ false → Line7 key t
  edited_on_protected : 263 ≤ key → key ≤ 265 → unprotected_at t (cursor_cell t.state) ≡ false → Line7 key t
  has_no_field : 260 ≤ key → key ≤ 261 → fields_here t ≡ [] → Line7 key t

-- 8, of M-103: a character not taken. Typed; after the cursor, and the cell to its left doesn't take it (264); from the
-- cursor on, but the field's last, and the cell to its right doesn't (265).
pub data Line8 (key : ℕ) (t : Terminal) : Type 0 where
  typed_not_taken : 32 ≤ key → key ≤ 126 → takes_at t (cursor_cell t.state) key ≡ false → Line8 key t
  not_taken_on_the_left : key ≡ 264 → (cell : ℕ) → cursor_cell t.state < cell → cell < end_here t
      → takes_at t (cell - 1) (character_at t cell) ≡ false → Line8 key t
  not_taken_on_the_right : key ≡ 265 → (cell : ℕ) → cursor_cell t.state ≤ cell → cell + 1 < end_here t
      → takes_at t (cell + 1) (character_at t cell) ≡ false → Line8 key t

-- A field has a required cell. One of the page's is left blank: it has such a cell, and holds only 20s.
pub record HasRequired (t : Terminal) (field : Field) : Type 0 where
  pub cell : ℕ
  pub from_start : field.start ≤ cell
  pub before_end : cell < field.start + field.length
  pub is_required : required_at t cell ≡ true

pub record LeftBlank (t : Terminal) (field : Field) : Type 0 where
  pub on_page : Memᴰ field (fields_here t)
  pub has_required : HasRequired t field
  pub only_20s : (cell : ℕ) → field.start ≤ cell → cell < field.start + field.length → character_at t cell ≡ 0x20

-- 9, of M-107: the key is 266, and some field is left blank.
pub data Line9 (key : ℕ) (t : Terminal) : Type 0 where
  required_blank : key ≡ 266 → (field : Field) → LeftBlank t field → Line9 key t

-- A line of the table: its number, and when it holds.
pub record TableLine : Type 1 where
  pub number : ℕ
  pub Holds : Type 0

infix 68 ◌when◌
abbrev pub ◌when◌ : ℕ → Type 0 → TableLine
number when Holds = record { number = number; Holds = Holds }

-- The number is that of the first line that holds, and 0 where none does.
pub data Decides : List TableLine → ℕ → Type 1 where
  none_holds : Decides [] 0
  this_holds : (row : TableLine) (later : List TableLine) → row.Holds → Decides (row ∷ later) row.number
  not_this : (row : TableLine) (later : List TableLine) (number : ℕ) → (row.Holds → ⊥)
      → Decides later number → Decides (row ∷ later) number

abbrev pub start_table : Size → Page → List TableLine
start_table size page = 1 when Line1 size page ∷ []

abbrev pub host_table : Terminal → List ℕ → ℕ → List Stepped → List TableLine
host_table t bytes room steps =
    1 when Line1 t.state.size t.page
    ∷ 2 when Line2 t.state t.page
    ∷ 6 when Line6 bytes
    ∷ 3 when Line3 room steps
    ∷ []

abbrev pub key_table : Terminal → ℕ → ℕ → Stepped → List TableLine
key_table t key room step =
    1 when Line1 t.state.size t.page
    ∷ 2 when Line2 t.state t.page
    ∷ 4 when Line4 key
    ∷ 5 when Line5 key t.state
    ∷ 7 when Line7 key t
    ∷ 8 when Line8 key t
    ∷ 9 when Line9 key t
    ∷ 3 when Line3 room (step ∷ [])
    ∷ []
