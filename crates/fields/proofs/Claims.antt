-- What the theorems claim: the words of document 01, "Fields, keys and blocks", as types; what a field is, as document
-- 02, M-101, has it.
-- `unprotected` and `cells` are as in specs/Fields.antt.
use mathlib.Core.Path.{◌≡◌}
use mathlib.Core.Bool.{Bool, true, false}
use mathlib.Core.List.{List, [], ◌∷◌, Memᴰ}
use mathlib.Core.Logic.{◌⊎◌}
use Prim.Native.Nat.{ℕ, ◌+◌, ◌-◌, ◌<◌, ◌≤◌}
use Rattle.places.specs.Places.{place_of}
use Rattle.places.specs.declared.Place.{Place}
use Rattle.std.specs.Prelude.{Option, Some, None}
use Rattle.fields.specs.Fields.{Field, field_start, field_end}

-- The cell after a field's last.
abbrev pub end_of : Field → ℕ
end_of field = field.start + field.length

-- The cell is one of the field's.
infix 20 ◌has◌
abbrev pub ◌has◌ : Field → ℕ → Type 0
field has cell = (field.start ≤ cell) × (cell < end_of field)

-- A field can't be made longer: no cell can be added before it, nor after it. The page's ends are not joined.
pub record IsField (is_unprotected : ℕ → Bool) (cells : ℕ) (field : Field) : Type 0 where
  pub some-cells : 1 ≤ field.length
  pub on_page : end_of field ≤ cells
  pub all_unprotected : (cell : ℕ) → field has cell → is_unprotected cell ≡ true
  pub none_before : (field.start ≡ 0) ⊎ (is_unprotected (field.start - 1) ≡ false)
  pub none_after : (end_of field ≡ cells) ⊎ (is_unprotected (end_of field) ≡ false)

-- The field around a cell, by its two bounds.
abbrev pub field_around : (ℕ → Bool) → ℕ → ℕ → Field
field_around is_unprotected cells cell =
    record {
      start = field_start is_unprotected cell;
      length = field_end is_unprotected cells cell - field_start is_unprotected cell;
    }

pub record IsAround (is_unprotected : ℕ → Bool) (cells cell : ℕ) : Type 0 where
  pub is_field : IsField is_unprotected cells (field_around is_unprotected cells cell)
  pub has_cell : (field_start is_unprotected cell ≤ cell) × (cell < field_end is_unprotected cells cell)
  pub one_end : field_end is_unprotected cells (field_start is_unprotected cell) ≡ field_end is_unprotected cells cell

-- From the one bound to the other all cells are unprotected.
-- This asks nothing of the numbers: the cell may be past the page.
pub record UnprotectedAround (is_unprotected : ℕ → Bool) (cells cell : ℕ) : Type 0 where
  pub low : field_start is_unprotected cell ≤ cell
  pub high : cell < field_end is_unprotected cells cell
  pub all_unprotected : (k : ℕ) → field_start is_unprotected cell ≤ k → k < field_end is_unprotected cells cell → is_unprotected k ≡ true

-- Page order: each field ends at or before the start of every later one.
-- (By membership: no claim needs a field's index in the list.)
pub data InOrder : List Field → Type 0 where
  none : InOrder []
  one_more : {field : Field} {later : List Field} → ((other : Field) → Memᴰ other later → end_of field ≤ other.start) → InOrder later → InOrder (field ∷ later)

-- The cell is in exactly one field of the list.
pub record InOneField (fields : List Field) (cell : ℕ) : Type 0 where
  pub field : Field
  pub listed : Memᴰ field fields
  pub has_cell : field has cell
  pub no_other : (other : Field) → Memᴰ other fields → other has cell → other ≡ field

-- The list has the page's fields and no others, each unprotected cell in exactly one, in page order.
pub record Lists (is_unprotected : ℕ → Bool) (cells : ℕ) (fields : List Field) : Type 0 where
  pub only_fields : (field : Field) → Memᴰ field fields → IsField is_unprotected cells field
  pub every_field : (field : Field) → IsField is_unprotected cells field → Memᴰ field fields
  pub every_cell : (cell : ℕ) → cell < cells → is_unprotected cell ≡ true → InOneField fields cell
  pub in_order : InOrder fields

-- A field of the list starts at the cell.
pub record StartsAt (fields : List Field) (cell : ℕ) : Type 0 where
  pub field : Field
  pub listed : Memᴰ field fields
  pub here : field.start ≡ cell

-- The cell is one from `from` to before `to`, and passes the test.
abbrev pub Passes : (ℕ → Bool) → ℕ → ℕ → ℕ → Type 0
Passes test from to cell = (from ≤ cell) × (cell < to) × (test cell ≡ true)

-- A search prefers the cell that comes first on the page, or the one that comes last.
abbrev pub First : ℕ → ℕ → Type 0
First cell other = cell ≤ other

abbrev pub Last : ℕ → ℕ → Type 0
Last cell other = other ≤ cell

-- What a search finds: of the cells that are wanted the one it prefers to all others, or nothing where none is wanted.
pub data Finds (columns : ℕ) (Prefers : ℕ → ℕ → Type 0) (Wanted : ℕ → Type 0) : Option Place → Type 0 where
  found : (cell : ℕ) → Wanted cell → ((other : ℕ) → Wanted other → Prefers cell other) → Finds columns Prefers Wanted (Some (place_of columns cell))
  nothing : ((cell : ℕ) → Wanted cell → ⊥) → Finds columns Prefers Wanted None

-- A search that goes round the page:
-- where cells ahead are wanted it finds one of these, else one of all that are wanted.
pub record GoesRound (columns : ℕ) (Prefers : ℕ → ℕ → Type 0) (Wanted Ahead : ℕ → Type 0) (sought : Option Place) : Type 0 where
  pub ahead : (cell : ℕ) → Wanted cell → Ahead cell → Finds columns Prefers (λ k. Wanted k × Ahead k) sought
  pub round : ((cell : ℕ) → Wanted cell → Ahead cell → ⊥) → Finds columns Prefers Wanted sought

-- What was found, if anything was, is a cell of the page.
pub data Lands (columns cells : ℕ) : Option Place → Type 0 where
  on_cell : (cell : ℕ) → cell < cells → Lands columns cells (Some (place_of columns cell))
  not_found : Lands columns cells None
