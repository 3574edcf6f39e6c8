-- Document 01, "Fields, keys and blocks", its first rule, as document 02, M-101, has it: what a field is.
-- `unprotected` tells which cells are unprotected, by their numbers; `cells` is how many the page has.
use Rattle.std.specs.Prelude.{Bool, false, not, List, [], ◌∷◌, ℕ, zero, suc, ◌+◌, ◌-◌}
use Rattle.words.specs.Choice.{If◌then◌else◌, ◌and◌}

-- The cell and the one before it in page order belong to one field. The first cell is not joined to the last.
unfoldable pub joined : (ℕ → Bool) → ℕ → Bool
joined unprotected zero = false
joined unprotected (suc before) = unprotected before and unprotected (suc before)

-- A field starts at the cell.
unfoldable pub starts_field : (ℕ → Bool) → ℕ → Bool
starts_field unprotected cell = unprotected cell and not (joined unprotected cell)

-- The first cell of the field that has the cell.
unfoldable pub field_start : (ℕ → Bool) → ℕ → ℕ
field_start unprotected zero = zero
field_start unprotected (suc before) =
    let further = field_start unprotected before in
    If joined unprotected (suc before) then further
    else suc before

-- The cell after the last of the field that has the cell; `more` is how many cells of the page come after the cell.
unfoldable pub end_from : (ℕ → Bool) → ℕ → ℕ → ℕ
end_from unprotected cell zero = cell + 1
end_from unprotected cell (suc more) =
    let further = end_from unprotected (cell + 1) more in
    If joined unprotected (cell + 1) then further
    else cell + 1

unfoldable pub field_end : (ℕ → Bool) → ℕ → ℕ → ℕ
field_end unprotected cells cell = end_from unprotected cell (cells - (cell + 1))

-- A field, by its first cell and how many it has.
pub record Field : Type 0 where
  pub start : ℕ
  pub length : ℕ

abbrev pub field_from : (ℕ → Bool) → ℕ → ℕ → Field
field_from unprotected cells cell = record { start = cell; length = field_end unprotected cells cell - cell }

-- The fields that start at one of the n cells from `cell` on, in page order.
unfoldable pub fields_from : (ℕ → Bool) → ℕ → ℕ → ℕ → List Field
fields_from unprotected cells cell zero = []
fields_from unprotected cells cell (suc n) =
    let later = fields_from unprotected cells (cell + 1) n in
    If starts_field unprotected cell then field_from unprotected cells cell ∷ later
    else later

-- All fields of the page.
unfoldable pub fields_of : (ℕ → Bool) → ℕ → List Field
fields_of unprotected cells = fields_from unprotected cells 0 cells
