-- Rows and columns, counted along: what division says of the next cell and of the one before.
use mathlib.Core.Path.{◌≡◌, refl, sym, ap, ◌∙◌}
use mathlib.Core.HLevel.{is_prop→PathP}
use Prim.Native.Nat.{ℕ, zero, suc, ◌+◌, ◌-◌, ◌*◌, ◌/◌, ◌%◌, ◌<◌, ◌≤◌}
use native.Mathlib.Nat.{ℕ_set, div-add-mod', div-le_self, div-lt_iff_lt-mul, div-zero, mod-lt, mod-zero, mul-zero, zero-div, zero-mod, zero-mul}
use native.Mathlib.Omega.{arith}
use Rattle.words.proofs.Walking.{once_more}
use lib.Arith.{digits_div, digits_mod}
use Rattle.places.specs.declared.Place.{Place}
use Rattle.places.specs.Places.{place_of}

-- What a place says of itself (its ghost field): its row and its column are those of its cell.
abbrev pub Right : (columns cell row column : ℕ) → Type 0
Right columns cell row column = (row ≡ cell / columns + 1) × (column ≡ cell % columns + 1)

-- So it is the place of its cell.
pub right : (place : Place) → place ≡ place_of place.columns place.cell
unfolding place_of
right place =
    λ i. record {
      cell = place.cell;
      row = place.counted.0 i;
      column = place.counted.1 i;
      columns = place.columns;
      counted = is_prop→PathP (λ j. Right place.columns place.cell (place.counted.0 j) (place.counted.1 j))
          (λ j x y k. (ℕ_set _ _ x.0 y.0 k, ℕ_set _ _ x.1 y.1 k)) place.counted (refl, refl) i;
    }

-- The cell that has so many rows above it and so many columns to its left.
pub place_is : (columns cell row column above left : ℕ) → left < columns → cell ≡ above * columns + left → row ≡ above + 1 → column ≡ left + 1 → Right columns cell row column
place_is columns cell row column above left h e r c =
    (r ∙ ap (λ (n : ℕ). n + 1) (sym (rw e (digits_div above h))), c ∙ ap (λ (n : ℕ). n + 1) (sym (rw e (digits_mod above h))))

-- A place that was counted along.
module _ (columns cell : ℕ) {place : Place} (is : place ≡ place_of columns cell) where
  pub cell_is : place.cell ≡ cell
  unfolding place_of
  cell_is = ap (λ (p : Place). p.cell) is

  pub columns_are : place.columns ≡ columns
  unfolding place_of
  columns_are = ap (λ (p : Place). p.columns) is

-- What a place says of itself, where it has columns.
pub record Spelt (columns number row column above left : ℕ) : Type 0 where
  pub within_row : left < columns
  pub cell : number ≡ above * columns + left
  pub row_is : row ≡ above + 1
  pub column_is : column ≡ left + 1

module _ (columns cell row column : ℕ) (is : Right columns cell row column) where
  pub spelt : 0 < columns → Spelt columns cell row column (cell / columns) (cell % columns)
  spelt some =
      record {
        within_row = mod-lt cell some;
        cell = sym (div-add-mod' cell columns);
        row_is = is.0;
        column_is = is.1;
      }

  pub row_fits : row ≤ cell + 1
  row_fits = omega (arith, is.0, div-le_self cell columns)

-- A cell that is not the first and stands at the left margin has a row above it.
pub row_above : (cell columns above : ℕ) → 0 < cell → cell ≡ above * columns → 0 < above
row_above cell columns zero h e = absurd (omega (arith, zero-mul columns))
row_above cell columns (suc above) h e = omega arith

pub row_less : (above columns : ℕ) → 0 < above → above * columns ≡ (above - 1) * columns + columns
row_less above columns h = let again : above ≡ above - 1 + 1 = omega arith in ap (λ (n : ℕ). n * columns) again ∙ once_more (above - 1) columns

-- The cell after one, in its row and in the next; and the cell before one. (A page of no columns has one endless row.)
pub next_in_row : (columns cell row column : ℕ) → Right columns cell row column → (column ≡ columns → ⊥) → Right columns (cell + 1) row (column + 1)
next_in_row zero cell row column is more =
    (omega (arith, is.0, div-zero cell, div-zero (cell + 1)), omega (arith, is.1, mod-zero cell, mod-zero (cell + 1)))
next_in_row (suc before) cell row column is more =
    let now = spelt (suc before) cell row column is (omega arith) in
    place_is _ _ _ _ (cell / suc before) (cell % suc before + 1)
    (omega arith) (omega arith) (omega arith) (omega arith)

pub next_row : (columns cell row column : ℕ) → Right columns cell row column → column ≡ columns → Right columns (cell + 1) (row + 1) 1
next_row columns cell row column is last =
    let now = spelt columns cell row column is (omega (arith, is.1)) in
    let below = once_more (cell / columns) columns in
    place_is _ _ _ _ (cell / columns + 1) 0 (omega arith) (omega arith) (omega arith) (omega arith)

pub back_in_row : (columns cell row column : ℕ) → Right columns cell row column → 1 < column → Right columns (cell - 1) row (column - 1)
back_in_row zero cell row column is more =
    (omega (arith, is.0, div-zero cell, div-zero (cell - 1)), omega (arith, is.1, mod-zero cell, mod-zero (cell - 1)))
back_in_row (suc before) cell row column is more =
    let now = spelt (suc before) cell row column is (omega arith) in
    place_is _ _ _ _ (cell / suc before) (cell % suc before - 1)
    (omega arith) (omega arith) (omega arith) (omega arith)

pub row_before : (columns cell row column : ℕ) → Right columns cell row column → 0 < cell → column ≤ 1 → Right columns (cell - 1) (row - 1) columns
row_before zero cell row column is some first = absurd (omega (arith, is.1, mod-zero cell))
row_before (suc before) cell row column is some first =
    let now = spelt (suc before) cell row column is (omega arith) in
    let above = row_above cell (suc before) (cell / suc before) some (omega arith) in
    let less = row_less (cell / suc before) (suc before) above in
    place_is _ _ _ _ (cell / suc before - 1) before (omega arith) (omega arith) (omega arith) (omega arith)

-- Where the cell is one of so many rows, the place's row is one of them, and its column one of the columns.
pub on_rows : (place : Place) (rows : ℕ) → 0 < place.columns → place.cell < rows * place.columns → (place.row ≤ rows) × (place.column ≤ place.columns)
on_rows place rows some h =
    let now = spelt place.columns place.cell place.row place.column place.counted some in
    let above : place.cell / place.columns < rows = (div-lt_iff_lt-mul some).1 h in
    (omega arith, omega arith)

-- A page that has cells has columns.
pub some_columns : (rows columns : ℕ) → 0 < rows * columns → 0 < columns
some_columns rows zero h = absurd (omega (arith, mul-zero rows))
some_columns rows (suc columns) h = omega arith

-- The first cell of a page is 1;1.
pub first_is : (columns : ℕ) → ((place_of columns 0).row ≡ 1) × ((place_of columns 0).column ≡ 1)
unfolding place_of
first_is columns = (omega (arith, zero-div columns), omega (arith, zero-mod columns))
