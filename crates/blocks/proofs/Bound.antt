-- No block exceeds 35,138 bytes, and one has as many.
use mathlib.Core.Path.{◌≡◌, refl, sym, ap, ◌∙◌}
use mathlib.Core.Bool.{Bool, true, false}
use Prim.Native.Nat.{ℕ, zero, suc, ◌+◌, ◌-◌, ◌*◌, ◌<◌, ◌≤◌, max}
use native.Mathlib.Nat.{mul-le-mul_right, suc-mul, zero-mul}
use native.Mathlib.Numerals.{add-one, sub-one}
use native.Mathlib.Omega.{arith}
use lib.Arith.{digits_div, digits_mod}
use lib.ListN.{length, replicate, length-replicate}
use Rattle.words.specs.Choice.{If◌then◌else◌, ◌and◌, ◌or◌}
use Rattle.words.proofs.Choosing.{true_is_not_false, either_line, either_way}
use Rattle.words.proofs.Writing.{get_d_each}
use Rattle.page.specs.Marks.{unprotected}
use Rattle.page.specs.Page.{Page, cells}
use Rattle.places.specs.Places.{place_of}
use Rattle.words.proofs.Walking.{once_more}
use Rattle.fields.specs.Fields.{joined, starts_field}
use Rattle.fields.proofs.Laws.{joined-unprotected, are_joined, joined_alike, joined_starts_not, protected_starts_not}
use Rattle.output.specs.Decimal.{decimal}
use Rattle.blocks.specs.Blocks.{block}
use Rattle.blocks.proofs.Claims.{blank_form, first_and_even}
use Rattle.blocks.proofs.Weighing.{total, total-append, total_same, opening, weight, block-length, no_longer}

-- What a field's start needs, by the rows above it and the columns to its left.
needed : ℕ → ℕ → ℕ
needed above left = 4 + length (decimal (above + 1)) + length (decimal (left + 1))

-- Whether the cell before this one is unprotected; before the first there is none.
unprotected_before : (ℕ → Bool) → ℕ → Bool
unprotected_before is_unprotected zero = false
unprotected_before is_unprotected (suc before) = is_unprotected before

-- The most that the cells from some cell on can add, by whether the cell before it is unprotected.
record Most : Type 0 where
  after_protected : ℕ
  after-unprotected : ℕ

most_after : Bool → Most → ℕ
most_after is_unprotected bound = If is_unprotected then bound.after-unprotected else bound.after_protected

-- One cell more, in front of these: if it is unprotected, it starts a field or belongs to that of the cell before it.
one_more : ℕ → Most → Most
one_more start later =
    record {
      after_protected = max later.after_protected (start + 1 + later.after-unprotected);
      after-unprotected = max later.after_protected (1 + later.after-unprotected);
    }

-- Of n cells of a row, and of those behind them.
most : ℕ → ℕ → ℕ → Most → Most
most above left zero behind = behind
most above left (suc n) behind = let later = most above (left + 1) n behind in one_more (needed above left) later

-- Of the last n rows.
most_of_rows : ℕ → ℕ → ℕ → Most
most_of_rows columns above zero = record { after_protected = 0; after-unprotected = 0 }
most_of_rows columns above (suc n) = let below = most_of_rows columns (above + 1) n in most above 0 columns below

-- What it adds keeps to this bound, if what comes after it does.
one_more_lem : (is_unprotected before : Bool) (added later start : ℕ) (bound : Most)
    → (is_unprotected ≡ false → added ≡ 0) → (before ≡ true → is_unprotected ≡ true → added ≡ 1) → added ≤ start + 1 → later ≤ most_after is_unprotected bound
    → added + later ≤ most_after before (one_more start bound)
unfolding If◌then◌else◌ most_after one_more
one_more_lem false true added later start bound none one most h = omega (arith, none refl)
one_more_lem false false added later start bound none one most h = omega (arith, none refl)
one_more_lem true true added later start bound none one most h = omega (arith, one refl refl)
one_more_lem true false added later start bound none one most h = omega arith

module _ (is_unprotected : ℕ → Bool) (columns : ℕ) where
  -- What a cell adds: nothing if it is protected, one byte if it is joined to the one before it,
  -- and in any case no more than a start and a byte.
  protected_weight : (cell : ℕ) → is_unprotected cell ≡ false → weight is_unprotected columns cell ≡ 0
  unfolding weight If◌then◌else◌
  protected_weight cell f = rw (protected_starts_not is_unprotected cell f, f)

  joined_weight : (cell : ℕ) → joined is_unprotected cell ≡ true → weight is_unprotected columns cell ≡ 1
  unfolding weight If◌then◌else◌
  joined_weight cell j = rw (joined_starts_not is_unprotected cell j, (joined-unprotected is_unprotected cell j).1)

  any_weight : (cell : ℕ) → weight is_unprotected columns cell ≤ opening columns cell + 1
  unfolding weight
  any_weight cell =
      let one : (If is_unprotected cell then 1 else 0) ≤ 1 = either_line (λ (n : ℕ). n ≤ 1) (is_unprotected cell) _ _ (λ _. omega arith) (λ _. omega arith) in
      either_line (λ (n : ℕ). n + (If is_unprotected cell then 1 else 0) ≤ opening columns cell + 1) (starts_field is_unprotected cell) _ _ (λ _. omega arith) (λ _. omega arith)

  inside_weight : (cell : ℕ) → unprotected_before is_unprotected cell ≡ true → is_unprotected cell ≡ true → weight is_unprotected columns cell ≡ 1
  unfolding unprotected_before
  inside_weight zero before here = absurd (true_is_not_false (sym before))
  inside_weight (suc cell) before here =
      joined_weight (suc cell) (are_joined is_unprotected (suc cell) (omega arith) (rw (sub-one (suc cell)) before) here)

  start_weight : (above left : ℕ) → left < columns → weight is_unprotected columns (above * columns + left) ≤ needed above left + 1
  unfolding opening place_of needed
  start_weight above left fits = rw (digits_div above fits, digits_mod above fits) at (any_weight (above * columns + left))

  before_next : (cell : ℕ) → unprotected_before is_unprotected (cell + 1) ≡ is_unprotected cell
  unfolding unprotected_before
  before_next cell = rw (add-one cell)

  -- The n cells at the end of a row with what comes after it, and the last n rows.
  row_from : (above n left : ℕ) (behind : Most) (rest : ℕ) → left + n ≡ columns → rest ≤ most_after (unprotected_before is_unprotected (above * columns + columns)) behind
      → total (weight is_unprotected columns) (above * columns + left) n + rest ≤ most_after (unprotected_before is_unprotected (above * columns + left)) (most above left n behind)
  unfolding total most
  row_from above zero left behind rest e h = let at_end : left ≡ columns = omega arith in rw at_end (omega arith)
  row_from above (suc n) left behind rest e h =
      let fits : left < columns = omega arith in
      let cell : ℕ = above * columns + left in
      let next : above * columns + (left + 1) ≡ cell + 1 = omega arith in
      let later = rw (next, before_next cell) at (row_from above n (left + 1) behind rest (omega arith) h) in
      omega (
        arith,
        one_more_lem (is_unprotected cell) (unprotected_before is_unprotected cell) (weight is_unprotected columns cell) _ (needed above left) _
            (protected_weight cell) (inside_weight cell) (start_weight above left fits) later,
      )

  rows_from : (n above : ℕ) → total (weight is_unprotected columns) (above * columns) (n * columns) ≤ most_after (unprotected_before is_unprotected (above * columns)) (most_of_rows columns above n)
  unfolding most_of_rows total
  rows_from zero above = rw (zero-mul columns) (omega arith)
  rows_from (suc n) above =
      let size : suc n * columns ≡ columns + n * columns = suc-mul n columns ∙ omega arith in
      let first : above * columns + 0 ≡ above * columns = omega arith in
      let below = rw (once_more above columns) at (rows_from n (above + 1)) in
      rw (size, total-append) (rw first at (row_from above columns 0 (most_of_rows columns (above + 1) n) _ (omega arith) below))

-- More columns and more rows can only add.
record NotAbove (a b : Most) : Type 0 where
  protected_case : a.after_protected ≤ b.after_protected
  unprotected_case : a.after-unprotected ≤ b.after-unprotected

one_adds : (start : ℕ) (a b : Most) → NotAbove a b → NotAbove (one_more start a) (one_more start b)
unfolding one_more
one_adds start a b h = record { protected_case = omega arith; unprotected_case = omega arith }

one_is_more : (start : ℕ) (a b : Most) → NotAbove a b → NotAbove a (one_more start b)
unfolding one_more
one_is_more start a b h = record { protected_case = omega arith; unprotected_case = omega arith }

more_columns : (above n more left : ℕ) (a b : Most) → NotAbove a b → NotAbove (most above left n a) (most above left (n + more) b)
unfolding most
more_columns above zero zero left a b h = h
more_columns above zero (suc more) left a b h =
    let size : 0 + suc more ≡ suc (0 + more) = omega arith in
    rw size (one_is_more _ _ _ (more_columns above zero more (left + 1) a b h))
more_columns above (suc n) more left a b h =
    let size : suc n + more ≡ suc (n + more) = omega arith in
    rw size (one_adds _ _ _ (more_columns above n more (left + 1) a b h))

more_rows : (columns wider n more above : ℕ) → NotAbove (most_of_rows columns above n) (most_of_rows (columns + wider) above (n + more))
unfolding most_of_rows
more_rows columns wider zero more above = record { protected_case = omega arith; unprotected_case = omega arith }
more_rows columns wider (suc n) more above =
    let size : suc n + more ≡ suc (n + more) = omega arith in
    rw size (more_columns above columns wider 0 _ _ (more_rows columns wider n more (above + 1)))

-- The largest page, of 48 rows of 160 columns.
largest : Most
largest = record { after_protected = 35137; after-unprotected = 35136 }

largest_is : most_of_rows 160 0 48 ≡ largest
unfolding most_of_rows most one_more needed decimal If◌then◌else◌ largest
largest_is = refl

-- There is no cell before the first.
below_largest : (bound : Most) → NotAbove bound largest → most_after false bound ≤ 35137
unfolding most_after largest If◌then◌else◌
below_largest bound h = h.protected_case

-- A page need not end at a row's end.
pub bounded_within : (full : Bool) (columns : ℕ) (page : Page) → columns ≤ 160 → cells page ≤ 48 * columns → length (block full columns page) ≤ 35138
unfolding unprotected_before
bounded_within full columns page narrow within =
    let is_unprotected = unprotected page.marks in
    let wider : columns + (160 - columns) ≡ 160 = omega arith in
    let first : 0 * columns ≡ 0 = zero-mul columns in
    let all : cells page + (48 * columns - cells page) ≡ 48 * columns = omega arith in
    let sum : total (weight is_unprotected columns) 0 (48 * columns) ≤ most_after false (most_of_rows columns 0 48) = rw first at (rows_from is_unprotected columns 48 0) in
    let bound : NotAbove (most_of_rows columns 0 48) largest = rw (wider, largest_is) at (more_rows columns (160 - columns) 48 0 0) in
    let rest = rw all at (total-append (weight is_unprotected columns) 0 (cells page) (48 * columns - cells page)) in
    omega (arith, no_longer full columns page, block-length columns page, below_largest _ bound, rest)

pub bounded : (full : Bool) (rows columns : ℕ) (page : Page) → rows ≤ 48 → columns ≤ 160 → cells page ≡ rows * columns
    → length (block full columns page) ≤ 35138
bounded full rows columns page few narrow size =
    let within : cells page ≤ 48 * columns = omega (arith, size, mul-le-mul_right columns few) in
    bounded_within full columns page narrow within

-- The block of a blank form, by the cells that are to be unprotected.
module _ (is_unprotected : ℕ → Bool) (cells : ℕ) where
  form_unprotected : (cell : ℕ) → cell < cells → unprotected (blank_form is_unprotected cells).marks cell ≡ is_unprotected cell
  unfolding unprotected If◌then◌else◌
  form_unprotected cell h =
      let listed : cell < length (replicate {A = ℕ} cells 0) = omega (arith, length-replicate {A = ℕ} cells 0) in
      let same : 0 + cell ≡ cell = omega arith in
      rw (get_d_each (λ k m. If is_unprotected k then 0 else 1) 0 (replicate cells 0) cell listed, same) (either_way (is_unprotected cell) (λ f. rw f) (λ f. rw f))

  -- What a cell adds is told by it and the cell before it.
  same_weight : (other : ℕ → Bool) (columns cell : ℕ) → other cell ≡ is_unprotected cell → other (cell - 1) ≡ is_unprotected (cell - 1) → weight other columns cell ≡ weight is_unprotected columns cell
  unfolding weight starts_field
  same_weight other columns cell e b = rw (e, joined_alike other is_unprotected cell e b)

  form_length : (columns : ℕ) → length (block true columns (blank_form is_unprotected cells)) ≡ 1 + total (weight is_unprotected columns) 0 cells
  form_length columns =
      let marks = (blank_form is_unprotected cells).marks in
      block-length columns (blank_form is_unprotected cells)
      ∙ rw (length-replicate {A = ℕ} cells 0x20) (ap (λ (sum : ℕ). 1 + sum) (total_same _ _ 0 cells (λ k l h. same_weight (unprotected marks) columns k (form_unprotected k (omega arith)) (form_unprotected (k - 1) (omega arith)))))

all_added : total (weight first_and_even 160) 0 7680 ≡ 35137
unfolding total weight first_and_even starts_field joined place_of opening decimal If◌then◌else◌ ◌and◌ ◌or◌
all_added = refl

pub reached : length (block true 160 (blank_form first_and_even (48 * 160))) ≡ 35138
reached = form_length first_and_even 7680 160 ∙ ap (λ (sum : ℕ). 1 + sum) all_added
