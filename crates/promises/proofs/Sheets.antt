-- Small forms on a page of 24 by 80: all cells are protected but for some of five in page order. Their blocks can be
-- computed.
use mathlib.Core.Path.{◌≡◌, sym, ap, ◌∙◌}
use mathlib.Core.Bool.{Bool, false, not}
use mathlib.Core.List.{List, [], ◌∷◌, ◌++◌, map}
use Prim.Native.Nat.{ℕ, zero, suc, ◌+◌, ◌-◌, ◌<◌, ◌≤◌}
use native.Mathlib.Nat.{zero-add, suc-add}
use native.Mathlib.Omega.{arith}
use lib.ListN.{length, get_or, replicate, length-append, length-replicate, get_or-replicate, get_or-append}
use lib.Seq.{get_or-append-add}
use Rattle.words.specs.Choice.{If◌then◌else◌}
use Rattle.words.specs.Lists.{selected}
use Rattle.words.proofs.Choosing.{else_case}
use Rattle.page.specs.Marks.{is_protected, unprotected}
use Rattle.page.specs.Page.{Page, page_of, cells}
use Rattle.fields.specs.Fields.{Field, starts_field, field_from, fields_from, fields_of}
use Rattle.fields.proofs.Laws.{protected_starts_not}
use Rattle.fields.proofs.Listing.{none_listed}
use Rattle.blocks.specs.Blocks.{encode, entry_of, is_in_block, entries_sent, block}
use Rattle.state.specs.State.{fresh_state, with_cursor, cursor_at}
use Rattle.steps.specs.Steps.{Terminal}

-- Five among 1,920, with so many before them; the others are all the same.
abbrev pub amid : ℕ → ℕ → List ℕ → List ℕ
amid front other five = replicate front other ++ (five ++ replicate (1915 - front) other)

-- The characters and marks of the five cells after the first so many; all others are protected 20s.
abbrev pub sheet_after : ℕ → List ℕ → List ℕ → Page
sheet_after front characters marks = page_of (amid front 0x20 characters) (amid front 1 marks)

-- Those of the first five.
abbrev pub sheet : List ℕ → List ℕ → Page
sheet = sheet_after 0

-- A fresh state but for the cursor.
abbrev pub at_place : ℕ → ℕ → Page → Terminal
at_place row column page = record { state = with_cursor (fresh_state (record { rows = 24; columns = 80 })) (cursor_at row column); page = page }

-- It is in row 1.
abbrev pub at : ℕ → Page → Terminal
at = at_place 1

-- No field starts among protected cells.
module _ (is_unprotected : ℕ → Bool) (cells : ℕ) where
  no_fields : (n cell : ℕ) → ((k : ℕ) → cell ≤ k → k < cell + n → is_unprotected k ≡ false) → fields_from is_unprotected cells cell n ≡ []
  no_fields n cell protected =
      none_listed is_unprotected cells n cell (λ k low high. protected_starts_not is_unprotected k (protected k low high))

  fields_in_front : (front n cell : ℕ) → ((k : ℕ) → cell + front ≤ k → k < cell + front + n → is_unprotected k ≡ false) → fields_from is_unprotected cells cell (front + n) ≡ fields_from is_unprotected cells cell front
  unfolding fields_from
  fields_in_front zero n cell protected = rw (zero-add n) (no_fields n cell (λ k low high. protected k (omega arith) (omega arith)))
  fields_in_front (suc front) n cell protected =
      rw (suc-add front n)
      (ap (λ (later : List Field). If starts_field is_unprotected cell then field_from is_unprotected cells cell ∷ later else later)
      (fields_in_front front n (cell + 1) (λ k low high. protected k (omega arith) (omega arith))))

  fields_behind : (front n cell : ℕ) → ((k : ℕ) → cell ≤ k → k < cell + front → is_unprotected k ≡ false) → fields_from is_unprotected cells cell (front + n) ≡ fields_from is_unprotected cells (cell + front) n
  unfolding fields_from
  fields_behind zero n cell protected = let same : cell + 0 ≡ cell = omega arith in rw (zero-add n, same)
  fields_behind (suc front) n cell protected =
      let next : cell + suc front ≡ cell + 1 + front = omega arith in
      rw (suc-add front n, next)
      (else_case _ _ _ (protected_starts_not is_unprotected cell (protected cell (omega arith) (omega arith)))
      ∙ fields_behind front n (cell + 1) (λ k low high. protected k (omega arith) (omega arith)))

-- So the fields of a sheet are those of its five cells.
module _ (front : ℕ) (characters marks : List ℕ) (fits : front ≤ 1915) (five : length characters ≡ 5) (five-marks : length marks ≡ 5) where
  before_protected : (k : ℕ) → k < front → unprotected (amid front 1 marks) k ≡ false
  unfolding unprotected
  before_protected k early =
      let mark : get_or (amid front 1 marks) k 0 ≡ 1 = get_or-append (replicate front 1) (marks ++ replicate (1915 - front) 1) 0 k (omega (arith, length-replicate {A = ℕ} front 1)) ∙ get_or-replicate front k 1 0 early in
      ap (λ (m : ℕ). not (is_protected m)) mark

  after_protected : (k : ℕ) → front + 5 ≤ k → k < 1920 → unprotected (amid front 1 marks) k ≡ false
  unfolding unprotected
  after_protected k low high =
      let past : length (replicate {A = ℕ} front 1) + (length marks + (k - 5 - front)) ≡ k = omega (arith, length-replicate {A = ℕ} front 1) in
      let mark : get_or (amid front 1 marks) k 0 ≡ 1 =
      ap (λ (n : ℕ). get_or (amid front 1 marks) n 0) (sym past)
      ∙ get_or-append-add (replicate front 1) _ _ 0
      ∙ get_or-append-add marks (replicate (1915 - front) 1) (k - 5 - front) 0
      ∙ get_or-replicate (1915 - front) (k - 5 - front) 1 0 (omega arith) in
      ap (λ (m : ℕ). not (is_protected m)) mark

  sheet_cells : cells (sheet_after front characters marks) ≡ 1920
  sheet_cells =
      length-append (replicate front 0x20) _
      ∙ omega (arith, length-replicate {A = ℕ} front 0x20, length-append characters (replicate (1915 - front) 0x20), length-replicate {A = ℕ} (1915 - front) 0x20)

  pub fields_amid : fields_of (unprotected (amid front 1 marks)) (cells (sheet_after front characters marks)) ≡ fields_from (unprotected (amid front 1 marks)) 1920 front 5
  unfolding fields_of
  fields_amid =
      let is_unprotected = unprotected (amid front 1 marks) in
      let parts : 1920 ≡ front + (5 + (1915 - front)) = omega arith in
      let here : 0 + front ≡ front = omega arith in
      rw sheet_cells
      (ap (fields_from is_unprotected 1920 0) parts
      ∙ fields_behind is_unprotected 1920 front (5 + (1915 - front)) 0 (λ k low high. before_protected k (omega arith))
      ∙ ap (λ (cell : ℕ). fields_from is_unprotected 1920 cell (5 + (1915 - front))) here
      ∙ fields_in_front is_unprotected 1920 5 (1915 - front) front (λ k low high. after_protected k (omega arith) (omega arith)))

  pub block_amid : (full : Bool) → block full 80 (sheet_after front characters marks) ≡ encode (map (entry_of 80 (amid front 0x20 characters)) (selected (is_in_block full (amid front 1 marks)) (fields_from (unprotected (amid front 1 marks)) 1920 front 5)))
  unfolding block entries_sent
  block_amid full = ap (λ (fields : List Field). encode (map (entry_of 80 (amid front 0x20 characters)) (selected (is_in_block full (amid front 1 marks)) fields))) fields_amid

-- Of the first five.
module _ (characters marks : List ℕ) (five : length characters ≡ 5) (five-marks : length marks ≡ 5) where
  pub sheet_fields : fields_of (unprotected (marks ++ replicate 1915 1)) (cells (sheet characters marks)) ≡ fields_from (unprotected (marks ++ replicate 1915 1)) 1920 0 5
  sheet_fields = fields_amid 0 characters marks (omega arith) five five-marks

  pub sheet_block : (full : Bool) → block full 80 (sheet characters marks) ≡ encode (map (entry_of 80 (characters ++ replicate 1915 0x20)) (selected (is_in_block full (marks ++ replicate 1915 1)) (fields_from (unprotected (marks ++ replicate 1915 1)) 1920 0 5)))
  sheet_block = block_amid 0 characters marks (omega arith) five five-marks
