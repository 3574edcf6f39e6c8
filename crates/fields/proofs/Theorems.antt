-- What document 01, "Fields, keys and blocks", says of fields, as document 02, M-101, has them, and of the cells that
-- keys look for; Claims.antt has the words.
-- Each holds for any test `unprotected` of which cells are unprotected.
-- The contracts in src/lib.rt say that the code gives what is spoken of here.
use mathlib.Core.Path.{◌≡◌}
use mathlib.Core.Bool.{Bool, true}
use mathlib.Core.List.{List, [], ◌∷◌}
use Prim.Native.Nat.{ℕ, ◌+◌, ◌-◌, ◌<◌}
use native.Mathlib.Omega.{arith}
use Rattle.std.specs.Prelude.{None}
use Rattle.fields.specs.Fields.{Field, fields_of}
use Rattle.fields.specs.Searches.{first_field, last_field, first_after, last_before, next_field, previous_field, first_unprotected_from, first_unprotected, next_unprotected}
use Rattle.fields.proofs.Claims.{IsField, ◌has◌, IsAround, InOrder, Lists, StartsAt, Passes, First, Last, Finds, GoesRound, UnprotectedAround, Lands}
use Rattle.fields.proofs.Bounds.{around, same_field, all_unprotected_around}
use Rattle.fields.proofs.Listing.{in_order, lists_fields, listed_starts, one_whole_field}
use Rattle.fields.proofs.Searching.{in_other_words, goes_round, finds_something, first_of, last_of, first_after_lem, last_before_lem, first_unprotected_lem, finds_on_page, either_lands}

module _ (is_unprotected : ℕ → Bool) (cells : ℕ) where
  -- Around an unprotected cell there is a field, and `field_start` and `field_end` are its bounds.
  pub field_around : (cell : ℕ) → cell < cells → is_unprotected cell ≡ true → IsAround is_unprotected cells cell
  field_around = around is_unprotected cells

  -- Two fields that share a cell are one.
  pub one_field : {one other : Field} → IsField is_unprotected cells one → IsField is_unprotected cells other → (cell : ℕ) → one has cell → other has cell → one ≡ other
  one_field = same_field is_unprotected cells

  -- `fields_of` lists the page's fields, all of them and nothing else, each unprotected cell in exactly one of them, in
  -- page order.
  pub all_fields_listed : Lists is_unprotected cells (fields_of is_unprotected cells)
  all_fields_listed = lists_fields is_unprotected cells

  -- Where all cells are unprotected, as on a fresh page, there is one field, which has them all.
  pub all_one_field : 0 < cells → ((cell : ℕ) → cell < cells → is_unprotected cell ≡ true) → fields_of is_unprotected cells ≡ record { start = 0; length = cells } ∷ []
  all_one_field = one_whole_field is_unprotected cells

-- Whatever the page, no bound reaches over a protected cell.
pub unprotected_around : (is_unprotected : ℕ → Bool) (cells cell : ℕ) → is_unprotected cell ≡ true → UnprotectedAround is_unprotected cells cell
unprotected_around = all_unprotected_around

module _ (is_unprotected : ℕ → Bool) (columns cells : ℕ) where
  abbrev fields : List Field
  fields = fields_of is_unprotected cells

  fields_in_order : InOrder fields
  unfolding fields_of
  fields_in_order = in_order is_unprotected cells cells 0 (omega arith)

  -- The page's first field, and its last.
  pub first_found : Finds columns First (StartsAt fields) (first_field columns fields)
  first_found = first_of columns fields_in_order

  pub last_found : Finds columns Last (StartsAt fields) (last_field columns fields)
  last_found = last_of columns fields_in_order

  -- The first field that starts after a cell, and the last that starts before it.
  pub after_found : (cell : ℕ) → Finds columns First (λ k. StartsAt fields k × (cell < k)) (first_after columns cell fields)
  after_found cell = first_after_lem columns cell fields_in_order

  pub before_found : (cell : ℕ) → Finds columns Last (λ k. StartsAt fields k × (k < cell)) (last_before columns cell fields)
  before_found cell = last_before_lem columns cell fields_in_order

  -- Key 260: the first field that starts after the cell, else the first.
  pub key_260 : (cell : ℕ) → GoesRound columns First (StartsAt fields) (λ k. cell < k) (next_field columns cell fields)
  unfolding next_field
  key_260 cell = goes_round columns (after_found cell) first_found

  -- Key 261: the last field that starts before the cell, else the last.
  pub key_261 : (cell : ℕ) → GoesRound columns Last (StartsAt fields) (λ k. k < cell) (previous_field columns cell fields)
  unfolding previous_field
  key_261 cell = goes_round columns (before_found cell) last_found

  -- The first unprotected cell of n cells.
  pub unprotected_found : (n from : ℕ) → Finds columns First (Passes is_unprotected from (from + n)) (first_unprotected_from is_unprotected columns from n)
  unprotected_found n from = first_unprotected_lem columns is_unprotected n from (from + n) (omega arith)

  -- Key 262: the first unprotected cell of the page.
  pub key_262 : Finds columns First (Passes is_unprotected 0 cells) (first_unprotected is_unprotected columns cells)
  unfolding first_unprotected
  key_262 = first_unprotected_lem columns is_unprotected cells 0 cells (omega arith)

  -- After a typed character: the first unprotected cell after the cell, else the first.
  pub after_typing : (cell : ℕ) → cell < cells → GoesRound columns First (Passes is_unprotected 0 cells) (λ k. cell < k) (next_unprotected is_unprotected columns cells cell)
  unfolding next_unprotected
  after_typing cell here =
      goes_round columns
      (in_other_words columns
      (λ k w. ((omega arith, w.1, w.2), omega (arith, w.0)))
      (λ k w. (omega (arith, w.1), w.0.1, w.0.2))
      (first_unprotected_lem columns is_unprotected (cells - (cell + 1)) (cell + 1) cells (omega arith)))
      key_262

  -- If any cell of the page is unprotected, one is found after a typed character.
  pub after_typing_found : (cell other : ℕ) → cell < cells → other < cells → is_unprotected other ≡ true → next_unprotected is_unprotected columns cells cell ≡ None → ⊥
  after_typing_found cell other here there is_unprotected = finds_something columns (after_typing cell here) other (omega arith, there, is_unprotected)

  -- All that these searches find is on the page.
  starts_on_page : (k : ℕ) → StartsAt fields k → k < cells
  unfolding fields_of
  starts_on_page k s = rw (← s.here) (listed_starts is_unprotected cells cells 0 cells (omega arith) s.listed).0.1

  pub next_field_lands : (cell : ℕ) → Lands columns cells (next_field columns cell fields)
  unfolding next_field
  next_field_lands cell =
      either_lands columns (finds_on_page columns cells (λ k w. starts_on_page k w.0) (after_found cell))
      (finds_on_page columns cells starts_on_page first_found)

  pub previous_field_lands : (cell : ℕ) → Lands columns cells (previous_field columns cell fields)
  unfolding previous_field
  previous_field_lands cell =
      either_lands columns (finds_on_page columns cells (λ k w. starts_on_page k w.0) (before_found cell))
      (finds_on_page columns cells starts_on_page last_found)

  pub first_unprotected_lands : Lands columns cells (first_unprotected is_unprotected columns cells)
  first_unprotected_lands = finds_on_page columns cells (λ k w. w.1) key_262

  pub next_unprotected_lands : (cell : ℕ) → cell < cells → Lands columns cells (next_unprotected is_unprotected columns cells cell)
  unfolding next_unprotected
  next_unprotected_lands cell here =
      either_lands columns (finds_on_page columns cells (λ k w. omega (arith, w.1)) (unprotected_found (cells - (cell + 1)) (cell + 1)))
      first_unprotected_lands
