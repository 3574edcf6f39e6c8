-- Laws of a block's bytes, for the functions that count and write them.
use mathlib.Core.Path.{◌≡◌, refl, sym, ap, ◌∙◌}
use mathlib.Core.Bool.{Bool, true, false}
use mathlib.Core.List.{List, [], ◌∷◌, ◌++◌, map}
use Prim.Native.Nat.{ℕ, suc, ◌+◌, ◌-◌, ◌<◌, ◌≤◌}
use native.Mathlib.Omega.{arith}
use lib.ListN.{length, take, drop, length-append}
use Rattle.words.specs.Choice.{If◌then◌else◌, ◌and◌}
use Rattle.words.specs.Lists.{selected}
use Rattle.words.proofs.Choosing.{then_case, else_case, both_hold, first_fails, second_fails}
use Rattle.words.proofs.Writing.{length_part}
use Rattle.page.specs.Marks.{unprotected}
use Rattle.page.specs.Page.{Page, cells}
use Rattle.places.specs.declared.Place.{Place}
use Rattle.places.specs.Places.{place_of}
use Rattle.places.proofs.Counting.{right}
use Rattle.fields.specs.Fields.{Field, starts_field, field_end, field_from, fields_from, fields_of}
use Rattle.fields.proofs.Bounds.{end_of_lem}
use Rattle.blocks.specs.Blocks.{head_bytes, entry_bytes, entry_of, encode, is_in_block, entries_sent, block, bytes_at}
use Rattle.blocks.proofs.Claims.{Whole}

-- the end of a field that starts on the page
pub end_bounds : (is_unprotected : ℕ → Bool) (cells cell : ℕ) → cell < cells → (cell < field_end is_unprotected cells cell) × (field_end is_unprotected cells cell ≤ cells)
end_bounds is_unprotected cells cell h = let end = end_of_lem is_unprotected cells cell h in (end.high, end.on_page)

-- What the block has for a place.
module _ (full : Bool) (page : Page) (place : Place) where
  pub unstarted : starts_field (unprotected page.marks) place.cell ≡ false → bytes_at full place.columns page place.cell ≡ []
  unfolding bytes_at
  unstarted none = else_case _ _ _ (first_fails _ _ none)

  -- The code asks the marks for the end of the field; the page has as many cells.
  module _ (whole : Whole page) (end : ℕ) (found : end ≡ field_end (unprotected page.marks) (length page.marks) place.cell) where
    is_end : end ≡ field_end (unprotected page.marks) (cells page) place.cell
    is_end = found ∙ ap (λ (all : ℕ). field_end (unprotected page.marks) all place.cell) (sym whole)

    same_field : is_in_block full page.marks (record { start = place.cell; length = end - place.cell }) ≡ is_in_block full page.marks (field_from (unprotected page.marks) (cells page) place.cell)
    same_field = rw is_end

    pub unsent : is_in_block full page.marks (record { start = place.cell; length = end - place.cell }) ≡ false → bytes_at full place.columns page place.cell ≡ []
    unfolding bytes_at
    unsent none = else_case _ _ _ (second_fails _ _ (sym same_field ∙ none))

    pub sent_is : starts_field (unprotected page.marks) place.cell ≡ true → is_in_block full page.marks (record { start = place.cell; length = end - place.cell }) ≡ true → bytes_at full place.columns page place.cell ≡ head_bytes place.row place.column ++ take (end - place.cell) (drop place.cell page.characters)
    unfolding bytes_at entry_bytes entry_of
    sent_is starts sent =
        then_case _ _ _ (both_hold _ _ starts (sym same_field ∙ sent))
        ∙ (λ i. head_bytes (right⁻ i).row (right⁻ i).column ++ take (sym is_end i - place.cell) (drop place.cell page.characters))
      where
        right⁻ : place_of place.columns place.cell ≡ place
        right⁻ = sym (right place)

    pub sent_length : place.cell < cells page → starts_field (unprotected page.marks) place.cell ≡ true → is_in_block full page.marks (record { start = place.cell; length = end - place.cell }) ≡ true → length (bytes_at full place.columns page place.cell) ≡ length (head_bytes place.row place.column) + (end - place.cell)
    sent_length here starts sent =
        let bounds = end_bounds (unprotected page.marks) (cells page) place.cell here in
        let on_page : end ≤ cells page = omega (arith, is_end) in
        ap (length {A = ℕ}) (sent_is starts sent)
        ∙ length-append (head_bytes place.row place.column) (take (end - place.cell) (drop place.cell page.characters))
        ∙ ap (λ (n : ℕ). length (head_bytes place.row place.column) + n) (length_part place.cell end page.characters on_page)

-- The bytes that a block has from a cell on.
abbrev pub rest_from : Bool → ℕ → Page → ℕ → ℕ → List ℕ
rest_from full columns page n cell =
    encode
    (map (entry_of columns page.characters)
    (selected (is_in_block full page.marks) (fields_from (unprotected page.marks) (cells page) cell n)))

module _ (full : Bool) (columns : ℕ) (page : Page) where
  rest_suc : (n cell : ℕ) → rest_from full columns page (suc n) cell ≡ bytes_at full columns page cell ++ rest_from full columns page n (cell + 1)
  unfolding fields_from selected encode bytes_at If◌then◌else◌ ◌and◌
  rest_suc n cell = by_tests (starts_field (unprotected page.marks) cell) (is_in_block full page.marks field) refl
    where
      field : Field
      field = field_from (unprotected page.marks) (cells page) cell

      later : List Field
      later = fields_from (unprotected page.marks) (cells page) (cell + 1) n

      bytes : List Field → List ℕ
      bytes fields = encode (map (entry_of columns page.characters) (selected (is_in_block full page.marks) fields))

      by_tests : (starts sent : Bool) → is_in_block full page.marks field ≡ sent → bytes (If starts then field ∷ later else later) ≡ (If starts and sent then entry_bytes (entry_of columns page.characters field) else []) ++ bytes later
      by_tests true true e = rw e
      by_tests true false e = rw e
      by_tests false sent e = refl

  pub rest_next : (cell : ℕ) → cell < cells page → rest_from full columns page (cells page - cell) cell ≡ bytes_at full columns page cell ++ rest_from full columns page (cells page - (cell + 1)) (cell + 1)
  rest_next cell h =
      let more : cells page - cell ≡ suc (cells page - (cell + 1)) = omega arith in
      ap (λ (n : ℕ). rest_from full columns page n cell) more ∙ rest_suc (cells page - (cell + 1)) cell

  pub rest_ends : (cell : ℕ) → cells page ≤ cell → rest_from full columns page (cells page - cell) cell ≡ 0x03 ∷ []
  unfolding fields_from selected encode
  rest_ends cell h = let none : cells page - cell ≡ 0 = omega arith in rw none

  pub whole_block : block full columns page ≡ rest_from full columns page (cells page - 0) 0
  unfolding block entries_sent fields_of
  whole_block = let all : cells page - 0 ≡ cells page = omega arith in rw all
