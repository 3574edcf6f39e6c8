-- The entries that a page sends.
use mathlib.Core.Path.{◌≡◌, refl, ap, ◌∙◌}
use mathlib.Core.Bool.{Bool, true, false}
use mathlib.Core.List.{List, [], ◌∷◌, map, Memᴰ}
use Prim.Native.Nat.{ℕ, ◌+◌, ◌/◌, ◌%◌, ◌<◌}
use native.Mathlib.Nat.{mod-lt, div-lt_iff_lt-mul}
use native.Mathlib.Omega.{arith}
use borrow.Author.Tests.{lt-ltb}
use Rattle.words.specs.Lists.{every}
use Rattle.words.proofs.Choosing.{both_hold, first_holds, second_decides}
use Rattle.words.proofs.Elements.{every_by_each, every_map, selected_all, selected_none, selected_from}
use Rattle.words.proofs.Passing.{every_take, every_drop}
use Rattle.words.proofs.Ranges.{no_place_holds}
use Rattle.page.specs.Marks.{valid_character, unprotected}
use Rattle.page.specs.Page.{Page, cells}
use Rattle.places.specs.Places.{place_of}
use Rattle.fields.specs.Fields.{Field}
use Rattle.blocks.specs.Blocks.{encode, entry_of, is_in_block, entries_sent, block}
use Rattle.blocks.specs.Decode.{decode, valid_entry}
use Rattle.blocks.proofs.Claims.{Sendable, fields_on, NothingModified}
use Rattle.blocks.proofs.Decoding.{decode-encode}
use Rattle.blocks.proofs.Listing.{Listed, listed, field_bounds, field_unprotected}

-- A field of a page's list.
abbrev pub ListedOn : Page → Field → Type 0
ListedOn page field = Listed (unprotected page.marks) (cells page) field

module _ (columns : ℕ) (page : Page) (sendable : Sendable columns page) where
  valid_entry_lem : (field : Field) → ListedOn page field → valid_entry (entry_of columns page.characters field) ≡ true
  unfolding valid_entry entry_of place_of
  valid_entry_lem field is =
      let start = field.start in
      let row : start / columns < 48 = (div-lt_iff_lt-mul sendable.some_columns).1 (omega (arith, is.on_page, sendable.rows_fit)) in
      let column : start % columns < columns = mod-lt start sendable.some_columns in
      both_hold _ _ (lt-ltb (start / columns + 1) 1000 (omega arith))
      (both_hold _ _ (lt-ltb (start % columns + 1) 1000 (omega (arith, sendable.columns_fit)))
      (every_take valid_character field.length _ (every_drop valid_character start page.characters sendable.characters_valid)))

  pub valid_entries : (full : Bool) → every valid_entry (entries_sent full columns page) ≡ true
  unfolding entries_sent
  valid_entries full =
      every_map valid_entry (entry_of columns page.characters) _
      (every_by_each _ _ (λ field m. valid_entry_lem field (listed _ _ field (selected_from (is_in_block full page.marks) field (fields_on page) m))))

  pub decode-block : (full : Bool) → decode (block full columns page) ≡ entries_sent full columns page
  unfolding block
  decode-block full = decode-encode (entries_sent full columns page) (valid_entries full)

module _ (columns : ℕ) (page : Page) where
  -- A full block has all fields.
  pub all_sent : entries_sent true columns page ≡ map (entry_of columns page.characters) (fields_on page)
  unfolding entries_sent is_in_block
  all_sent = ap (map (entry_of columns page.characters)) (selected_all (is_in_block true page.marks) (fields_on page) (λ field m. first_holds true _ refl))

  -- A changed block of a page with no modified cell that is unprotected.
  pub nothing_sent : NothingModified page → block false columns page ≡ 0x03 ∷ []
  unfolding block entries_sent is_in_block encode
  nothing_sent unmodified =
      ap (λ (fields : List Field). encode (map (entry_of columns page.characters) fields)) (selected_none (is_in_block false page.marks) (fields_on page) unsent)
    where
      unsent : (field : Field) → Memᴰ field (fields_on page) → is_in_block false page.marks field ≡ false
      unsent field m =
          let is : ListedOn page field = listed _ _ field m in
          let bounds = field_bounds _ _ field is in
          second_decides false _ refl ∙ no_place_holds _ field.start field.length (λ k l h. unmodified k (omega arith) (field_unprotected _ _ field is k l h))
