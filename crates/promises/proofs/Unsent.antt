-- A block has an entry for a field exactly when it sends the field.
use mathlib.Core.Path.{◌≡◌, refl, sym, ap, ◌∙◌, subst}
use mathlib.Core.Bool.{Bool, false}
use mathlib.Core.List.Memᴰ
use mathlib.Core.List.{Memᴰ}
use Prim.Native.Nat.{ℕ}
use native.Mathlib.Omega.{arith}
use Rattle.words.specs.Lists.{selected}
use Rattle.words.proofs.Choosing.{not_both, either_way}
use Rattle.words.proofs.Elements.{selected_from, selected_passes, selected_has}
use Rattle.page.specs.Marks.{unprotected}
use Rattle.page.specs.Page.{Page, cells}
use Rattle.places.specs.Places.{place_of}
use Rattle.fields.specs.Fields.{Field}
use Rattle.fields.proofs.Claims.{IsField}
use Rattle.fields.proofs.Theorems.{one_field, all_fields_listed}
use Rattle.blocks.specs.Blocks.{Entry, entry_of, is_in_block, entries_sent, block}
use Rattle.blocks.proofs.Claims.{Sendable, fields_on}
use Rattle.blocks.proofs.Theorems.{block_read_back}
use Rattle.blocks.proofs.Laying.{cell_told}
use Rattle.steps.specs.Steps.{Terminal}
use Rattle.promises.specs.Copying.{Omitted}

module _ (t : Terminal) (can-be-sent : Sendable t.state.size.columns t.page) where
  abbrev columns : ℕ
  columns = t.state.size.columns

  abbrev page : Page
  page = t.page

  pub is_field : (field : Field) → Memᴰ field (fields_on page) → IsField (unprotected page.marks) (cells page) field
  is_field = (all_fields_listed (unprotected page.marks) (cells page)).only_fields

  -- A row and a column tell the field.
  same_field : (one other : Field) → Memᴰ one (fields_on page) → Memᴰ other (fields_on page)
      → (place_of columns one.start).row ≡ (place_of columns other.start).row → (place_of columns one.start).column ≡ (place_of columns other.start).column → one ≡ other
  unfolding place_of
  same_field one other one-listed other-listed row column =
      let one-is = is_field one one-listed in
      let other-is = is_field other other-listed in
      let same_start = cell_told columns one.start other.start row column in
      one_field (unprotected page.marks) (cells page) one-is other-is one.start (omega arith) (omega arith)

  module _ (full : Bool) (field : Field) (listed : Memᴰ field (fields_on page)) where
    pub omitted_unsent : Omitted t (block full columns page) field → is_in_block full page.marks field ≡ false
    unfolding entries_sent entry_of
    omitted_unsent omitted =
        let entry = entry_of columns page.characters field in
        either_way (is_in_block full page.marks field)
        (λ sent.
        absurd (omitted.no_entry entry
        (subst (Memᴰ entry) (sym (block_read_back columns page can-be-sent full))
        (Memᴰ.map (entry_of columns page.characters) (selected_has (is_in_block full page.marks) field (fields_on page) listed sent)))
        refl refl))
        (λ unsent. unsent)

    -- An entry at the field's place is that of a field that is sent, and this is the same field.
    pub unsent_omitted : is_in_block full page.marks field ≡ false → Omitted t (block full columns page) field
    unfolding entries_sent entry_of
    unsent_omitted unsent = record {
      no_entry = λ entry found row column.
          let from =
          Memᴰ.of_map (entry_of columns page.characters) (selected (is_in_block full page.marks) (fields_on page))
          (subst (Memᴰ entry) (block_read_back columns page can-be-sent full) found) in
          let other = from.0 in
          let same =
          same_field other field (selected_from (is_in_block full page.marks) other (fields_on page) from.1) listed
          (ap (λ (e : Entry). e.row) from.2 ∙ row) (ap (λ (e : Entry). e.column) from.2 ∙ column) in
          not_both (ap (is_in_block full page.marks) (sym same) ∙ selected_passes (is_in_block full page.marks) other (fields_on page) from.1) unsent;
    }
