-- What a full block tells of its page: the fields, the unprotected cells, and their characters.
use mathlib.Core.Path.{◌≡◌, refl, sym, ap, ◌∙◌, subst}
use mathlib.Core.Bool.{Bool, true}
use mathlib.Core.List.{List, [], ◌∷◌, map, flat_map, map-map, map-id, map-append, Memᴰ}
use Prim.Native.Nat.{ℕ, zero, suc, ◌+◌, ◌-◌, ◌/◌, ◌%◌, ◌<◌, ◌≤◌}
use native.Mathlib.Nat.{div-add-mod'}
use native.Mathlib.Omega.{arith}
use lib.ListN.{length, take, drop, get_or, length-take, length-drop}
use Rattle.words.specs.Choice.{If◌then◌else◌}
use Rattle.words.specs.Lists.{numbers_from}
use Rattle.words.proofs.Choosing.{either_way}
use Rattle.words.proofs.Walking.{next_element}
use Rattle.words.proofs.Elements.{map_same, map-tells, place_passes, place_listed}
use Rattle.page.specs.Marks.{unprotected}
use Rattle.page.specs.Page.{Page, cells}
use Rattle.places.specs.Places.{place_of, cell_at}
use Rattle.fields.specs.Fields.{Field}
use Rattle.blocks.specs.Blocks.{Entry, entry_of, entries_sent, block}
use Rattle.page.proofs.Keeping.{SameSize}
use Rattle.blocks.proofs.Claims.{Sendable, Whole, fields_on, FilledAlike}
use Rattle.blocks.proofs.Decoding.{encode_injective}
use Rattle.blocks.proofs.Listing.{listed, field_bounds, cells_of, unprotected-cells}
use Rattle.blocks.proofs.Pages.{ListedOn, valid_entries, all_sent}

-- The field of an entry.
field_told : ℕ → Entry → Field
field_told columns entry = record { start = cell_at columns entry.row entry.column; length = length entry.characters }

-- The unprotected cells of a page, in order.
abbrev unprotected_on : Page → List ℕ
unprotected_on page = numbers_from (unprotected page.marks) 0 (cells page)

-- A part of a list, by its places.
part_is : (list : List ℕ) (n i : ℕ) → i + n ≤ length list → take n (drop i list) ≡ map (λ k. get_or list k 0) (numbers_from (λ _. true) i n)
unfolding numbers_from If◌then◌else◌
part_is list zero i h = refl
part_is list (suc n) i h = let here : i < length list = omega arith in rw (next_element list i 0 here, part_is list n (i + 1) (omega arith))

-- The characters of fields, from their entries.
characters_told : (columns : ℕ) (characters : List ℕ) (fields : List Field) → ((field : Field) → Memᴰ field fields → field.start + field.length ≤ length characters)
    → flat_map (λ (entry : Entry). entry.characters) (map (entry_of columns characters) fields) ≡ map (λ k. get_or characters k 0) (flat_map cells_of fields)
unfolding flat_map entry_of cells_of
characters_told columns characters [] h = refl
characters_told columns characters (field ∷ fields) h =
    rw (map-append, part_is characters field.length field.start (h field (Memᴰ.head refl)), characters_told columns characters fields (λ f m. h f (Memᴰ.tail m)))

-- The fields and the characters of a page, from its entries.
module _ (columns : ℕ) (page : Page) where
  field_told_lem : (field : Field) → ListedOn page field → field_told columns (entry_of columns page.characters field) ≡ field
  unfolding field_told entry_of place_of
  field_told_lem field is =
      let start = field.start in
      let bounds = field_bounds _ _ field is in
      let above : start / columns + 1 - 1 ≡ start / columns = omega arith in
      let left : start % columns + 1 - 1 ≡ start % columns = omega arith in
      let size : length (take field.length (drop start page.characters)) ≡ field.length = simp (length-take, length-drop) (omega arith) in
      rw (above, left, div-add-mod', size)

  fields_told : map (field_told columns) (entries_sent true columns page) ≡ fields_on page
  fields_told =
      rw (all_sent columns page, map-map)
      (map_same (λ field. field_told columns (entry_of columns page.characters field)) (λ field. field) (fields_on page) (λ field m. field_told_lem field (listed _ _ field m))
      ∙ map-id (fields_on page))

  cells_told : flat_map (λ (entry : Entry). entry.characters) (entries_sent true columns page) ≡ map (λ k. get_or page.characters k 0) (unprotected_on page)
  cells_told =
      rw (all_sent columns page, unprotected-cells (unprotected page.marks) (cells page))
      (characters_told columns page.characters (fields_on page) (λ field m. omega (arith, field_bounds _ _ field (listed _ _ field m))))

-- Two tests that list the same places agree on these.
passes_too : (a b : ℕ → Bool) (n m k : ℕ) → numbers_from a 0 n ≡ numbers_from b 0 m → k < n → a k ≡ true → b k ≡ true
passes_too a b n m k e h t = place_passes b k 0 m (subst (Memᴰ k) e (place_listed a k 0 n (omega arith) (omega arith) t))

same_places : (a b : ℕ → Bool) (n m k : ℕ) → numbers_from a 0 n ≡ numbers_from b 0 m → k < n → k < m → a k ≡ b k
same_places a b n m k e h l =
    either_way (a k) (λ t. t ∙ sym (passes_too a b n m k e h t)) (λ f. either_way (b k) (λ t. passes_too b a m n k (sym e) l t ∙ sym t) (λ g. f ∙ sym g))

module _ (columns : ℕ) (p q : Page) (size : SameSize p q) (whole-p : Whole p) where
  module _ (same : entries_sent true columns p ≡ entries_sent true columns q) where
    same_fields : fields_on p ≡ fields_on q
    same_fields = sym (fields_told columns p) ∙ ap (map (field_told columns)) same ∙ fields_told columns q

    same_unprotected-cells : unprotected_on p ≡ unprotected_on q
    same_unprotected-cells = unprotected-cells _ _ ∙ ap (flat_map cells_of) same_fields ∙ sym (unprotected-cells _ _)

    same_characters : map (λ k. get_or p.characters k 0) (unprotected_on q) ≡ map (λ k. get_or q.characters k 0) (unprotected_on q)
    same_characters =
        ap (map (λ k. get_or p.characters k 0)) (sym same_unprotected-cells)
        ∙ sym (cells_told columns p) ∙ ap (flat_map (λ (entry : Entry). entry.characters)) same ∙ cells_told columns q

    filled_alike : FilledAlike columns p q
    filled_alike =
        record {
          entries = same;
          fields = same_fields;
          form = record { size = size; unprotected-cells = λ k h. same_places (unprotected p.marks) (unprotected q.marks) _ _ k same_unprotected-cells (omega arith) (omega arith) };
          characters = λ k h f. map-tells _ _ k (unprotected_on q) same_characters (place_listed (unprotected q.marks) k 0 _ (omega arith) (omega arith) f);
        }

  pub equal_blocks : Sendable columns p → Sendable columns q → block true columns p ≡ block true columns q → FilledAlike columns p q
  unfolding block
  equal_blocks sendable-p sendable-q same =
      filled_alike (encode_injective _ _ (valid_entries columns p sendable-p true) (valid_entries columns q sendable-q true) same)
