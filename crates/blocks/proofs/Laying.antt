-- A block laid over the copy of what was there before gives the copy of what is there now.
use mathlib.Core.Path.{◌≡◌, refl, sym, ap, ◌∙◌}
use mathlib.Core.Bool.{Bool, true, false, not}
use mathlib.Core.List.{List, [], ◌∷◌, map, map-map, Memᴰ}
use mathlib.Core.Logic.{⊎_elim}
use Prim.Native.Nat.{ℕ, ◌+◌, ◌-◌, ◌*◌, ◌/◌, ◌%◌, ◌<◌, ◌≤◌, min}
use native.Mathlib.Nat.{div-add-mod'}
use native.Mathlib.Omega.{arith}
use borrow.Author.Tests.{eqb-true, eq-eqb}
use lib.ListN.{length, take, drop, get_or, length-take, length-drop, get_or-eq_default}
use lib.Seq.{ext_get_or, get_or-take, get_or-drop}
use Rattle.words.specs.Choice.{◌or◌}
use Rattle.words.specs.Lists.{selected}
use Rattle.words.proofs.Choosing.{true_is_not_false, either_line, either_way, both, both_hold, neither, less_or_not}
use Rattle.words.proofs.Elements.{map_same}
use Rattle.words.proofs.Ranges.{at_no_place}
use Rattle.page.specs.Marks.{is_protected, unprotected}
use Rattle.page.specs.Page.{Page, cells}
use Rattle.places.specs.Places.{place_of}
use Rattle.fields.specs.Fields.{Field, field_end, fields_of}
use Rattle.blocks.specs.Blocks.{Entry, entry_of, is_in_block, entries_sent, block}
use Rattle.blocks.specs.Lay.{same_place, laid_on, lay}
use Rattle.blocks.proofs.Claims.{Sendable, fields_on, SameForm, UnmodifiedKept}
use Rattle.blocks.proofs.Listing.{Listed, listed, field_bounds, field_unprotected}
use Rattle.blocks.proofs.Pages.{ListedOn, decode-block, all_sent}

-- A row and a column tell the cell.
pub cell_told : (columns j k : ℕ) → j / columns + 1 ≡ k / columns + 1 → j % columns + 1 ≡ k % columns + 1 → j ≡ k
cell_told columns j k row column =
    let above : j / columns ≡ k / columns = omega arith in
    let left : j % columns ≡ k % columns = omega arith in
    sym (div-add-mod' j columns) ∙ (λ i. above i * columns + left i) ∙ div-add-mod' k columns

-- The entries of two pages' fields: at one place exactly where it is one field.
module _ (is_unprotected : ℕ → Bool) (columns cells : ℕ) (old new : List ℕ) where
  same_field : (a b : Field) → Listed is_unprotected cells a → Listed is_unprotected cells b → a.start ≡ b.start → a ≡ b
  same_field a b p q e =
      let size : a.length ≡ b.length = p.whole ∙ ap (λ (cell : ℕ). field_end is_unprotected cells cell - cell) e ∙ sym q.whole in
      λ i. record { start = e i; length = size i }

  here : (field : Field) → same_place (entry_of columns new field) (entry_of columns old field) ≡ true
  unfolding same_place entry_of
  here field =
      let place = place_of columns field.start in
      both_hold _ _ (eq-eqb place.row place.row refl) (eq-eqb place.column place.column refl)

  same_start : (a b : Field) → same_place (entry_of columns new a) (entry_of columns old b) ≡ true → a.start ≡ b.start
  unfolding same_place entry_of place_of
  same_start a b h = let p = both h in cell_told columns a.start b.start (eqb-true _ _ p.0) (eqb-true _ _ p.1)

  -- A field of the old page has become that of the new one.
  -- One that is sent is found; one that is not sent is the same on both.
  abbrev Renewed : (Field → Bool) → List Field → Field → Type 0
  Renewed sent fields field = laid_on (map (entry_of columns new) (selected sent fields)) (entry_of columns old field) ≡ entry_of columns new field

  laid_field : (sent : Field → Bool) (fields : List Field) → ((field : Field) → Memᴰ field fields → Listed is_unprotected cells field)
      → (field : Field) → Listed is_unprotected cells field
      → (sent field ≡ true → Memᴰ field fields)
      → (sent field ≡ false → entry_of columns old field ≡ entry_of columns new field)
      → Renewed sent fields field
  unfolding laid_on selected
  laid_field sent [] all field is member kept =
      either_way (sent field) (λ s. absurd (mathlib.Core.List.Memᴰ.not-nil (member s))) kept
  laid_field sent (first ∷ fields) all field is member kept =
      let later : (sent field ≡ true → Memᴰ field fields) → Renewed sent fields field = λ m. laid_field sent fields (λ f n. all f (mathlib.Core.List.Memᴰ.tail n)) field is m kept in
      either_line (λ (l : List Field). laid_on (map (entry_of columns new) l) (entry_of columns old field) ≡ entry_of columns new field) (sent first) _ _
      (λ _.
      either_line (λ (e : Entry). e ≡ entry_of columns new field) (same_place (entry_of columns new first) (entry_of columns old field)) _ _
      (λ p. ap (entry_of columns new) (same_field first field (all first (mathlib.Core.List.Memᴰ.head refl)) is (same_start first field p)))
      (λ p. later (λ s. passed s (λ e. true_is_not_false (sym (here field) ∙ ap (λ (f : Field). same_place (entry_of columns new f) (entry_of columns old field)) e ∙ p)))))
      (λ unsent. later (λ s. passed s (λ e. true_is_not_false (sym s ∙ ap sent e ∙ unsent))))
    where
      passed : sent field ≡ true → (field ≡ first → ⊥) → Memᴰ field fields
      passed s other = ⊎_elim (λ e. absurd (other e)) (λ m. m) (mathlib.Core.List.Memᴰ.cases_cons (member s))

module _ (p q : Page) (same : SameForm p q) where
  -- Past the last cell both say the same, too.
  same_unprotected : (k : ℕ) → unprotected p.marks k ≡ unprotected q.marks k
  unfolding unprotected
  same_unprotected k =
      less_or_not k (length q.marks) (same.unprotected-cells k)
      (λ h. ap (λ (mark : ℕ). not (is_protected mark)) (get_or-eq_default p.marks 0 (omega (arith, same.size.marks)) ∙ sym (get_or-eq_default q.marks 0 h)))

  pub same_fields : fields_on p ≡ fields_on q
  same_fields = λ i. fields_of (λ k. same_unprotected k i) (sym same.size.characters i)

  -- Where each field that is not sent has kept its characters.
  module _ (full : Bool) (columns : ℕ)
      (kept : (field : Field) → ListedOn q field → is_in_block full q.marks field ≡ false → entry_of columns p.characters field ≡ entry_of columns q.characters field) where
    laid_one : (field : Field) → Memᴰ field (fields_on q) → laid_on (entries_sent full columns q) (entry_of columns p.characters field) ≡ entry_of columns q.characters field
    unfolding entries_sent
    laid_one field m =
        let all = listed (unprotected q.marks) (cells q) in
        laid_field _ columns _ p.characters q.characters (is_in_block full q.marks) (fields_on q) all field (all field m) (λ _. m) (kept field (all field m))

    all_laid : map (laid_on (entries_sent full columns q)) (entries_sent true columns p) ≡ entries_sent true columns q
    all_laid =
        rw (all_sent columns p, all_sent columns q, same_fields, map-map)
        (map_same (λ field. laid_on (entries_sent full columns q) (entry_of columns p.characters field)) _ (fields_on q) laid_one)

    laid : Sendable columns p → Sendable columns q → lay (block full columns q) (block true columns p) ≡ block true columns q
    unfolding lay block
    laid sendable-p sendable-q =
        rw (decode-block columns q sendable-q full, decode-block columns p sendable-p true, all_laid)

-- Two lists with the same elements in a part.
same_part : (a b : List ℕ) (n start : ℕ) → length a ≡ length b → ((k : ℕ) → start ≤ k → k < start + n → get_or a k 0 ≡ get_or b k 0)
    → take n (drop start a) ≡ take n (drop start b)
same_part a b n start size same =
    let lengths : length (take n (drop start a)) ≡ length (take n (drop start b)) = simp (length-take, length-drop) (ap (λ (x : ℕ). min n (x - start)) size) in
    ext_get_or 0 (take n (drop start a)) (take n (drop start b)) lengths
    (λ i h.
    let m : i < n = omega (arith, simp length-take at h) in
    get_or-take n (drop start a) i 0 m ∙ get_or-drop start a i 0 ∙ same (start + i) (omega arith) (omega arith)
    ∙ sym (get_or-take n (drop start b) i 0 m ∙ get_or-drop start b i 0))

module _ (columns : ℕ) (p q : Page) (sendable-p : Sendable columns p) (sendable-q : Sendable columns q) (same : SameForm p q) where
  pub full_laid : lay (block true columns q) (block true columns p) ≡ block true columns q
  unfolding is_in_block ◌or◌
  full_laid = laid p q same true columns (λ field is unsent. absurd (true_is_not_false unsent)) sendable-p sendable-q

  pub changed_laid : UnmodifiedKept p q → lay (block false columns q) (block true columns p) ≡ block true columns q
  unfolding is_in_block entry_of
  changed_laid unchanged = laid p q same false columns kept sendable-p sendable-q
    where
      kept : (field : Field) → ListedOn q field → is_in_block false q.marks field ≡ false → entry_of columns p.characters field ≡ entry_of columns q.characters field
      kept field is unsent =
          let bounds = field_bounds _ _ field is in
          let place = place_of columns field.start in
          ap (λ (characters : List ℕ). record { row = place.row; column = place.column; characters = characters })
          (same_part p.characters q.characters field.length field.start (sym same.size.characters)
          (λ k l h. unchanged k (omega arith) (field_unprotected _ _ field is k l h) (at_no_place _ field.start field.length k (neither unsent).1 l h)))
