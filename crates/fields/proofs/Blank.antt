-- The search for a required cell, and for a field that is left blank, a cell at a time.
use mathlib.Core.Path.{◌≡◌, refl, sym, ap, ◌∙◌}
use mathlib.Core.Bool.{Bool, true, false}
use mathlib.Core.List.{List, [], ◌∷◌}
use Prim.Native.Nat.{ℕ, zero, suc, ◌+◌, ◌-◌}
use native.Mathlib.Omega.{arith}
use lib.ListN.{length, get_or}
use Rattle.std.specs.Prelude.{◌||◌}
use Rattle.std.specs.List.{list_any, range_with_len}
use Rattle.words.specs.Choice.{◌and◌, ◌or◌}
use Rattle.words.specs.Lists.{some, some_from}
use Rattle.words.proofs.Choosing.{then_case, else_case, either_way, neither, first_decides, first_fails}
use Rattle.page.specs.Marks.{is_required, unprotected}
use Rattle.page.specs.Page.{Page, some_required}
use Rattle.fields.specs.Fields.{starts_field, field_from, fields_from}
use Rattle.fields.specs.Required.{is_left_blank}

-- One of a page's cells is required, asked by their numbers or one after another.
counted_on : (test : ℕ → Bool) (marks : List ℕ) (i : ℕ) → ((k : ℕ) → test (i + k) ≡ is_required (get_or marks k 0)) → some_from test i (length marks) ≡ some is_required marks
unfolding some_from some
counted_on test [] i same = refl
counted_on test (mark ∷ later) i same =
    let first : i + 0 ≡ i = omega arith in
    let here : test i ≡ is_required mark = sym (ap test first) ∙ same 0 in
    let rest = counted_on test later (i + 1) (λ k. let next : i + suc k ≡ i + 1 + k = omega arith in sym (ap test next) ∙ same (suc k)) in
    λ j. here j or rest j

pub required_somewhere : (marks : List ℕ) → some_required marks 0 (length marks - 0) ≡ some is_required marks
required_somewhere marks =
    let whole : length marks - 0 ≡ length marks = omega arith in
    ap (some_required marks 0) whole
    ∙ counted_on (λ k. is_required (get_or marks k 0)) marks 0 (λ k. let same : 0 + k ≡ k = omega arith in ap (λ (n : ℕ). is_required (get_or marks n 0)) same)

pub not_required : (marks : List ℕ) → some is_required marks ≡ false → (cell : ℕ) → is_required (get_or marks cell 0) ≡ false
unfolding some
not_required [] none cell = refl
not_required (mark ∷ later) none zero = (neither none).0
not_required (mark ∷ later) none (suc cell) = not_required later (neither none).1 cell

-- The library's `||` and our `or`.
pub same_or : (a b : Bool) → (a || b) ≡ (a or b)
unfolding ◌or◌
same_or true b = refl
same_or false b = refl

-- `all` is how many cells the page has.
module _ (page : Page) (all : ℕ) where
  -- One of the fields that start at the n cells from `cell` on is left blank.
  unfoldable pub left_blank_from : ℕ → ℕ → Bool
  left_blank_from cell n = some (is_left_blank page) (fields_from (unprotected page.marks) all cell n)

  abbrev pub starts_blank : ℕ → Bool
  starts_blank cell =
      starts_field (unprotected page.marks) cell and is_left_blank page (field_from (unprotected page.marks) all cell)

  -- Whether one does, asked of a range of cells as the code does.
  pub blank_somewhere : (cell n : ℕ) → list_any starts_blank (range_with_len cell n) ≡ left_blank_from cell n
  unfolding left_blank_from some fields_from
  blank_somewhere cell zero = refl
  blank_somewhere cell (suc n) =
      let later = blank_somewhere (cell + 1) n in
      let field = field_from (unprotected page.marks) all cell in
      either_way (starts_field (unprotected page.marks) cell)
      (λ s. rw (later, first_decides _ (is_left_blank page field) s, then_case _ _ _ s) (same_or _ _))
      (λ s. rw (later, first_fails _ (is_left_blank page field) s, else_case _ _ _ s))
