-- The cursor's cell and the rest of its field as the code finds them, and where there is no field.
use mathlib.Core.Path.{◌≡◌, refl, sym, ap, ◌∙◌}
use mathlib.Core.Bool.{Bool, true, false, not}
use mathlib.Core.List.Memᴰ
use mathlib.Core.List.{List, [], ◌∷◌}
use Prim.Native.Nat.{ℕ, ◌-◌, ◌<◌, ◌≤◌}
use native.Mathlib.Omega.{arith}
use borrow.Author.Tests.{not-true, not-false}
use lib.ListN.{length, get_or}
use Rattle.words.specs.Choice.{If◌then◌else◌}
use Rattle.words.specs.Lists.{every}
use Rattle.words.proofs.Choosing.{not_both, either_way, refuted}
use Rattle.words.proofs.Elements.{run_length}
use Rattle.words.proofs.Passing.{passes, every_passes}
use Rattle.page.specs.Marks.{is_protected, unprotected}
use Rattle.page.specs.Page.{Page, part_stored}
use Rattle.places.specs.declared.Place.{Place}
use Rattle.places.specs.Places.{place_of}
use Rattle.places.proofs.Counting.{cell_is, columns_are}
use Rattle.fields.specs.Fields.{Field, field_start, field_end, fields_of}
use Rattle.fields.proofs.Bounds.{start_of, end_of_lem}
use Rattle.fields.proofs.Claims.{Lists, ◌has◌}
use Rattle.fields.proofs.Theorems.{all_fields_listed}
use Rattle.steps.specs.declared.Step.{Step}
use Rattle.steps.specs.Steps.{Terminal, Stepped, Valid, goes_to, stores, cursor_cell}
use Rattle.steps.specs.Told.{told, tells}
use Rattle.keys.specs.Keys.{no_field, cells_from, if_unprotected, rest_shifted}
use Rattle.steps.specs.Seen.{cells_here, unprotected_at, start_here, end_here}
use Rattle.steps.proofs.Measuring.{measured}

-- The cursor's place, as the code finds it on a valid terminal.
pub record Found (t : Terminal) (place : Place) : Type 0 where
  pub cell : place.cell ≡ cursor_cell t.state
  pub columns : place.columns ≡ t.state.size.columns
  pub inside : place.cell < length t.page.marks
  pub most : length t.page.marks ≤ 7680
  pub as_many : length t.page.marks ≡ cells_here t

pub found : {t : Terminal} {place : Place} → Valid t → place ≡ place_of t.state.size.columns (cursor_cell t.state) → Found t place
found valid is =
    let known = measured valid in
    let here = cell_is _ _ is in
    record {
      cell = here;
      columns = columns_are _ _ is;
      inside = omega arith;
      most = known.most;
      as_many = known.as_many;
    }

-- `cells_from` has as many cells as the code counts.
pub run_counted : (from end : ℕ) {here after : ℕ} → here ≡ from → after ≡ end → length (cells_from from end) ≡ after - here
run_counted from end starts ends = run_length from (end - from) ∙ sym (λ i. ends i - starts i)

-- What the code was told of the cursor's cell.
pub is_unprotected : {answer cell_unprotected : Bool} → answer ≡ cell_unprotected → not answer ≡ false → cell_unprotected ≡ true
is_unprotected told is = sym told ∙ not-false _ is

-- On a protected cell a key that stores does nothing.
pub stays : (t : Terminal) (stepped : Stepped) {answer : Bool} {step : Step} → answer ≡ unprotected_at t (cursor_cell t.state) → not answer ≡ true → told step t.page ≡ tells (goes_to t.state t) → told step t.page ≡ tells (if_unprotected t stepped)
unfolding If◌then◌else◌
stays t stepped told is quiet = rw (sym told ∙ not-true _ is) quiet

-- The rest of the cursor's field stands on the page, the cursor's cell at least.
pub record RestOnPage (t : Terminal) : Type 0 where
  pub some : cursor_cell t.state < end_here t
  pub on_page : end_here t ≤ cells_here t
  pub as_many : length t.page.marks ≡ cells_here t

pub rest_on_page : {t : Terminal} → Valid t → RestOnPage t
rest_on_page {t} valid =
    let known = measured valid in
    let bounds = end_of_lem (unprotected_at t) (cells_here t) (cursor_cell t.state) known.cursor_inside in
    record { some = bounds.high; on_page = bounds.on_page; as_many = known.as_many }

-- 264 and 265, whatever the change: it is made on the rest of the field, and these cells are counted.
pub rest_shifted_lem : (t : Terminal) (change : List ℕ → List ℕ) {step : Step} {page : Page} → unprotected_at t (cursor_cell t.state) ≡ true → ((cells : List ℕ) (page : Page) → length cells ≡ end_here t - cursor_cell t.state → told step page ≡ tells (stores cells false t.state page)) → page ≡ part_stored change (cursor_cell t.state) (end_here t) t.page → told step page ≡ tells (rest_shifted change t)
unfolding rest_shifted If◌then◌else◌
rest_shifted_lem t change is_unprotected stored left =
    rw (is_unprotected, stored (cells_from (cursor_cell t.state) (end_here t)) _ (run_length (cursor_cell t.state) (end_here t - cursor_cell t.state)), left)

module _ {t : Terminal} {place : Place} (here : Found t place) where
  -- The start of the cursor's field.
  module _ {start : Place} (is : start ≡ place_of place.columns (field_start (unprotected t.page.marks) place.cell)) where
    pub starts_before : start.cell ≤ place.cell
    starts_before =
        let bounds = start_of (unprotected t.page.marks) place.cell in
        let starts = cell_is _ _ is in
        omega arith

    pub start_is : start ≡ place_of t.state.size.columns (start_here t)
    start_is = is ∙ (λ i. place_of (here.columns i) (field_start (unprotected t.page.marks) (here.cell i)))

  -- Its end. The code asks the marks for it; the page has as many cells.
  module _ {end : ℕ} (is : end ≡ field_end (unprotected t.page.marks) (length t.page.marks) place.cell) where
    pub end_is : end ≡ end_here t
    end_is =
        is
        ∙ ap (λ (cells : ℕ). field_end (unprotected_at t) cells place.cell) here.as_many
        ∙ ap (field_end (unprotected_at t) (cells_here t)) here.cell

-- There is no field exactly where every cell is protected.
module _ (marks : List ℕ) where
  protected_if_not : (cell : ℕ) → unprotected marks cell ≡ false → is_protected (get_or marks cell 0) ≡ true
  unfolding unprotected
  protected_if_not cell is = not-false _ is

  not_unprotected : (cell : ℕ) → is_protected (get_or marks cell 0) ≡ true → unprotected marks cell ≡ false
  unfolding unprotected
  not_unprotected cell is = ap not is

  by_fields : (fields : List Field) → Lists (unprotected marks) (length marks) fields → every is_protected marks ≡ no_field fields
  unfolding no_field
  by_fields [] lists =
      every_passes is_protected marks
      (λ cell here. either_way (unprotected marks cell)
      (λ is. absurd (Memᴰ.not-nil (lists.every_cell cell here is).listed))
      (protected_if_not cell))
  by_fields (field ∷ later) lists =
      let is = lists.only_fields field (Memᴰ.head refl) in
      let first : field has field.start = (omega arith, omega (arith, is.some-cells)) in
      refuted (every is_protected marks)
      (λ all. not_both (is.all_unprotected field.start first)
      (not_unprotected field.start (passes is_protected marks all field.start (omega (arith, is.some-cells, is.on_page)))))

  pub all_protected : every is_protected marks ≡ no_field (fields_of (unprotected marks) (length marks))
  all_protected = by_fields _ (all_fields_listed (unprotected marks) (length marks))
