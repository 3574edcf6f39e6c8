-- What the walks over a page know, a turn of the loop at a time.
use mathlib.Core.Path.{◌≡◌, refl, sym, ap, subst, ◌∙◌}
use mathlib.Core.Bool.{Bool, true, false}
use mathlib.Core.Logic.{inl, inr, ⊎_elim}
use Prim.Native.Nat.{ℕ, zero, suc, ◌+◌, ◌-◌, ◌<◌, ◌≤◌}
use native.Mathlib.Numerals.{sub-one}
use native.Mathlib.Omega.{arith}
use Rattle.words.proofs.Choosing.{not_both, then_case, else_case, less_or_not, le_or_lt}
use Rattle.places.specs.declared.Place.{Place}
use Rattle.places.specs.Places.{place_of}
use Rattle.places.proofs.Counting.{cell_is, columns_are, right}
use Rattle.std.specs.Prelude.{Option, Some, None, MatchOption}
use Rattle.fields.specs.Fields.{joined, field_start, end_from, field_end}
use Rattle.fields.specs.Searches.{or_else, first_unprotected_from, first_unprotected}
use Rattle.fields.proofs.Claims.{Finds, found, nothing, First, Last, Passes}
use Rattle.fields.proofs.Laws.{joined_has_before, are_apart}

-- A turn of the walk to a field's start.
pub start_on : (is_unprotected : ℕ → Bool) (cell : ℕ) → joined is_unprotected cell ≡ true → field_start is_unprotected cell ≡ field_start is_unprotected (cell - 1)
unfolding field_start
start_on is_unprotected zero j = absurd (omega (arith, joined_has_before is_unprotected zero j))
start_on is_unprotected (suc cell) j = rw (sub-one (suc cell)) (then_case _ _ _ j)

-- A turn of the walk to a field's end, and the walk's two ends.
module _ (is_unprotected : ℕ → Bool) (cells cell : ℕ) where
  pub end_on : cell + 1 < cells → joined is_unprotected (cell + 1) ≡ true → field_end is_unprotected cells cell ≡ field_end is_unprotected cells (cell + 1)
  unfolding field_end end_from
  end_on h j = let more : cells - (cell + 1) ≡ suc (cells - (cell + 1 + 1)) = omega arith in rw more (then_case _ _ _ j)

  pub end_stops : cell + 1 < cells → joined is_unprotected (cell + 1) ≡ false → field_end is_unprotected cells cell ≡ cell + 1
  unfolding field_end end_from
  end_stops h j = let more : cells - (cell + 1) ≡ suc (cells - (cell + 1 + 1)) = omega arith in rw more (else_case _ _ _ j)

  pub end_at_last : cells ≤ cell + 1 → field_end is_unprotected cells cell ≡ cell + 1
  unfolding field_end end_from
  end_at_last h = let no_more : cells - (cell + 1) ≡ 0 = omega arith in rw no_more

  -- a protected cell stands by itself
  pub end_of_protected : is_unprotected cell ≡ false → field_end is_unprotected cells cell ≡ cell + 1
  end_of_protected protected =
      let back : cell + 1 - 1 ≡ cell = omega arith in
      less_or_not (cell + 1) cells
      (λ more. end_stops more (are_apart is_unprotected (cell + 1) (inr (inl (ap is_unprotected back ∙ protected)))))
      end_at_last

-- A search onward that has come from one place to another, and found nothing on the way.
pub record Onward (test : ℕ → Bool) (cells : ℕ) (from here : Place) : Type 0 where
  pub same_columns : here.columns ≡ from.columns
  pub come : from.cell ≤ here.cell
  pub on_page : here.cell ≤ cells
  pub passed : (k : ℕ) → Passes test from.cell here.cell k → ⊥

-- It gives a place of a page of so many columns.
pub place_here : (columns : ℕ) {here : Place} → here.columns ≡ columns → here ≡ place_of columns here.cell
place_here columns {here} same = right here ∙ ap (λ (k : ℕ). place_of k here.cell) same

module _ {test : ℕ → Bool} {cells : ℕ} {from : Place} where
  pub sets_out : from.cell ≤ cells → Onward test cells from from
  sets_out on_page = record { same_columns = refl; come = omega arith; on_page = on_page; passed = λ k w. omega arith }

  module _ {here : Place} (way : Onward test cells from here) where
    pub goes_on : {next : Place} → here.cell < cells → test here.cell ≡ false → next ≡ place_of from.columns (here.cell + 1) → Onward test cells from next
    goes_on more not-here is =
        let next = cell_is _ (here.cell + 1) is in
        record {
          same_columns = columns_are _ (here.cell + 1) is;
          come = omega (arith, way.come);
          on_page = omega arith;
          passed = λ k w.
              ⊎_elim (λ high. let same : here.cell ≡ k = omega arith in not_both w.2 (rw (← same) not-here))
              (λ low. way.passed k (w.0, low, w.2))
              (le_or_lt here.cell k);
        }

    pub comes_to : here.cell < cells → test here.cell ≡ true → Finds from.columns First (Passes test from.cell cells) (Some here)
    comes_to more is-here =
        subst (λ (place : Place). Finds from.columns First (Passes test from.cell cells) (Some place)) (sym (place_here from.columns way.same_columns))
        (found here.cell (way.come, more, is-here)
        (λ k w. ⊎_elim (λ high. high) (λ low. absurd (way.passed k (w.0, low, w.2))) (le_or_lt here.cell k)))

    pub comes_to_nothing : cells ≤ here.cell → Finds from.columns First (Passes test from.cell cells) None
    comes_to_nothing no_more = nothing (λ k w. way.passed k (w.0, omega arith, w.2))

-- A search back, likewise: it looks at the cell before the one it has come to.
pub record Back (test : ℕ → Bool) (from here : Place) : Type 0 where
  pub same_columns : here.columns ≡ from.columns
  pub come : here.cell ≤ from.cell
  pub passed : (k : ℕ) → Passes test here.cell from.cell k → ⊥

module _ {test : ℕ → Bool} {from : Place} where
  pub sets_out_back : Back test from from
  sets_out_back = record { same_columns = refl; come = omega arith; passed = λ k w. omega arith }

  module _ {here : Place} (way : Back test from here) where
    pub goes_back : {back : Place} → 0 < here.cell → test (here.cell - 1) ≡ false → back ≡ place_of here.columns (here.cell - 1) → Back test from back
    goes_back more not-here is =
        let back = cell_is _ (here.cell - 1) is in
        record {
          same_columns = columns_are _ (here.cell - 1) is ∙ way.same_columns;
          come = omega (arith, way.come);
          passed = λ k w.
              ⊎_elim (λ high. way.passed k (high, w.1, w.2))
              (λ low. let same : here.cell - 1 ≡ k = omega arith in not_both w.2 (rw (← same) not-here))
              (le_or_lt here.cell k);
        }

    pub comes_back_to : {back : Place} → 0 < here.cell → test (here.cell - 1) ≡ true → back ≡ place_of here.columns (here.cell - 1) → Finds from.columns Last (Passes test 0 from.cell) (Some back)
    comes_back_to more is-here is =
        subst (λ (place : Place). Finds from.columns Last (Passes test 0 from.cell) (Some place))
        (sym (is ∙ ap (λ (k : ℕ). place_of k (here.cell - 1)) way.same_columns))
        (found (here.cell - 1) (omega arith, omega (arith, way.come), is-here)
        (λ k w. ⊎_elim (λ high. absurd (way.passed k (high, w.1, w.2))) (λ low. omega arith) (le_or_lt here.cell k)))

    pub comes_back_to_nothing : here.cell ≤ 0 → Finds from.columns Last (Passes test 0 from.cell) None
    comes_back_to_nothing no_more = nothing (λ k w. way.passed k (omega arith, w.1, w.2))

-- A search from the first cell is one of the whole page.
pub all_cells : (is_unprotected : ℕ → Bool) (cells first : ℕ) → first ≡ 0 → (columns : ℕ) → first_unprotected_from is_unprotected columns first (cells - first) ≡ first_unprotected is_unprotected columns cells
unfolding first_unprotected
all_cells is_unprotected cells first is columns = let all : cells - 0 ≡ cells = omega arith in rw (is, all)

-- A key's two searches: what the code's `or_else` gives.
pub found_or_else : (one other result : Option Place) {found : Option Place} {Round : Type 0} → found ≡ one → MatchOption found Round (λ place. result ≡ Some place) → (Round → result ≡ other) → result ≡ or_else one other
unfolding or_else
found_or_else one other result {found = None} is gives round = rw (sym is) (round gives)
found_or_else one other result {found = Some place} is gives round = rw (sym is) gives
