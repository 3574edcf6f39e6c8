-- What the searches find: in general, in a list in page order, and by the cells.
use mathlib.Core.Path.{◌≡◌, refl, sym, ap, ◌∙◌}
use mathlib.Core.Bool.{Bool}
use mathlib.Core.List.Memᴰ
use mathlib.Core.List.{List, [], ◌∷◌, Memᴰ}
use mathlib.Core.Logic.{◌⊎◌, inl, inr, ⊎_elim}
use Prim.Native.Nat.{ℕ, zero, suc, ◌+◌, ◌-◌, ◌<◌, ◌≤◌}
use native.Mathlib.Nat.{eq-or-lt_of_le}
use native.Mathlib.Omega.{arith}
use borrow.Author.Tests.{ltb-true, ltb-false}
use Rattle.words.proofs.Choosing.{either_line, not_both}
use Rattle.places.specs.Places.{place_of}
use Rattle.places.specs.declared.Place.{Place}
use Rattle.std.specs.Prelude.{Option, Some, None}
use Rattle.fields.specs.Fields.{Field, starts_field, field_from, fields_from, fields_of}
use Rattle.fields.specs.Searches.{or_else, first_field, last_field, first_after, last_before, next_field, first_unprotected_from, first_unprotected, next_unprotected}
use Rattle.fields.proofs.Claims.{end_of, InOrder, none, one_more, StartsAt, Passes, First, Last, Finds, found, nothing, GoesRound, Lands, on_cell, not_found}
use Rattle.fields.proofs.Listing.{listed_starts, start_listed, in_order}

module _ (columns : ℕ) where
  -- A search has one answer.
  module _ {Prefers : ℕ → ℕ → Type 0} (one-preferred : (a b : ℕ) → Prefers a b → Prefers b a → a ≡ b) where
    one_answer : {Wanted : ℕ → Type 0} {one other : Option Place} → Finds columns Prefers Wanted one → Finds columns Prefers Wanted other → one ≡ other
    one_answer (found cell w best) (found cell' w' best') = ap (λ (k : ℕ). Some (place_of columns k)) (one-preferred cell cell' (best cell' w') (best' cell w))
    one_answer (found cell w best) (nothing nowhere) = absurd (nowhere cell w)
    one_answer (nothing nowhere) (found cell w best) = absurd (nowhere cell w)
    one_answer (nothing nowhere) (nothing nowhere') = refl

  pub one_first : {Wanted : ℕ → Type 0} {one other : Option Place} → Finds columns First Wanted one → Finds columns First Wanted other → one ≡ other
  one_first = one_answer (λ a b p q. omega arith)

  pub one_last : {Wanted : ℕ → Type 0} {one other : Option Place} → Finds columns Last Wanted one → Finds columns Last Wanted other → one ≡ other
  one_last = one_answer (λ a b p q. omega arith)

  module _ {Prefers : ℕ → ℕ → Type 0} where
    -- The same cells are wanted, in other words.
    pub in_other_words : {Wanted Wanted' : ℕ → Type 0} {sought : Option Place} → ((k : ℕ) → Wanted k → Wanted' k) → ((k : ℕ) → Wanted' k → Wanted k) → Finds columns Prefers Wanted sought → Finds columns Prefers Wanted' sought
    in_other_words to from (found cell w best) = found cell (to cell w) (λ other w'. best other (from other w'))
    in_other_words to from (nothing nowhere) = nothing (λ cell w. nowhere cell (from cell w))

    none_wanted : {Wanted : ℕ → Type 0} {sought : Option Place} → Finds columns Prefers Wanted sought → sought ≡ None → (cell : ℕ) → Wanted cell → ⊥
    none_wanted (found cell w best) is = let z : ◌≡◌ {A = ℕ} 0 1 = cc in absurd (omega arith)
    none_wanted (nothing nowhere) is = nowhere

    -- Two searches go round, and find something where anything is wanted.
    pub goes_round : {Wanted Ahead : ℕ → Type 0} {one other : Option Place} → Finds columns Prefers (λ k. Wanted k × Ahead k) one → Finds columns Prefers Wanted other → GoesRound columns Prefers Wanted Ahead (or_else one other)
    unfolding or_else
    goes_round (found cell w best) anywhere =
        record { ahead = λ _ _ _. found cell w best; round = λ none_ahead. absurd (none_ahead cell w.0 w.1) }
    goes_round (nothing nowhere) anywhere =
        record { ahead = λ cell w ahead. absurd (nowhere cell (w, ahead)); round = λ _. anywhere }

    pub finds_something : {Wanted Ahead : ℕ → Type 0} {sought : Option Place} → GoesRound columns Prefers Wanted Ahead sought → (cell : ℕ) → Wanted cell → sought ≡ None → ⊥
    finds_something goes cell w is =
        none_wanted (goes.round (λ k w' ahead. none_wanted (goes.ahead k w' ahead) is k (w', ahead))) is cell w

    -- What is found is on the page, if all that is wanted is.
    pub finds_on_page : (cells : ℕ) {Wanted : ℕ → Type 0} {sought : Option Place} → ((k : ℕ) → Wanted k → k < cells) → Finds columns Prefers Wanted sought → Lands columns cells sought
    finds_on_page cells within (found cell w best) = on_cell cell (within cell w)
    finds_on_page cells within (nothing nowhere) = not_found

  pub either_lands : {cells : ℕ} {one other : Option Place} → Lands columns cells one → Lands columns cells other → Lands columns cells (or_else one other)
  unfolding or_else
  either_lands (on_cell cell here) second = on_cell cell here
  either_lands not_found second = second

  -- Where fields of a list start: at the first one's start, or where later ones start, which is after it.
  first_starts : {field : Field} {later : List Field} → StartsAt (field ∷ later) field.start
  first_starts {field} = record { field = field; listed = Memᴰ.head refl; here = refl }

  later_starts : {field : Field} {later : List Field} {cell : ℕ} → StartsAt later cell → StartsAt (field ∷ later) cell
  later_starts s = record { field = s.field; listed = Memᴰ.tail s.listed; here = s.here }

  which_starts : {field : Field} {later : List Field} {cell : ℕ} → StartsAt (field ∷ later) cell → (cell ≡ field.start) ⊎ StartsAt later cell
  which_starts s =
      ⊎_elim (λ same. inl (sym s.here ∙ ap (λ (f : Field). f.start) same))
      (λ later. inr (record { field = s.field; listed = later; here = s.here }))
      (Memᴰ.cases_cons s.listed)

  none_starts : {cell : ℕ} → StartsAt [] cell → ⊥
  none_starts s = Memᴰ.not-nil s.listed

  starts_after : (field : Field) {later : List Field} {cell : ℕ} → ((other : Field) → Memᴰ other later → end_of field ≤ other.start) → StartsAt later cell → field.start ≤ cell
  starts_after field before s = omega (arith, before s.field s.listed, s.here)

  pub first_of : {fields : List Field} → InOrder fields → Finds columns First (StartsAt fields) (first_field columns fields)
  unfolding first_field
  first_of none = nothing (λ k. none_starts)
  first_of (one_more {field} before rest) =
      found field.start first_starts (λ k s. ⊎_elim (λ same. omega arith) (starts_after field before) (which_starts s))

  pub first_after_lem : (cell : ℕ) {fields : List Field} → InOrder fields → Finds columns First (λ k. StartsAt fields k × (cell < k)) (first_after columns cell fields)
  unfolding first_after
  first_after_lem cell none = nothing (λ k s. none_starts s.0)
  first_after_lem cell (one_more {field} before rest) =
      either_line (Finds columns First _) _ _ _
      (λ t. found field.start
      (first_starts, ltb-true cell field.start t)
      (λ k s. ⊎_elim (λ same. omega arith) (starts_after field before) (which_starts s.0)))
      (λ t. in_other_words
      (λ k s. (later_starts s.0, s.1))
      (λ k s. (⊎_elim (λ same. absurd (omega (arith, ltb-false cell field.start t, s.1))) (λ later. later) (which_starts s.0), s.1))
      (first_after_lem cell rest))

  -- the last of the later ones, else the first one
  last_or_first : {Later Wanted : ℕ → Type 0} {sought : Option Place} (cell : ℕ) → Wanted cell → ((k : ℕ) → Later k → Wanted k × (cell ≤ k)) → ((k : ℕ) → Wanted k → (k ≡ cell) ⊎ Later k) → Finds columns Last Later sought → Finds columns Last Wanted (or_else sought (Some (place_of columns cell)))
  unfolding or_else
  last_or_first cell w to which (found last later best) =
      found last (to last later).0 (λ other w'. ⊎_elim (λ same. omega (arith, (to last later).1)) (best other) (which other w'))
  last_or_first cell w to which (nothing nowhere) =
      found cell w (λ other w'. ⊎_elim (λ same. omega arith) (λ later. absurd (nowhere other later)) (which other w'))

  pub last_of : {fields : List Field} → InOrder fields → Finds columns Last (StartsAt fields) (last_field columns fields)
  unfolding last_field
  last_of none = nothing (λ k. none_starts)
  last_of (one_more {field} before rest) =
      last_or_first field.start first_starts (λ k s. (later_starts s, starts_after field before s)) (λ k. which_starts) (last_of rest)

  pub last_before_lem : (cell : ℕ) {fields : List Field} → InOrder fields → Finds columns Last (λ k. StartsAt fields k × (k < cell)) (last_before columns cell fields)
  unfolding last_before
  last_before_lem cell none = nothing (λ k s. none_starts s.0)
  last_before_lem cell (one_more {field} before rest) =
      either_line (Finds columns Last _) _ _ _
      (λ t. last_or_first field.start
      (first_starts, ltb-true field.start cell t)
      (λ k s. ((later_starts s.0, s.1), starts_after field before s.0))
      (λ k s. ⊎_elim inl (λ later. inr (later, s.1)) (which_starts s.0))
      (last_before_lem cell rest))
      (λ t. let late = ltb-false field.start cell t in
      nothing (λ k s. ⊎_elim (λ same. omega (arith, s.1)) (λ later. omega (arith, starts_after field before later, s.1)) (which_starts s.0)))

  -- The n cells from `from` to before `to`: the unprotected ones, and those at which a field starts.
  pub first_unprotected_lem : (is_unprotected : ℕ → Bool) (n from to : ℕ) → to ≡ from + n → Finds columns First (Passes is_unprotected from to) (first_unprotected_from is_unprotected columns from n)
  unfolding first_unprotected_from
  first_unprotected_lem is_unprotected zero from to all = nothing (λ k w. omega arith)
  first_unprotected_lem is_unprotected (suc n) from to all =
      either_line (Finds columns First _) _ _ _
      (λ here. found from (omega arith, omega arith, here) (λ other w. w.0))
      (λ not-here. in_other_words
      (λ k w. (omega arith, w.1, w.2))
      (λ k w. (⊎_elim (λ same. absurd (not_both w.2 (rw (← same) not-here))) (λ less. omega arith) (eq-or-lt_of_le w.0), w.1, w.2))
      (first_unprotected_lem is_unprotected n (from + 1) to (omega arith)))

  module _ (is_unprotected : ℕ → Bool) (cells n from to : ℕ) (all : to ≡ from + n) where
    by_cell : (k : ℕ) → StartsAt (fields_from is_unprotected cells from n) k → Passes (starts_field is_unprotected) from to k
    by_cell k s = rw (← s.here) (listed_starts is_unprotected cells n from to all s.listed).0

    by_field : (k : ℕ) → Passes (starts_field is_unprotected) from to k → StartsAt (fields_from is_unprotected cells from n) k
    by_field k w = record { field = field_from is_unprotected cells k; listed = start_listed is_unprotected cells n from to all k w; here = refl }

    pub first_start : to ≤ cells → Finds columns First (Passes (starts_field is_unprotected) from to) (first_field columns (fields_from is_unprotected cells from n))
    first_start fits = in_other_words by_cell by_field (first_of (in_order is_unprotected cells n from (omega arith)))

    pub last_start : to ≤ cells → Finds columns Last (Passes (starts_field is_unprotected) from to) (last_field columns (fields_from is_unprotected cells from n))
    last_start fits = in_other_words by_cell by_field (last_of (in_order is_unprotected cells n from (omega arith)))

  -- The first field that starts after a cell is the first that starts from the next one on;
  -- and so for the last before a cell.
  module _ (is_unprotected : ℕ → Bool) (cells cell : ℕ) where
    pub after_is : (next : ℕ) → next ≡ cell + 1 → next ≤ cells → first_field columns (fields_from is_unprotected cells next (cells - next)) ≡ first_after columns cell (fields_of is_unprotected cells)
    unfolding fields_of
    after_is next one fits =
        one_first (first_start is_unprotected cells (cells - next) next cells (omega arith) (omega arith))
        (in_other_words
        (λ k s. let w = by_cell is_unprotected cells cells 0 cells (omega arith) k s.0 in (omega (arith, s.1), w.1, w.2))
        (λ k w. (by_field is_unprotected cells cells 0 cells (omega arith) k (omega arith, w.1, w.2), omega (arith, w.0)))
        (first_after_lem cell (in_order is_unprotected cells cells 0 (omega arith))))

    pub before_is : cell ≤ cells → last_field columns (fields_from is_unprotected cells 0 cell) ≡ last_before columns cell (fields_of is_unprotected cells)
    unfolding fields_of
    before_is fits =
        one_last (last_start is_unprotected cells cell 0 cell (omega arith) fits)
        (in_other_words
        (λ k s. let w = by_cell is_unprotected cells cells 0 cells (omega arith) k s.0 in (w.0, s.1, w.2))
        (λ k w. (by_field is_unprotected cells cells 0 cells (omega arith) k (w.0, omega (arith, w.1), w.2), w.1))
        (last_before_lem cell (in_order is_unprotected cells cells 0 (omega arith))))

  -- A search of fields is one of the cells at which they start; and so is the one that goes round.
  module _ (is_unprotected : ℕ → Bool) (cells : ℕ) where
    fields_by_cells : (from n : ℕ) → cells ≡ from + n → first_unprotected_from (starts_field is_unprotected) columns from n ≡ first_field columns (fields_from is_unprotected cells from n)
    fields_by_cells from n all =
        one_first (first_unprotected_lem (starts_field is_unprotected) n from cells all)
        (first_start is_unprotected cells n from cells all (omega arith))

    pub round_by_cells : (cell : ℕ) → cell < cells → next_unprotected (starts_field is_unprotected) columns cells cell ≡ next_field columns cell (fields_of is_unprotected cells)
    unfolding next_unprotected first_unprotected next_field fields_of
    round_by_cells cell here =
        let more = fields_by_cells (cell + 1) (cells - (cell + 1)) (omega arith) in
        let after = more ∙ after_is is_unprotected cells cell (cell + 1) refl (omega arith) in
        let round = fields_by_cells 0 cells (omega arith) in
        λ i. or_else (after i) (round i)
