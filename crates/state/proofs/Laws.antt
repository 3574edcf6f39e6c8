-- The loops over tab stops, a turn at a time, and the columns that they end at.
use mathlib.Core.Path.{◌≡◌, refl, sym, ap, ◌∙◌}
use mathlib.Core.Bool.{Bool, true, false, not}
use mathlib.Core.List.{List}
use Prim.Native.Nat.{ℕ, zero, suc, ◌+◌, ◌-◌, ◌<◌, ◌≤◌, min}
use native.Mathlib.Nat.{add-zero}
use native.Mathlib.Omega.{arith}
use lib.ListN.{length, get_or, take, drop, length-drop}
use Rattle.std.proofs.lemmas.List.{take_all, drop_min}
use Rattle.words.specs.Lists.{every}
use Rattle.words.proofs.Choosing.{either_line, less_or_not, then_case, else_case}
use Rattle.state.specs.Tabs.{stop_right, stop_left, stops_on, stops_back}
use Rattle.state.specs.Tests.{stops_fit}

-- A row or a column that the page has.
abbrev pub OneTo : ℕ → ℕ → Type 0
OneTo last at = (1 ≤ at) × (at ≤ last)

-- The stops past the last column.
pub stops_past : (columns : ℕ) (stops : List Bool) → length stops ≡ 160 → stops_fit columns stops ≡ every not (take (160 - min columns 160) (drop (min columns 160) stops))
unfolding stops_fit
stops_past columns stops all =
    let whole : length (drop (min columns 160) stops) ≤ 160 - min columns 160 = omega (arith, length-drop (min columns 160) stops) in
    sym (ap (every not) (take_all (160 - min columns 160) (drop (min columns 160) stops) whole ∙ rw all at (drop_min columns stops)))

module _ (stops : List Bool) where
  -- One column on, and one back.
  -- The first stop of those to the right, and none of them.
  pub right_found : (column more between : ℕ) → between < more → get_or stops (column + between) false ≡ true → ((k : ℕ) → k < between → get_or stops (column + k) false ≡ false) → stop_right stops column more ≡ column + between + 1
  unfolding stop_right
  right_found column zero between h stop none = absurd (omega arith)
  right_found column (suc more) zero h stop none =
      let here : column + 1 - 1 ≡ column + 0 = omega arith in
      then_case _ _ _ (rw here stop) ∙ ap (λ (n : ℕ). n + 1) (sym (add-zero column))
  right_found column (suc more) (suc between) h stop none =
      let here : column + 1 - 1 ≡ column + 0 = omega arith in
      let there : column + 1 + between ≡ column + suc between = omega arith in
      else_case _ _ _ (rw here (none 0 (omega arith)))
      ∙ right_found (column + 1) more between (omega arith) (rw there stop)
      (λ k l. let next : column + 1 + k ≡ column + suc k = omega arith in rw next (none (suc k) (omega arith)))
      ∙ ap (λ (n : ℕ). n + 1) there

  pub right_none : (column more : ℕ) → ((k : ℕ) → k < more → get_or stops (column + k) false ≡ false) → stop_right stops column more ≡ column + more
  unfolding stop_right
  right_none column zero none = sym (add-zero column)
  right_none column (suc more) none =
      let here : column + 1 - 1 ≡ column + 0 = omega arith in
      let all : column + 1 + more ≡ column + suc more = omega arith in
      else_case _ _ _ (rw here (none 0 (omega arith)))
      ∙ right_none (column + 1) more (λ k l. let next : column + 1 + k ≡ column + suc k = omega arith in rw next (none (suc k) (omega arith)))
      ∙ all

  -- The last stop of those to the left, and none of them.
  pub left_found : (column before : ℕ) → before + 1 < column → get_or stops before false ≡ true → ((k : ℕ) → before < k → k + 1 < column → get_or stops k false ≡ false) → stop_left stops column ≡ before + 1
  unfolding stop_left
  left_found zero before h stop none = absurd (omega arith)
  left_found (suc zero) before h stop none = absurd (omega arith)
  left_found (suc (suc column)) before h stop none =
      let here : suc column - 1 ≡ column = omega arith in
      less_or_not before column
      (λ l. else_case _ _ _ (rw here (none column l (omega arith))) ∙ left_found (suc column) before (omega arith) stop (λ k m n. none k m (omega arith)))
      (λ l. let last : suc column ≡ before + 1 = omega arith in then_case _ _ _ (rw (here, last_is column before l h) stop) ∙ last)
    where
      last_is : (column before : ℕ) → column ≤ before → before + 1 < suc (suc column) → column ≡ before
      last_is column before l h = omega arith

  pub left_none : (column : ℕ) → ((k : ℕ) → k + 1 < column → get_or stops k false ≡ false) → stop_left stops column ≡ 1
  unfolding stop_left
  left_none zero none = refl
  left_none (suc zero) none = refl
  left_none (suc (suc column)) none =
      let here : suc column - 1 ≡ column = omega arith in
      else_case _ _ _ (rw here (none column (omega arith))) ∙ left_none (suc column) (λ k l. none k (omega arith))

  pub right_end : (last at : ℕ) → last ≤ at → stop_right stops at (last - at) ≡ at
  unfolding stop_right
  right_end last at h = let none : last - at ≡ 0 = omega arith in rw none

  pub left_end : (at : ℕ) → at ≤ 1 → stop_left stops at ≡ 1
  left_end at h = left_none at (λ k l. absurd (omega arith))

  -- One stop on, and one back, where i of n are done.
  module _ (last n column : ℕ) where
    pub stops_on_turn : (i : ℕ) → i < n → stops_on stops last column (n - i) ≡ stops_on stops last (stop_right stops column (last - column)) (n - (i + 1))
    unfolding stops_on
    stops_on_turn i h = let more : n - i ≡ suc (n - (i + 1)) = omega arith in ap (λ (k : ℕ). stops_on stops last column k) more

    pub stops_on_end : n ≤ 0 → stops_on stops last column n ≡ column
    unfolding stops_on
    stops_on_end h = let none : n ≡ 0 = omega arith in rw none

  module _ (n column : ℕ) where
    pub stops_back_turn : (i : ℕ) → i < n → stops_back stops column (n - i) ≡ stops_back stops (stop_left stops column) (n - (i + 1))
    unfolding stops_back
    stops_back_turn i h = let more : n - i ≡ suc (n - (i + 1)) = omega arith in ap (λ (k : ℕ). stops_back stops column k) more

    pub stops_back_end : n ≤ 0 → stops_back stops column n ≡ column
    unfolding stops_back
    stops_back_end h = let none : n ≡ 0 = omega arith in rw none

  -- At the last column no stop is left to find, however many are asked for; nor at column 1 back.
  pub stops_on_over : (last column n : ℕ) → last ≤ column → stops_on stops last column n ≡ column
  unfolding stops_on
  stops_on_over last column zero h = refl
  stops_on_over last column (suc n) h = rw (right_end last column h) (stops_on_over last column n h)

  pub stops_back_over : (column n : ℕ) → column ≡ 1 → stops_back stops column n ≡ column
  unfolding stops_back
  stops_back_over column zero h = refl
  stops_back_over column (suc n) h = rw (h, left_end 1 (omega arith)) (stops_back_over 1 n refl)

  -- A stop to the right is not past the last column, and one to the left not before the first.
  pub right_within : (last more column : ℕ) → 1 ≤ column → column + more ≤ last → OneTo last (stop_right stops column more)
  unfolding stop_right
  right_within last zero column h k = (h, omega arith)
  right_within last (suc more) column h k =
      either_line (OneTo last) _ _ _ (λ _. (omega arith, omega arith)) (λ _. right_within last more (column + 1) (omega arith) (omega arith))

  pub left_within : (last column : ℕ) → OneTo last column → OneTo last (stop_left stops column)
  unfolding stop_left
  left_within last zero h = (omega arith, omega arith)
  left_within last (suc zero) h = h
  left_within last (suc (suc before)) h =
      either_line (OneTo last) _ _ _ (λ _. (omega arith, omega arith)) (λ _. left_within last (suc before) (omega arith, omega arith))
