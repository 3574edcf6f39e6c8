-- A rule that holds for each of so many numbers, or for one of them: antt computes the test of all, and the law says it
-- of one.
use mathlib.Core.Path.{◌≡◌, refl, sym, ap, ◌∙◌}
use mathlib.Core.Bool.{Bool, true, false}
use mathlib.Core.Logic.{⊎_elim}
use Prim.Native.Nat.{ℕ, zero, suc, ◌+◌, ◌-◌, ◌<◌, ◌≤◌}
use native.Mathlib.Nat.{add-zero}
use native.Mathlib.Omega.{arith}
use Rattle.words.specs.Lists.{all_from, some_from}
use Rattle.words.proofs.Choosing.{true_is_not_false, less_or_not, both, neither, one_fails, one_holds, both_hold, first_holds, second_decides}

module _ (test : ℕ → Bool) where
  at_place : (least size place : ℕ) → all_from test least size ≡ true → place < size → test (least + place) ≡ true
  unfolding all_from
  at_place least zero place all h = absurd (omega arith)
  at_place least (suc more) zero all h = ap test (add-zero least) ∙ (both all).0
  at_place least (suc more) (suc place) all h =
      let same : least + 1 + place ≡ least + suc place = omega arith in
      sym (ap test same) ∙ at_place (least + 1) more place (both all).1 (omega arith)

  pub in_range : (least size n : ℕ) → all_from test least size ≡ true → least ≤ n → n < least + size → test n ≡ true
  in_range least size n all low high =
      let same : least + (n - least) ≡ n = omega arith in
      sym (ap test same) ∙ at_place least size (n - least) all (omega arith)

  pub all_places_hold : (i n : ℕ) → ((k : ℕ) → i ≤ k → k < i + n → test k ≡ true) → all_from test i n ≡ true
  unfolding all_from
  all_places_hold i zero h = refl
  all_places_hold i (suc n) h = both_hold _ _ (h i (omega arith) (omega arith)) (all_places_hold (i + 1) n (λ k l m. h k (omega arith) (omega arith)))

  -- Where the test of all fails, that of one of them does.
  pub some_place_fails : (i n : ℕ) → all_from test i n ≡ false → (k : ℕ) × (i ≤ k) × (k < i + n) × (test k ≡ false)
  unfolding all_from
  some_place_fails i zero p = absurd (true_is_not_false p)
  some_place_fails i (suc n) p =
      ⊎_elim
      (λ q. (i, omega arith, omega arith, q))
      (λ q. let later = some_place_fails (i + 1) n q in (later.0, omega arith, omega arith, later.3))
      (one_fails p)

  -- Where the test of one of them holds, it holds of a place; it fails where that of each does, and only there.
  pub some_place_holds : (i n : ℕ) → some_from test i n ≡ true → (k : ℕ) × (i ≤ k) × (k < i + n) × (test k ≡ true)
  unfolding some_from
  some_place_holds i zero p = absurd (true_is_not_false (sym p))
  some_place_holds i (suc n) p =
      ⊎_elim
      (λ q. (i, omega arith, omega arith, q))
      (λ q. let later = some_place_holds (i + 1) n q in (later.0, omega arith, omega arith, later.3))
      (one_holds p)

  pub no_place_holds : (i n : ℕ) → ((k : ℕ) → i ≤ k → k < i + n → test k ≡ false) → some_from test i n ≡ false
  unfolding some_from
  no_place_holds i zero h = refl
  no_place_holds i (suc n) h = second_decides _ _ (h i (omega arith) (omega arith)) ∙ no_place_holds (i + 1) n (λ k l m. h k (omega arith) (omega arith))

  pub at_no_place : (i n k : ℕ) → some_from test i n ≡ false → i ≤ k → k < i + n → test k ≡ false
  unfolding some_from
  at_no_place i zero k h l m = absurd (omega arith)
  at_no_place i (suc n) k h l m =
      let no = neither h in
      less_or_not i k (λ r. at_no_place (i + 1) n k no.1 (omega arith) (omega arith))
      (λ r. let here : i ≡ k = omega arith in rw here at no.0)

  -- A loop up to `to` that has come to i and found no place that passes.
  module _ (i to : ℕ) where
    pub place_holds : i < to → test i ≡ true → some_from test i (to - i) ≡ true
    unfolding some_from
    place_holds h found = let more : to - i ≡ suc (to - (i + 1)) = omega arith in ap (some_from test i) more ∙ first_holds _ _ found

    pub later_places : i < to → test i ≡ false → some_from test i (to - i) ≡ some_from test (i + 1) (to - (i + 1))
    unfolding some_from
    later_places h not-here = let more : to - i ≡ suc (to - (i + 1)) = omega arith in ap (some_from test i) more ∙ second_decides _ _ not-here

    pub no_more_places : to ≤ i → some_from test i (to - i) ≡ false
    unfolding some_from
    no_more_places h = let none : to - i ≡ 0 = omega arith in rw none
