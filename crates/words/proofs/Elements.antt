-- Laws of lists by their elements: those that pass a test, those selected, those made of others.
use mathlib.Core.Path.{◌≡◌, refl, sym, ap, ◌∙◌, subst}
use mathlib.Core.Bool.{Bool, true, false}
use mathlib.Core.List.Memᴰ
use mathlib.Core.List.{List, [], ◌∷◌, map, Memᴰ}
use mathlib.Core.Logic.{⊎_elim}
use Prim.Native.Nat.{ℕ, zero, suc, ◌+◌, ◌<◌, ◌≤◌}
use native.Mathlib.Omega.{arith}
use lib.ListN.{length}
use Rattle.words.specs.Lists.{every, some, selected, numbers_from, exactly}
use Rattle.words.proofs.Choosing.{true_is_not_false, not_both, both, both_hold, neither, one_holds, then_case, else_case, either_line, less_or_not}

module _ {A : Type 0} (test : A → Bool) where
  pub every_by_each : (list : List A) → ((x : A) → Memᴰ x list → test x ≡ true) → every test list ≡ true
  unfolding every
  every_by_each [] h = refl
  every_by_each (x ∷ list) h = both_hold _ _ (h x (Memᴰ.head refl)) (every_by_each list (λ y m. h y (Memᴰ.tail m)))

  pub some_passes : (list : List A) → some test list ≡ true → (x : A) × Memᴰ x list × (test x ≡ true)
  unfolding some
  some_passes [] h = absurd (true_is_not_false (sym h))
  some_passes (x ∷ list) h =
      ⊎_elim
      (λ here. (x, Memᴰ.head refl, here))
      (λ rest. let later = some_passes list rest in (later.0, Memᴰ.tail later.1, later.2))
      (one_holds h)

  pub none_passes : (x : A) (list : List A) → some test list ≡ false → Memᴰ x list → test x ≡ false
  unfolding some
  none_passes x [] h m = absurd (Memᴰ.not-nil m)
  none_passes x (y ∷ list) h m =
      let no = neither h in
      ⊎_elim (λ same. ap test same ∙ no.0) (λ later. none_passes x list no.1 later) (Memᴰ.cases_cons m)

  pub selected_all : (list : List A) → ((x : A) → Memᴰ x list → test x ≡ true) → selected test list ≡ list
  unfolding selected
  selected_all [] h = refl
  selected_all (x ∷ list) h = then_case _ _ _ (h x (Memᴰ.head refl)) ∙ ap (λ (l : List A). x ∷ l) (selected_all list (λ y m. h y (Memᴰ.tail m)))

  pub selected_none : (list : List A) → ((x : A) → Memᴰ x list → test x ≡ false) → selected test list ≡ []
  unfolding selected
  selected_none [] h = refl
  selected_none (x ∷ list) h = else_case _ _ _ (h x (Memᴰ.head refl)) ∙ selected_none list (λ y m. h y (Memᴰ.tail m))

  pub selected_from : (x : A) (list : List A) → Memᴰ x (selected test list) → Memᴰ x list
  unfolding selected
  selected_from x [] m = m
  selected_from x (y ∷ list) m =
      either_line (λ (l : List A). Memᴰ x l → Memᴰ x (y ∷ list)) (test y) _ _
      (λ _ found. ⊎_elim (λ e. Memᴰ.head e) (λ later. Memᴰ.tail (selected_from x list later)) (Memᴰ.cases_cons found))
      (λ _ later. Memᴰ.tail (selected_from x list later))
      m

  pub selected_passes : (x : A) (list : List A) → Memᴰ x (selected test list) → test x ≡ true
  unfolding selected
  selected_passes x [] m = absurd (Memᴰ.not-nil m)
  selected_passes x (y ∷ list) m =
      either_line (λ (l : List A). Memᴰ x l → test x ≡ true) (test y) _ _
      (λ passes found. ⊎_elim (λ same. ap test same ∙ passes) (λ later. selected_passes x list later) (Memᴰ.cases_cons found))
      (λ _ later. selected_passes x list later)
      m

  pub selected_has : (x : A) (list : List A) → Memᴰ x list → test x ≡ true → Memᴰ x (selected test list)
  unfolding selected
  selected_has x [] m passes = m
  selected_has x (y ∷ list) m passes =
      either_line (λ (l : List A). Memᴰ x l) (test y) _ _
      (λ _. ⊎_elim (λ same. Memᴰ.head same) (λ later. Memᴰ.tail (selected_has x list later passes)) (Memᴰ.cases_cons m))
      (λ fails. ⊎_elim (λ same. absurd (not_both (ap test (sym same) ∙ passes) fails)) (λ later. selected_has x list later passes) (Memᴰ.cases_cons m))

module _ {A B : Type 0} where
  pub every_map : (test : B → Bool) (f : A → B) (list : List A) → every (λ x. test (f x)) list ≡ true → every test (map f list) ≡ true
  unfolding every
  every_map test f [] h = refl
  every_map test f (x ∷ list) h = let p = both h in both_hold _ _ p.0 (every_map test f list p.1)

  pub map_same : (f g : A → B) (list : List A) → ((x : A) → Memᴰ x list → f x ≡ g x) → map f list ≡ map g list
  map_same f g [] h = refl
  map_same f g (x ∷ list) h = rw (h x (Memᴰ.head refl), map_same f g list (λ y m. h y (Memᴰ.tail m)))

  pub map-tells : (f g : A → B) (x : A) (list : List A) → map f list ≡ map g list → Memᴰ x list → f x ≡ g x
  map-tells f g x [] e m = absurd (Memᴰ.not-nil m)
  map-tells f g x (y ∷ list) e m =
      ⊎_elim
      (λ same. let here : f y ≡ g y = cc in rw same here)
      (λ later. map-tells f g x list (cc) later)
      (Memᴰ.cases_cons m)

-- The places that pass a test are those that are listed.
module _ (test : ℕ → Bool) where
  pub place_passes : (k i n : ℕ) → Memᴰ k (numbers_from test i n) → test k ≡ true
  unfolding numbers_from
  place_passes k i zero m = absurd (Memᴰ.not-nil m)
  place_passes k i (suc n) m =
      either_line (λ (l : List ℕ). Memᴰ k l → test k ≡ true) (test i) _ _
      (λ t found. ⊎_elim (λ e. rw e t) (λ later. place_passes k (i + 1) n later) (Memᴰ.cases_cons found))
      (λ _ later. place_passes k (i + 1) n later)
      m

  pub place_listed : (k i n : ℕ) → i ≤ k → k < i + n → test k ≡ true → Memᴰ k (numbers_from test i n)
  unfolding numbers_from
  place_listed k i zero l h t = absurd (omega arith)
  place_listed k i (suc n) l h t =
      less_or_not i k
      (λ q.
      let later = place_listed k (i + 1) n (omega arith) (omega arith) t in
      either_line (λ (list : List ℕ). Memᴰ k list) (test i) _ _ (λ _. Memᴰ.tail later) (λ _. later))
      (λ q.
      let same : k ≡ i = omega arith in
      subst (λ (list : List ℕ). Memᴰ k list) (sym (then_case _ _ _ (rw same at t))) (Memᴰ.head same))

-- A run of n places has n of them.
pub run_length : (i n : ℕ) → length (numbers_from (λ _. true) i n) ≡ n
unfolding numbers_from
run_length i zero = refl
run_length i (suc n) = ap length (then_case true _ _ refl) ∙ ap suc (run_length (i + 1) n)

-- A list of the right length is neither cut nor filled.
module _ {A : Type 0} where
  pub exactly-length : (n : ℕ) (filler : A) (list : List A) → length (exactly n filler list) ≡ n
  unfolding exactly
  exactly-length zero filler list = refl
  exactly-length (suc n) filler [] = ap suc (exactly-length n filler [])
  exactly-length (suc n) filler (x ∷ list) = ap suc (exactly-length n filler list)

  pub exactly_these : {n : ℕ} (filler : A) (list : List A) → length list ≡ n → exactly n filler list ≡ list
  unfolding exactly
  exactly_these filler list all = rw (← all) (same list)
    where
      same : (list : List A) → exactly (length list) filler list ≡ list
      same [] = refl
      same (x ∷ list) = ap (λ (rest : List A). x ∷ rest) (same list)
