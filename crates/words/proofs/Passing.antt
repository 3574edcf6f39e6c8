-- Laws of the elements and the places that pass a test: for loops that walk them, and for what lists keep.
use mathlib.Core.Path.{◌≡◌, refl, ap, ◌∙◌}
use mathlib.Core.Bool.{Bool, true, false}
use mathlib.Core.List.{List, [], ◌∷◌, ◌++◌}
use Prim.Native.Nat.{ℕ, zero, suc, ◌+◌, ◌-◌, ◌<◌, ◌≤◌}
use native.Mathlib.Nat.{le_of_suc-le-suc, not-suc-le-zero}
use native.Mathlib.Omega.{arith}
use lib.ListN.{length, take, drop, get_or, set, replicate, length-take, length-drop, drop_of_length-le, length-replicate, get_or-replicate}
use lib.Seq.{get_or-take, get_or-drop}
use Rattle.words.specs.Lists.{every, each_from, numbers_from, on_part}
use Rattle.words.proofs.Choosing.{both, both_hold, first_decides, first_fails, then_case, else_case}
use Rattle.words.proofs.Walking.{next_element}
use Rattle.words.proofs.Writing.{length-each, get_d_each}

-- A loop that asks each element in its turn and has come to i. (`other` is what `get_or` gives past the end.)
module _ {A : Type 0} (test : A → Bool) (other : A) (list : List A) (i : ℕ) where
  pub next_passes : i < length list → test (get_or list i other) ≡ true → every test (drop i list) ≡ every test (drop (i + 1) list)
  unfolding every
  next_passes h p = ap (every test) (next_element list i other h) ∙ first_decides _ _ p

  pub next_fails : i < length list → test (get_or list i other) ≡ false → every test (drop i list) ≡ false
  unfolding every
  next_fails h p = ap (every test) (next_element list i other h) ∙ first_fails _ _ p

  pub all_pass : length list ≤ i → every test (drop i list) ≡ true
  unfolding every
  all_pass h = rw (drop_of_length-le list h)

-- A loop that counts the places before `to` that pass the test and has come to `place`:
-- with those to come it makes `all`.
module _ (test : ℕ → Bool) (place to count all : ℕ) (so_far : count + length (numbers_from test place (to - place)) ≡ all) where
  pub place_counted : place < to → test place ≡ true → count + 1 + length (numbers_from test (place + 1) (to - (place + 1))) ≡ all
  unfolding numbers_from
  place_counted h p =
      let n : to - place ≡ suc (to - (place + 1)) = omega arith in
      omega (arith, rw (n, then_case (test place) _ _ p) at so_far)

  pub place_passed_by : place < to → test place ≡ false → count + length (numbers_from test (place + 1) (to - (place + 1))) ≡ all
  unfolding numbers_from
  place_passed_by h p =
      let n : to - place ≡ suc (to - (place + 1)) = omega arith in
      rw (n, else_case (test place) _ _ p) at so_far

  pub all_counted : to ≤ place → count ≡ all
  unfolding numbers_from
  all_counted h = let n : to - place ≡ 0 = omega arith in omega (arith, rw n at so_far)

-- Every element passes: the element at each place does, and the other way round.
module _ (test : ℕ → Bool) where
  pub passes : (list : List ℕ) → every test list ≡ true → (k : ℕ) → k < length list → test (get_or list k 0) ≡ true
  unfolding every
  passes [] p k h = absurd (not-suc-le-zero h)
  passes (x ∷ rest) p zero h = (both p).0
  passes (x ∷ rest) p (suc k) h = passes rest (both p).1 k (le_of_suc-le-suc h)

  pub every_passes : (list : List ℕ) → ((k : ℕ) → k < length list → test (get_or list k 0) ≡ true) → every test list ≡ true
  unfolding every
  every_passes [] p = refl
  every_passes (x ∷ rest) p = both_hold _ _ (p 0 (omega arith)) (every_passes rest (λ k h. p (suc k) (omega arith)))

  -- Lists made of elements that pass.
  pub every_append : (a b : List ℕ) → every test a ≡ true → every test b ≡ true → every test (a ++ b) ≡ true
  unfolding every
  every_append [] b p q = q
  every_append (x ∷ a) b p q = both_hold _ _ (both p).0 (every_append a b (both p).1 q)

  pub every_set : (list : List ℕ) (i v : ℕ) → test v ≡ true → every test list ≡ true → every test (set list i v) ≡ true
  unfolding every
  every_set [] i v p q = q
  every_set (x ∷ rest) zero v p q = both_hold _ _ p (both q).1
  every_set (x ∷ rest) (suc i) v p q = both_hold _ _ (both q).0 (every_set rest i v p (both q).1)

  pub every-replicate : (n v : ℕ) → test v ≡ true → every test (replicate n v) ≡ true
  every-replicate n v p = every_passes (replicate n v) (λ k h. rw (get_or-replicate n k v 0 (omega (arith, length-replicate n v))) p)

  pub every_take : (n : ℕ) (list : List ℕ) → every test list ≡ true → every test (take n list) ≡ true
  every_take n list p =
      every_passes (take n list) (λ k h.
      let short = rw length-take at h in
      rw (get_or-take n list k 0 (omega arith)) (passes list p k (omega arith)))

  pub every_drop : (n : ℕ) (list : List ℕ) → every test list ≡ true → every test (drop n list) ≡ true
  every_drop n list p =
      every_passes (drop n list) (λ k h. rw (get_or-drop n list k 0) (passes list p (n + k) (omega (arith, length-drop n list))))

  pub every-each : (f : ℕ → ℕ → ℕ) (i : ℕ) (list : List ℕ) → ((k x : ℕ) → test x ≡ true → test (f k x) ≡ true) → every test list ≡ true → every test (each_from f i list) ≡ true
  every-each f i list keeps p =
      every_passes (each_from f i list) (λ k h.
      let here : k < length list = rw length-each at h in
      rw (get_d_each f i list k here) (keeps (i + k) _ (passes list p k here)))

  pub every-on_part : (from to : ℕ) (change : List ℕ → List ℕ) (list : List ℕ) → ((part : List ℕ) → every test part ≡ true → every test (change part) ≡ true) → every test list ≡ true → every test (on_part from to change list) ≡ true
  unfolding on_part
  every-on_part from to change list keeps p =
      every_append (take from list) _ (every_take from list p)
      (every_append (change (take (to - from) (drop from list))) (drop to list)
      (keeps _ (every_take (to - from) (drop from list) (every_drop from list p))) (every_drop to list p))
