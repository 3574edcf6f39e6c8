-- Two lists are the same exactly where the test says so; and the loops that compare them.
use mathlib.Core.Path.{◌≡◌, refl, sym}
use mathlib.Core.Bool.{Bool, true, false, ◌&&◌}
use mathlib.Core.List.{List, [], ◌∷◌}
use Prim.Native.Nat.{ℕ, ◌+◌, ◌<◌, ◌≤◌}
use borrow.Author.Tests.{eq-eqb, eqb-true}
use lib.Dec.{eqb}
use lib.Pointwise.{pointwise}
use lib.ListN.{length, drop, get_or, drop_of_length-le}
use Rattle.words.specs.Choice.{◌and◌}
use Rattle.words.proofs.Choosing.{true_is_not_false, both, both_hold}
use Rattle.words.proofs.Walking.{next_element}
use Rattle.record.specs.Bytes.{same_bytes}

pub same_is_equal : (one other : List ℕ) → same_bytes one other ≡ true → one ≡ other
unfolding same_bytes
same_is_equal [] [] same = refl
same_is_equal [] (y ∷ other) same = absurd (true_is_not_false (sym same))
same_is_equal (x ∷ one) [] same = absurd (true_is_not_false (sym same))
same_is_equal (x ∷ one) (y ∷ other) same = λ i. eqb-true x y (both same).0 i ∷ same_is_equal one other (both same).1 i

-- The library's test of two slices.
pub library_same : (one other : List ℕ) → pointwise eqb one other ≡ same_bytes one other
unfolding same_bytes ◌and◌
library_same [] [] = refl
library_same [] (y ∷ other) = refl
library_same (x ∷ one) [] = refl
library_same (x ∷ one) (y ∷ other) = rw (library_same one other)

pub itself_is_same : (list : List ℕ) → same_bytes list list ≡ true
unfolding same_bytes
itself_is_same [] = refl
itself_is_same (x ∷ list) = both_hold _ _ (eq-eqb x x refl) (itself_is_same list)

module _ (one other : List ℕ) (i : ℕ) (in_one : i < length one) (in-other : i < length other) where
  compared_here : same_bytes (drop i one) (drop i other) ≡ (eqb (get_or one i 0) (get_or other i 0) and same_bytes (drop (i + 1) one) (drop (i + 1) other))
  unfolding same_bytes
  compared_here = rw (next_element one i 0 in_one, next_element other i 0 in-other)

  -- A loop that knows of those before i whether all are the same, and goes on whatever it knows.
  pub next_compared : (so_far : Bool) → (so_far and same_bytes (drop i one) (drop i other)) ≡ ((so_far && eqb (get_or one i 0) (get_or other i 0)) and same_bytes (drop (i + 1) one) (drop (i + 1) other))
  unfolding ◌and◌
  next_compared true = compared_here
  next_compared false = refl

pub both_ended : (one other : List ℕ) (i : ℕ) → length one ≤ i → length other ≤ i → same_bytes (drop i one) (drop i other) ≡ true
unfolding same_bytes
both_ended one other i ends other-ends = rw (drop_of_length-le one ends, drop_of_length-le other other-ends)

pub all_compared : (one other : List ℕ) (i : ℕ) (so_far : Bool) → length one ≤ i → length other ≤ i → (so_far and same_bytes (drop i one) (drop i other)) ≡ so_far
unfolding ◌and◌
all_compared one other i true ends other-ends = both_ended one other i ends other-ends
all_compared one other i false ends other-ends = refl
