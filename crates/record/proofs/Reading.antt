-- What is read place by place: how much it is, and what is at each place.
use mathlib.Core.Path.{◌≡◌, refl, sym, ap, ◌∙◌}
use mathlib.Core.List.{List, ◌∷◌, ◌++◌}
use Prim.Native.Nat.{ℕ, zero, suc, ◌+◌, ◌*◌, ◌<◌, ◌≤◌}
use native.Mathlib.Nat.{le_of_suc-le-suc, not-suc-le-zero, suc-mul}
use native.Mathlib.Omega.{arith}
use lib.ListN.{length, take, get_or}
use lib.Seq.{ext_get_or, get_or-take, take_all, length-take-le}
use Rattle.record.specs.Bytes.{read_each}

module _ {A : Type 0} (read : ℕ → A) (width : ℕ) where
  pub length-each : (at n : ℕ) → length (read_each read width at n) ≡ n
  unfolding read_each
  length-each at zero = refl
  length-each at (suc n) = ap suc (length-each (at + width) n)

  pub each_there : (other : A) (at n k : ℕ) → k < n → get_or (read_each read width at n) k other ≡ read (at + k * width)
  unfolding read_each
  each_there other at zero k here = absurd (not-suc-le-zero here)
  each_there other at (suc n) zero here = let same : at + 0 * width ≡ at = omega arith in rw same
  each_there other at (suc n) (suc k) here =
      let next : at + width + k * width ≡ at + suc k * width = rw (suc-mul k width) (omega arith) in
      each_there other (at + width) n k (le_of_suc-le-suc here) ∙ ap read next

-- A list is what stands at its places, the first of them and all; in two parts.
pub first_read : (bytes : List ℕ) (n : ℕ) → n ≤ length bytes → read_each (λ (k : ℕ). get_or bytes k 0) 1 0 n ≡ take n bytes
first_read bytes n fits =
    let read : ℕ → ℕ = λ (k : ℕ). get_or bytes k 0 in
    let all = length-each read 1 0 n in
    ext_get_or 0 (read_each read 1 0 n) (take n bytes) (all ∙ sym (length-take-le n bytes fits)) (λ k here.
    let place : 0 + k * 1 ≡ k = omega arith in
    let inside : k < n = rw all at here in
    (rw place at (each_there read 1 0 0 n k inside)) ∙ sym (get_or-take n bytes k 0 inside))

pub whole_read : (bytes : List ℕ) → read_each (λ (k : ℕ). get_or bytes k 0) 1 0 (length bytes) ≡ bytes
whole_read bytes = first_read bytes (length bytes) (omega arith) ∙ take_all (length bytes) bytes (omega arith)

pub split_read : (read : ℕ → ℕ) (at n m : ℕ) → read_each read 1 at (n + m) ≡ read_each read 1 at n ++ read_each read 1 (at + n) m
unfolding read_each
split_read read at zero m = let none : at + 0 ≡ at = omega arith in let all : 0 + m ≡ m = omega arith in rw (none, all)
split_read read at (suc n) m =
    let one_more : suc n + m ≡ suc (n + m) = omega arith in
    let place : at + 1 + n ≡ at + suc n = omega arith in
    rw one_more (ap (λ (rest : List ℕ). read at ∷ rest) (split_read read (at + 1) n m ∙ ap (λ (k : ℕ). read_each read 1 (at + 1) n ++ read_each read 1 k m) place))
