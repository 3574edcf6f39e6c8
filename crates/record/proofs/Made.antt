-- An array that is made by a call for each of its places holds what each call gives.
use mathlib.Core.Path.{◌≡◌, sym, ap, ◌∙◌, subst}
use mathlib.Core.List.{List}
use Prim.Native.Nat.{ℕ, zero, suc, ◌+◌, ◌*◌, ◌<◌}
use native.Mathlib.Nat.{le_of_suc-le-suc, not-suc-le-zero}
use native.Mathlib.Omega.{arith}
use lib.ListN.{get_or}
use lib.Seq.{ext_get_or}
use Rattle.std.specs.Array.{IsFromFnResult, IsFromFnResultFrom}
use denote.Param.Members.{Mut, Called}
use Rattle.record.specs.Bytes.{read_each}
use Rattle.record.proofs.Reading.{length-each, each_there}

module _ {F B : Type 0} (g : Mut F (ℕ × Unit {0}) B) (gives : ℕ → B) (f : F) (same : (x : ℕ) (y : B) (q : F) → Called g f (x, tt) y q → (q ≡ f) × (y ≡ gives x)) where
  pub made_from : (ys : List B) (i n k : ℕ) (other : B) → IsFromFnResultFrom g f ys i n → k < n → get_or ys (i + k) other ≡ gives (i + k)
  made_from ys i zero k other each here = absurd (not-suc-le-zero here)
  made_from ys i (suc n) zero other (q, y, element, called, later) here =
      let at : i + 0 ≡ i = omega arith in
      rw at (element.1 other ∙ (same i y q called).1)
  made_from ys i (suc n) (suc k) other (q, y, element, called, later) here =
      let at : i + 1 + k ≡ i + suc k = omega arith in
      let on = subst (λ (s : F). IsFromFnResultFrom g s ys (i + 1) n) (same i y q called).0 later in
      rw at at (made_from ys (i + 1) n k other on (le_of_suc-le-suc here))

-- Calls that read one place after the other.
pub made_each : {F B : Type 0} {g : Mut F (ℕ × Unit {0}) B} {f : F} {ys : List B} {n : ℕ} (other : B) (read : ℕ → B) (width at : ℕ) (place : ℕ → ℕ) → ((k : ℕ) → place k ≡ at + k * width) → ((x : ℕ) (y : B) (q : F) → Called g f (x, tt) y q → (q ≡ f) × (y ≡ read (place x))) → IsFromFnResult g f ys n → ys ≡ read_each read width at n
made_each {B = B} {g = g} {f = f} {ys = ys} {n = n} other read width at place places same made =
    ext_get_or other ys (read_each read width at n) (made.long ∙ sym (length-each read width at n)) (λ k here.
    let below : k < n = rw made.long at here in
    let plain : 0 + k ≡ k = omega arith in
    (rw plain at (made_from g (λ (x : ℕ). read (place x)) f same ys 0 n k other made.each below)) ∙ ap read (places k) ∙ sym (each_there read width other at n k below))
