-- Laws of tests and choices, for proofs that follow a table.
use mathlib.Core.Path.{◌≡◌, refl, sym, ◌∙◌}
use mathlib.Core.Bool.{Bool, true, false}
use mathlib.Core.Logic.{◌⊎◌, inl, inr, ⊎_elim}
use Prim.Native.Nat.{ℕ, ◌≤◌, ◌<◌}
use native.Mathlib.Omega.{arith}
use lib.Dec.{ltb}
use borrow.Author.Tests.{lt-ltb, le-ltb, le-leb, lt-leb, eq-eqb, ne_eqb, leb-true, leb-false, ltb-true, ltb-false}
use Rattle.words.specs.Choice.{If◌then◌else◌, ◌and◌, ◌or◌, ◌is◌to◌}

pub true_is_not_false : true ≡ false → ⊥
true_is_not_false p = let z : ◌≡◌ {A = ℕ} 0 1 = cc in omega arith

pub not_both : {t : Bool} → t ≡ true → t ≡ false → ⊥
not_both p q = true_is_not_false (sym p ∙ q)

module _ {A : Type 0} where
  pub then_case : (t : Bool) (a b : A) → t ≡ true → (If t then a else b) ≡ a
  unfolding If◌then◌else◌
  then_case true a b p = refl
  then_case false a b p = absurd (true_is_not_false (sym p))

  pub else_case : (t : Bool) (a b : A) → t ≡ false → (If t then a else b) ≡ b
  unfolding If◌then◌else◌
  else_case true a b p = absurd (true_is_not_false p)
  else_case false a b p = refl

-- What holds of both lines of a choice holds of the choice.
pub either_line : {A : Type 0} (P : A → Type 0) (t : Bool) (a b : A) → (t ≡ true → P a) → (t ≡ false → P b) → P (If t then a else b)
unfolding If◌then◌else◌
either_line P true a b f g = f refl
either_line P false a b f g = g refl

-- What follows where a test holds and follows where it fails.
pub either_way : {A : Type 0} (t : Bool) → (t ≡ true → A) → (t ≡ false → A) → A
either_way true f g = f refl
either_way false f g = g refl

pub less_or_not : {A : Type 0} (a b : ℕ) → (a < b → A) → (b ≤ a → A) → A
less_or_not a b f g = either_way (ltb a b) (λ t. f (ltb-true a b t)) (λ t. g (ltb-false a b t))

pub le_or_lt : (a b : ℕ) → (a ≤ b) ⊎ (b < a)
le_or_lt a b = less_or_not b a inr inl

module _ (a b : Bool) where
  pub both_hold : a ≡ true → b ≡ true → (a and b) ≡ true
  unfolding ◌and◌
  both_hold p q = rw p q

  pub first_decides : a ≡ true → (a and b) ≡ b
  unfolding ◌and◌
  first_decides p = rw p

  pub first_fails : a ≡ false → (a and b) ≡ false
  unfolding ◌and◌
  first_fails p = rw p

  pub second_fails : b ≡ false → (a and b) ≡ false
  unfolding ◌and◌
  second_fails p = rw p (fails a)
    where
      fails : (a : Bool) → (a and false) ≡ false
      fails true = refl
      fails false = refl

  pub first_holds : a ≡ true → (a or b) ≡ true
  unfolding ◌or◌
  first_holds p = rw p

  pub second_decides : a ≡ false → (a or b) ≡ b
  unfolding ◌or◌
  second_decides p = rw p

pub both : {a b : Bool} → (a and b) ≡ true → (a ≡ true) × (b ≡ true)
unfolding ◌and◌
both {a = true} p = (refl, p)
both {a = false} p = absurd (true_is_not_false (sym p))

pub neither : {a b : Bool} → (a or b) ≡ false → (a ≡ false) × (b ≡ false)
unfolding ◌or◌
neither {a = true} p = absurd (true_is_not_false p)
neither {a = false} p = (refl, p)

pub one_fails : {a b : Bool} → (a and b) ≡ false → (a ≡ false) ⊎ (b ≡ false)
unfolding ◌and◌
one_fails {a = true} p = inr p
one_fails {a = false} p = inl refl

pub one_holds : {a b : Bool} → (a or b) ≡ true → (a ≡ true) ⊎ (b ≡ true)
unfolding ◌or◌
one_holds {a = true} p = inl refl
one_holds {a = false} p = inr p

pub range_holds : (n low high : ℕ) → (n is low to high) ≡ true → (low ≤ n) × (n ≤ high)
unfolding ◌is◌to◌
range_holds n low high p = let h = both p in (leb-true low n h.0, leb-true n high h.1)

pub range_is : (n low high : ℕ) → low ≤ n → n ≤ high → (n is low to high) ≡ true
unfolding ◌is◌to◌
range_is n low high p q = both_hold _ _ (le-leb low n p) (le-leb n high q)

pub range_fails : (n low high : ℕ) → (n is low to high) ≡ false → (n < low) ⊎ (high < n)
unfolding ◌is◌to◌
range_fails n low high p = ⊎_elim (λ q. inl (leb-false low n q)) (λ q. inr (leb-false n high q)) (one_fails p)

-- A test that can't hold fails.
pub refuted : (test : Bool) → (test ≡ true → ⊥) → test ≡ false
refuted true p = absurd (p refl)
refuted false p = refl

-- A test that a function answered.
module _ (n low high : ℕ) (answer : Bool) (told : answer ≡ (n is low to high)) where
  pub is_in : answer ≡ true → (n is low to high) ≡ true
  is_in p = sym told ∙ p

  pub is_out : answer ≡ false → (n is low to high) ≡ false
  is_out p = sym told ∙ p

-- What `search` is handed where a function follows a table.
pub ruleset tests = (then_case, else_case, both_hold, first_decides, first_fails, first_holds, second_decides, is_in, is_out, lt-ltb, le-ltb, le-leb, lt-leb, eq-eqb, ne_eqb)
