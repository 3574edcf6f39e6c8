-- How many digits a number has, and which.
use mathlib.Core.Path.{◌≡◌, ◌∙◌}
use mathlib.Core.List.{List, [], ◌∷◌, ◌++◌}
use Prim.Native.Nat.{ℕ, ◌+◌, ◌/◌, ◌%◌, ◌<◌, ◌≤◌}
use native.Mathlib.Omega.{arith}
use borrow.Author.Tests.{lt-ltb, le-ltb}
use lib.ListN.{length, length-append}
use Rattle.words.proofs.Choosing.{then_case, else_case, either_line}
use Rattle.output.specs.Decimal.{decimal, place_bytes}

abbrev pub two_digits : ℕ → List ℕ
two_digits number = (0x30 + number / 10) ∷ (0x30 + number % 10) ∷ []

module _ (number : ℕ) where
  pub one_digit : number < 10 → decimal number ≡ (0x30 + number) ∷ []
  unfolding decimal
  one_digit h = then_case _ _ _ (lt-ltb _ _ h)

  pub two_digits_lem : 10 ≤ number → number < 100 → decimal number ≡ two_digits number
  unfolding decimal
  two_digits_lem g h = else_case _ _ _ (le-ltb _ _ g) ∙ then_case _ _ _ (lt-ltb _ _ h)

  -- the hundreds, and then the two digits of what is left
  pub three_digits : 100 ≤ number → decimal number ≡ ((0x30 + number / 100) ∷ []) ++ two_digits (number % 100)
  unfolding decimal
  three_digits h =
      let ten : 10 ≤ number = omega arith in
      let tens : number / 10 % 10 ≡ number % 100 / 10 = omega arith in
      let ones : number % 10 ≡ number % 100 % 10 = omega arith in
      else_case _ _ _ (le-ltb _ _ ten) ∙ else_case _ _ _ (le-ltb _ _ h) ∙ (λ i. (0x30 + number / 100) ∷ (0x30 + tens i) ∷ (0x30 + ones i) ∷ [])

pub three_at_most : (number : ℕ) → length (decimal number) ≤ 3
unfolding decimal
three_at_most number =
    either_line (λ (digits : List ℕ). length digits ≤ 3) _ _ _ (λ _. omega arith)
    (λ _. either_line (λ (digits : List ℕ). length digits ≤ 3) _ _ _ (λ _. omega arith) (λ _. omega arith))

pub place_long : (row column final : ℕ) → length (place_bytes row column final) ≡ 4 + length (decimal row) + length (decimal column)
unfolding place_bytes
place_long row column final = simp length-append (omega arith)
