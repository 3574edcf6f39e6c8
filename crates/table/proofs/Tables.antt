-- Tables of digits that follow a rule: antt computes `digits_of`, and compares it with a table of the code digit by
-- digit.
use mathlib.Core.Path.{◌≡◌, ap, ◌∙◌}
use mathlib.Core.List.{List, [], ◌∷◌}
use Prim.Native.Nat.{ℕ, zero, suc, ◌+◌, ◌-◌, ◌<◌, ◌≤◌}
use native.Mathlib.Nat.{add-zero}
use native.Mathlib.Omega.{arith}
use lib.ListN.{get_or}
use Rattle.std.proofs.Math.Nat.{sub-zero}

-- What a rule gives for so many numbers, from the least on, as digits.
unfoldable pub digits_of : (ℕ → ℕ) → ℕ → ℕ → List ℕ
digits_of rule least zero = []
digits_of rule least (suc more) = (0x30 + rule least) ∷ digits_of rule (least + 1) more

module _ (rule : ℕ → ℕ) where
  at_place : (least size place : ℕ) → place < size → get_or (digits_of rule least size) place 0 ≡ 0x30 + rule (least + place)
  unfolding digits_of
  at_place least zero place h = absurd (omega arith)
  at_place least (suc more) zero h = rw (add-zero least)
  at_place least (suc more) (suc place) h =
      let same : least + 1 + place ≡ least + suc place = omega arith in
      at_place (least + 1) more place (omega arith) ∙ ap (λ (n : ℕ). 0x30 + rule n) same

  module _ (least size n : ℕ) (h : least ≤ n) (l : n < least + size) where
    entry : get_or (digits_of rule least size) (n - least) 0 ≡ 0x30 + rule n
    entry =
        let same : least + (n - least) ≡ n = omega arith in
        at_place least size (n - least) (omega arith) ∙ ap (λ (n : ℕ). 0x30 + rule n) same

    pub is_digit : 0x30 ≤ get_or (digits_of rule least size) (n - least) 0
    is_digit = omega (arith, entry)

    pub digit_is : get_or (digits_of rule least size) (n - least) 0 - 0x30 ≡ rule n
    digit_is = omega (arith, entry)

  -- a table from 0 on
  module _ (size n : ℕ) (inside : n < size) where
    pub is_digit_at : 0x30 ≤ get_or (digits_of rule 0 size) n 0
    is_digit_at = rw (sub-zero n) at (is_digit 0 size n (omega arith) (omega arith))

    pub digit_at : get_or (digits_of rule 0 size) n 0 - 0x30 ≡ rule n
    digit_at = rw (sub-zero n) at (digit_is 0 size n (omega arith) (omega arith))
