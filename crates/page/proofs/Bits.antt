-- Bits of a number, over any bit n: setting and clearing it, clearing many, the bits beside them, and how large the
-- number gets.
use mathlib.Core.Path.{◌≡◌, refl, sym, ap, ◌∙◌}
use mathlib.Core.Bool.{true, false, not}
use mathlib.Core.Logic.{⊎_elim}
use Prim.Native.Nat.{ℕ, zero, suc, ◌+◌, ◌-◌, ◌*◌, ◌/◌, ◌%◌, ◌^◌, ◌<◌, ◌≤◌}
use native.Mathlib.Nat.{zero-mul, div-eq_of_lt, div-lt_iff_lt-mul, lt_of_lt_of_le, mod-lt, mod-mod}
use native.Mathlib.Omega.{arith}
use borrow.Author.Tests.{eq-eqb, ne_eqb}
use lib.Arith.{digits_lt}
use lib.Dec.{eqb}
use lib.Pow.{pow_pos, pow_mono, pow-add, high, low, shr-shr, field, mod-mod-pow, split}
use Rattle.std.specs.Int.Bits.{bit_and, bit_or, or_add_and}
use Rattle.std.proofs.lemmas.Nat.{and_comm, and-not, mod-pow-add, pow_below}
use Rattle.std.proofs.lemmas.Nat.Bits.{and_pow}
use Rattle.words.proofs.Choosing.{le_or_lt}
use Rattle.page.specs.declared.Attribute.{Attribute}
use Rattle.page.specs.declared.Attribute.TheVariants.{Protected, Modified, Bold, Underlined, Blinking, Reversed}
use Rattle.page.specs.declared.Attribute.TheVariants.{Concealed, Numeric, Alphabetic, Required}
use Rattle.page.specs.Marks.{has_bit, with_bit, without_bits, without_bit, bit_of, has_attribute}

-- All bits but those from n to before m are as they were: those below, and those above.
pub record StayOutside (n m before after : ℕ) : Type 0 where
  pub below : after % 2 ^ n ≡ before % 2 ^ n
  pub above : after / 2 ^ m ≡ before / 2 ^ m

-- All bits but n are.
abbrev pub OthersStay : ℕ → ℕ → ℕ → Type 0
OthersStay n = StayOutside n (1 + n)

-- Bit k is told by what is left of a division by a higher power of two, and by the quotient of a lower one.
bit_from_below : (k n x : ℕ) → k < n → x / 2 ^ k % 2 ≡ x % 2 ^ n % 2 ^ (1 + k) / 2 ^ k
bit_from_below k n x less =
    let sum : n - (1 + k) + (1 + k) ≡ n = omega arith in
    sym (field x 1 k)
    ∙ ap (λ (y : ℕ). y / 2 ^ k) (sym (mod-mod-pow x (n - (1 + k)) (1 + k)) ∙ ap (λ (j : ℕ). x % 2 ^ j % 2 ^ (1 + k)) sum)

bit_from_above : (k m x : ℕ) → m ≤ k → x / 2 ^ k % 2 ≡ x / 2 ^ m / 2 ^ (k - m) % 2
bit_from_above k m x from =
    let sum : m + (k - m) ≡ k = omega arith in
    ap (λ (j : ℕ). x / 2 ^ j % 2) (sym sum) ∙ ap (λ (y : ℕ). y % 2) (sym (shr-shr x m (k - m)))

module _ {n m before after : ℕ} (stay : StayOutside n m before after) where
  -- Every bit outside is as it was.
  pub lower_bit : (k : ℕ) → k < n → has_bit k after ≡ has_bit k before
  lower_bit k less =
      ap (λ (bit : ℕ). eqb bit 1)
      (bit_from_below k n after less ∙ ap (λ (y : ℕ). y % 2 ^ (1 + k) / 2 ^ k) stay.below ∙ sym (bit_from_below k n before less))

  pub higher_bit : (k : ℕ) → m ≤ k → has_bit k after ≡ has_bit k before
  higher_bit k from =
      ap (λ (bit : ℕ). eqb bit 1)
      (bit_from_above k m after from ∙ ap (λ (y : ℕ). y / 2 ^ (k - m) % 2) stay.above ∙ sym (bit_from_above k m before from))

  -- A number below a power of two that these bits are below stays so.
  pub stays_below : (k : ℕ) → m ≤ k → before < 2 ^ k → after < 2 ^ k
  stays_below k fits h =
      let sum : k - m + m ≡ k = omega arith in
      let room : 2 ^ k ≡ 2 ^ (k - m) * 2 ^ m = ap (λ (d : ℕ). 2 ^ d) (sym sum) ∙ pow-add 2 (k - m) m in
      rw room ((div-lt_iff_lt-mul (pow_pos m)).0 (rw stay.above ((div-lt_iff_lt-mul (pow_pos m)).1 (rw (← room) h))))

-- Every other bit is as it was.
pub other_bit : {n before after : ℕ} → OthersStay n before after → (k : ℕ) → (k ≡ n → ⊥) → has_bit k after ≡ has_bit k before
other_bit {n} stay k other = ⊎_elim (λ from. higher_bit stay k (omega (arith, other))) (lower_bit stay k) (le_or_lt n k)

-- What clearing the bits from n to before m leaves.
module _ (n m mark : ℕ) (order : n ≤ m) where
  below_is_less : mark % 2 ^ n < 2 ^ m
  below_is_less = lt_of_lt_of_le (mod-lt mark (pow_pos n)) (pow_mono order)

  cleared_rest : without_bits n m mark % 2 ^ m ≡ mark % 2 ^ n
  cleared_rest = low (mark / 2 ^ m) m below_is_less

  pub cleared_outside : StayOutside n m mark (without_bits n m mark)
  cleared_outside =
      let sum : m - n + n ≡ m = omega arith in
      record {
        below = sym (mod-mod-pow (without_bits n m mark) (m - n) n)
            ∙ ap (λ (k : ℕ). without_bits n m mark % 2 ^ k % 2 ^ n) sum
            ∙ ap (λ (rest : ℕ). rest % 2 ^ n) cleared_rest
            ∙ rw mod-mod;
        above = high (mark / 2 ^ m) m below_is_less;
      }

  pub cleared_inside : (k : ℕ) → n ≤ k → k < m → has_bit k (without_bits n m mark) ≡ false
  cleared_inside k from less =
      let short : mark % 2 ^ n / 2 ^ k ≡ 0 = div-eq_of_lt (lt_of_lt_of_le (mod-lt mark (pow_pos n)) (pow_mono from)) in
      let bit : without_bits n m mark / 2 ^ k % 2 ≡ 0 =
      bit_from_below k m (without_bits n m mark) less
      ∙ ap (λ (rest : ℕ). rest % 2 ^ (1 + k) / 2 ^ k) cleared_rest
      ∙ field (mark % 2 ^ n) 1 k
      ∙ rw short in
      ne_eqb (without_bits n m mark / 2 ^ k % 2) 1 (omega (arith, bit))

-- What setting bit n leaves, and clearing it.
module _ (n mark : ℕ) where
  low_is_less : mark % 2 ^ n < 2 ^ n
  low_is_less = mod-lt mark (pow_pos n)

  rest_is_less : 1 * 2 ^ n + mark % 2 ^ n < 2 ^ (1 + n)
  rest_is_less = rw (pow-add 2 1 n) (digits_lt (omega arith) low_is_less)

  grouped : with_bit n mark ≡ mark / 2 ^ (1 + n) * 2 ^ (1 + n) + (1 * 2 ^ n + mark % 2 ^ n)
  grouped = omega arith

  set_rest : with_bit n mark % 2 ^ (1 + n) ≡ 1 * 2 ^ n + mark % 2 ^ n
  set_rest = rw grouped (low (mark / 2 ^ (1 + n)) (1 + n) rest_is_less)

  pub set_others : OthersStay n mark (with_bit n mark)
  set_others = record {
    below = sym (mod-mod-pow (with_bit n mark) 1 n) ∙ ap (λ (rest : ℕ). rest % 2 ^ n) set_rest ∙ low 1 n low_is_less;
    above = rw grouped (high (mark / 2 ^ (1 + n)) (1 + n) rest_is_less);
  }

  pub set_bit : has_bit n (with_bit n mark) ≡ true
  set_bit =
      eq-eqb (with_bit n mark / 2 ^ n % 2) 1
      (sym (field (with_bit n mark) 1 n) ∙ ap (λ (rest : ℕ). rest / 2 ^ n) set_rest ∙ high 1 n low_is_less)

  pub cleared_others : OthersStay n mark (without_bit n mark)
  cleared_others = cleared_outside n (1 + n) mark (omega arith)

  pub cleared_bit : has_bit n (without_bit n mark) ≡ false
  cleared_bit = cleared_inside n (1 + n) mark (omega arith) n (omega arith) (omega arith)

-- The same by masks: bit n asked, set and cleared.
module _ (n mark : ℕ) where
  by_parts : mark / 2 ^ (1 + n) * 2 ^ (1 + n) + ((mark / 2 ^ n % 2) * 2 ^ n + mark % 2 ^ n) ≡ mark
  by_parts = rw (mod-pow-add mark 1 n) at (split mark (1 + n))

  pub asked_by_mask : not (eqb (bit_and mark (2 ^ n)) 0) ≡ has_bit n mark
  asked_by_mask = rw (and_pow mark n) (same_test (mark / 2 ^ n % 2) (omega arith))
    where
      same_test : (bit : ℕ) → bit < 2 → not (eqb (bit * 2 ^ n) 0) ≡ eqb bit 1
      same_test zero less = rw zero-mul
      same_test (suc zero) less = ap not (ne_eqb _ 0 (omega (arith, pow_pos n)))
      same_test (suc (suc bit)) less = absurd (omega arith)

  pub set_by_mask : bit_or mark (2 ^ n) ≡ with_bit n mark
  set_by_mask = omega (arith, by_parts, or_add_and mark (2 ^ n), and_pow mark n)

  pub cleared_by_mask : (w : ℕ) → mark < 2 ^ w → n < w → bit_and mark (2 ^ w - 1 - 2 ^ n) ≡ without_bit n mark
  cleared_by_mask w fits inside =
      omega (arith, by_parts, and-not w (2 ^ n) mark (pow_below n w inside) fits, and_comm mark (2 ^ w - 1 - 2 ^ n), and_comm mark (2 ^ n), and_pow mark n)

-- Every attribute is a bit of a mark, the one that its question asks.
pub bit-lt : (attribute : Attribute) → bit_of attribute < 16
bit-lt Protected = omega arith
bit-lt Modified = omega arith
bit-lt Bold = omega arith
bit-lt Underlined = omega arith
bit-lt Blinking = omega arith
bit-lt Reversed = omega arith
bit-lt Concealed = omega arith
bit-lt Numeric = omega arith
bit-lt Alphabetic = omega arith
bit-lt Required = omega arith

pub attribute_bit : (attribute : Attribute) (mark : ℕ) → has_bit (bit_of attribute) mark ≡ has_attribute attribute mark
attribute_bit Protected mark = refl
attribute_bit Modified mark = refl
attribute_bit Bold mark = refl
attribute_bit Underlined mark = refl
attribute_bit Blinking mark = refl
attribute_bit Reversed mark = refl
attribute_bit Concealed mark = refl
attribute_bit Numeric mark = refl
attribute_bit Alphabetic mark = refl
attribute_bit Required mark = refl

-- as `!` of 16 bits clears it
pub cleared_of_16 : (attribute : Attribute) (mark : ℕ) → mark < 2 ^ 16 → bit_and mark (65535 - 2 ^ bit_of attribute) ≡ without_bit (bit_of attribute) mark
cleared_of_16 attribute mark fits = cleared_by_mask (bit_of attribute) mark 16 fits (bit-lt attribute)

pub ruleset masks = (asked_by_mask, set_by_mask, cleared_of_16, attribute_bit)
