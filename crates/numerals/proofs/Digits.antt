-- Laws of hexadecimal, for the loops that read and write it, and of the five digits as they are counted off.
use mathlib.Core.Path.{◌≡◌, refl, sym, ap, ◌∙◌}
use mathlib.Core.Bool.{true, ◌&&◌, ◌||◌}
use mathlib.Core.List.{List, [], ◌∷◌, ◌++◌}
use mathlib.Core.Logic.{⊎_elim}
use Prim.Native.Nat.{ℕ, ◌+◌, ◌-◌, ◌*◌, ◌/◌, ◌%◌, ◌<◌, ◌≤◌}
use native.Mathlib.Omega.{arith}
use lib.Dec.{leb}
use lib.ListN.{length, take, drop, get_or, length-drop}
use lib.Seq.{get_or-append-add, get_or-drop, get_or-take}
use Rattle.std.specs.List.{list_all}
use Rattle.std.proofs.lemmas.Bool.Decides.{nat_tests}
use Rattle.words.specs.Choice.{◌is◌to◌, ◌and◌, ◌or◌}
use Rattle.words.specs.Lists.{every}
use Rattle.words.specs.Output.{placed, Wrote}
use Rattle.words.proofs.Choosing.{one_holds, range_holds}
use Rattle.words.proofs.Walking.{next_element}
use Rattle.output.proofs.Digits.{two_digits}
use Rattle.numerals.specs.Hexadecimal.{is_digit, digit_value, hex_byte, hex_of, hex_pair, hex_pairs, pairs_of}
use Rattle.numerals.specs.Text.{five_digits}
use Rattle.words.proofs.Pieces.{flat_append, flat_length}

-- A digit is one of two ranges.
pub record Digit (digit : ℕ) : Type 0 where
  pub least : 0x30 ≤ digit
  pub letter : 0x39 < digit → 0x41 ≤ digit
  pub most : digit ≤ 0x46

pub is_digit_lem : (digit : ℕ) → is_digit digit ≡ true → Digit digit
unfolding is_digit
is_digit_lem digit told =
    ⊎_elim
    (λ p. let r = range_holds digit 0x30 0x39 p in record { least = r.0; letter = λ h. omega (arith, r.1); most = omega (arith, r.1) })
    (λ p. let r = range_holds digit 0x41 0x46 p in record { least = omega (arith, r.0); letter = λ h. r.0; most = r.1 })
    (one_holds told)

-- The same in the library's words.
pub digit_ranges : (digit : ℕ) → is_digit digit ≡ (leb 0x30 digit && leb digit 0x39 || leb 0x41 digit && leb digit 0x46)
unfolding is_digit ◌is◌to◌ ◌or◌ ◌and◌
digit_ranges digit = grind (arith, nat_tests)

pub ruleset digit_tests = (digit_ranges, nat_tests)

-- The library's test of every element.
pub library_every : (list : List ℕ) → list_all is_digit list ≡ every is_digit list
unfolding every ◌and◌
library_every [] = refl
library_every (digit ∷ list) = rw (library_every list)

-- Each byte has two digits.
pub hex_length : (bytes : List ℕ) → length (hex_of bytes) ≡ 2 * length bytes
hex_length bytes = omega (arith, flat_length hex_byte 2 (λ _. refl) bytes)

-- Each number of two bytes has four.
pub pairs_length : (numbers : List ℕ) → length (hex_pairs numbers) ≡ 4 * length numbers
pairs_length numbers = omega (arith, flat_length hex_pair 4 (λ _. refl) numbers)

pub hex_append : (a b : List ℕ) → hex_of (a ++ b) ≡ hex_of a ++ hex_of b
hex_append = flat_append hex_byte

-- Each pair of digits is a byte.
pub pairs_next : (text : List ℕ) (i : ℕ) → i + 1 < length text → pairs_of (drop i text) ≡ (digit_value (get_or text i 0) * 16 + digit_value (get_or text (i + 1) 0)) ∷ pairs_of (drop (i + 2) text)
unfolding pairs_of
pairs_next text i here =
    let first : i < length text = omega arith in
    let two : i + 1 + 1 ≡ i + 2 = omega arith in
    rw (next_element text i 0 first, next_element text (i + 1) 0 here, two)

none_left : (list : List ℕ) → length list ≤ 1 → pairs_of list ≡ []
unfolding pairs_of
none_left [] h = refl
none_left (digit ∷ []) h = refl
none_left (high ∷ low ∷ later) h = absurd (omega arith)

pub pairs_end : (text : List ℕ) (i : ℕ) → length text ≤ i + 1 → pairs_of (drop i text) ≡ []
pairs_end text i past = none_left (drop i text) (omega (arith, length-drop i text))

pub pairs_most : (text : List ℕ) → 2 * length (pairs_of text) ≤ length text
unfolding pairs_of
pairs_most [] = omega arith
pairs_most (digit ∷ []) = omega arith
pairs_most (high ∷ low ∷ later) = let further = pairs_most later in omega arith

pub pairs_least : (text : List ℕ) → length text ≤ 2 * length (pairs_of text) + 1
unfolding pairs_of
pairs_least [] = omega arith
pairs_least (digit ∷ []) = omega arith
pairs_least (high ∷ low ∷ later) = let further = pairs_least later in omega arith

-- What a part of a list has past what was written over the list's front.
placed_later : (bytes list : List ℕ) (k : ℕ) → length bytes ≤ k → get_or (placed 0 bytes list) k 0 ≡ get_or list k 0
unfolding placed
placed_later bytes list k past =
    let n : length bytes + (k - length bytes) ≡ k = omega arith in
    let m : 0 + length bytes + (k - length bytes) ≡ k = omega arith in
    rw n at (get_or-append-add bytes (drop (0 + length bytes) list) (k - length bytes) 0)
    ∙ get_or-drop (0 + length bytes) list (k - length bytes) 0
    ∙ rw m

pub read_later : {written list now : List ℕ} {count : ℕ} → Wrote 0 written list count now → (digits k : ℕ) → count ≤ k → k < digits → get_or now k 0 ≡ get_or (take digits list) k 0
read_later {written} {list} wrote digits k past here =
    ap (λ (l : List ℕ). get_or l k 0) wrote.left ∙ placed_later written list k (omega (arith, wrote.next_is)) ∙ sym (get_or-take digits list k 0 here)

-- Three digits counted off one after the other, and the two of what they leave.
pub five_digits_lem : (number first rest second left third low : ℕ) → first ≡ number / 10000 → rest ≡ number % 10000 → second ≡ rest / 1000 → left ≡ rest % 1000 → third ≡ left / 100 → low ≡ left % 100 → five_digits number ≡ (0x30 + first) ∷ [] ++ (0x30 + second) ∷ [] ++ (0x30 + third) ∷ [] ++ two_digits low
five_digits_lem number first rest second left third low p q r s t u =
    let a : number / 10000 ≡ first = omega arith in
    let b : number / 1000 % 10 ≡ second = omega arith in
    let c : number / 100 % 10 ≡ third = omega arith in
    let d : number / 10 % 10 ≡ low / 10 = omega arith in
    let e : number % 10 ≡ low % 10 = omega arith in
    λ i. (0x30 + a i) ∷ (0x30 + b i) ∷ (0x30 + c i) ∷ (0x30 + d i) ∷ (0x30 + e i) ∷ []
