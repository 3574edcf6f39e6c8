-- What was written as bytes, wherever it stands, is read back; numbers that were read are written again as they were.
use mathlib.Core.Path.{◌≡◌, refl, sym, ap, ◌∙◌}
use mathlib.Core.Bool.{Bool, true, false}
use mathlib.Core.List.{List, [], ◌∷◌, ◌++◌, append_assoc, flat_map, Memᴰ}
use Prim.Native.Nat.{ℕ, zero, suc, ◌+◌, ◌*◌, ◌/◌, ◌%◌, ◌<◌}
use native.Mathlib.Nat.{add_comm, zero-mul, suc-mul}
use native.Mathlib.Omega.{arith}
use lib.ListN.{length, get_or, length-append}
use lib.Seq.{get_or-append_seam}
use Rattle.std.specs.Int.{from_bool}
use Rattle.words.specs.Choice.{If◌then◌else◌}
use Rattle.record.specs.Bytes.{number_bytes, number_at, AreBytes, flag_byte, flag_bytes, flag_at, read_each}
use Rattle.record.proofs.Reading.{whole_read, split_read}

-- As many numbers as so many bytes can say.
unfoldable pub many : ℕ → ℕ
many zero = 1
many (suc width) = 256 * many width

-- One law for every width.
pub number_back : (width n : ℕ) → n < many width → (before after : List ℕ) → number_at width (before ++ (number_bytes width n ++ after)) (length before) ≡ n
unfolding many number_bytes number_at
number_back zero n fits before after = omega arith
number_back (suc width) n fits before after =
    let low = n % 256 in
    let rest = number_bytes width (n / 256) ++ after in
    let here : get_or (before ++ (low ∷ rest)) (length before) 0 ≡ low = get_or-append_seam before low rest 0 in
    let longer : length (before ++ (low ∷ [])) ≡ length before + 1 = length-append before (low ∷ []) in
    let regrouped : (before ++ (low ∷ [])) ++ rest ≡ before ++ (low ∷ rest) = append_assoc before (low ∷ []) rest in
    let smaller : n / 256 < many width = omega arith in
    let later : number_at width (before ++ (low ∷ rest)) (length before + 1) ≡ n / 256 = rw (regrouped, longer) at (number_back width (n / 256) smaller (before ++ (low ∷ [])) after) in
    (λ i. here i + 256 * later i) ∙ omega arith

-- The library's byte of a flag.
pub flag_is : (flag : Bool) → from_bool flag ≡ flag_byte flag
unfolding flag_byte If◌then◌else◌
flag_is true = refl
flag_is false = refl

pub flag_back : (flag : Bool) (before after : List ℕ) → flag_at (before ++ (flag_bytes flag ++ after)) (length before) ≡ flag
unfolding flag_byte If◌then◌else◌
flag_back true before after = rw (get_or-append_seam before 1 after 0)
flag_back false before after = rw (get_or-append_seam before 0 after 0)

-- Written one after the other, each so many bytes.
module _ {A : Type 0} (write : A → List ℕ) (read : List ℕ → ℕ → A) (width : ℕ) (wide : (x : A) → length (write x) ≡ width) (Fits : A → Type 0) (back : (x : A) → Fits x → (before after : List ℕ) → read (before ++ (write x ++ after)) (length before) ≡ x) where
  pub each_back : (list : List A) → ((x : A) → Memᴰ x list → Fits x) → (before after : List ℕ) → read_each (read (before ++ (flat_map write list ++ after))) width (length before) (length list) ≡ list
  unfolding read_each flat_map
  each_back [] fit before after = refl
  each_back (x ∷ list) fit before after =
      let rest = flat_map write list ++ after in
      let first : (write x ++ flat_map write list) ++ after ≡ write x ++ rest = append_assoc (write x) (flat_map write list) after in
      let regrouped : (before ++ write x) ++ rest ≡ before ++ (write x ++ rest) = append_assoc before (write x) rest in
      let longer : length (before ++ write x) ≡ length before + width = length-append before (write x) ∙ ap (λ (n : ℕ). length before + n) (wide x) in
      let here : read (before ++ (write x ++ rest)) (length before) ≡ x = back x (fit x (Memᴰ.head refl)) before rest in
      let later : read_each (read (before ++ (write x ++ rest))) width (length before + width) (length list) ≡ list =
      rw (regrouped, longer) at (each_back list (λ y among. fit y (Memᴰ.tail among)) (before ++ write x) after) in
      let from : List ℕ → List A = λ l. read_each (read (before ++ l)) width (length before) (length (x ∷ list)) in
      let one_on : from (write x ++ rest) ≡ x ∷ list = (λ i. here i ∷ later i) in
      ap from first ∙ one_on

-- The other way, for every width.
low_again : (low rest : ℕ) → low < 256 → (low + 256 * rest) % 256 ≡ low
low_again low rest h = omega arith

rest_again : (low rest : ℕ) → low < 256 → (low + 256 * rest) / 256 ≡ rest
rest_again low rest h = omega arith

module _ (bytes : List ℕ) (are : AreBytes bytes) where
  abbrev byte : ℕ → ℕ
  byte k = get_or bytes k 0

  pub number_again : (width at : ℕ) → number_bytes width (number_at width bytes at) ≡ read_each byte 1 at width
  unfolding number_bytes number_at read_each
  number_again zero at = refl
  number_again (suc width) at =
      let rest = number_at width bytes (at + 1) in
      (λ i. low_again (byte at) rest (are at) i ∷ number_bytes width (rest_again (byte at) rest (are at) i))
      ∙ ap (λ (l : List ℕ). byte at ∷ l) (number_again width (at + 1))

  pub numbers_again : (width at n : ℕ) → flat_map (number_bytes width) (read_each (number_at width bytes) width at n) ≡ read_each byte 1 at (n * width)
  unfolding read_each flat_map
  numbers_again width at zero = rw (zero-mul width)
  numbers_again width at (suc n) =
      (λ i. number_again width at i ++ numbers_again width (at + width) n i)
      ∙ sym (split_read byte at width (n * width))
      ∙ ap (read_each byte 1 at) (add_comm width (n * width) ∙ sym (suc-mul n width))

  -- All the bytes, where they are so many numbers.
  pub all_again : (width n : ℕ) → length bytes ≡ n * width → flat_map (number_bytes width) (read_each (number_at width bytes) width 0 n) ≡ bytes
  all_again width n all = numbers_again width 0 n ∙ (rw all at (whole_read bytes))
