-- A block read back gives its entries, so equal blocks have equal entries.
use mathlib.Core.Path.{◌≡◌, refl, sym, ap, ◌∙◌}
use mathlib.Core.Bool.{Bool, true, false}
use mathlib.Core.List.{List, [], ◌∷◌, ◌++◌, map, append_assoc, append-nil}
use Prim.Native.Nat.{ℕ, ◌+◌, ◌-◌, ◌*◌, ◌/◌, ◌%◌, ◌<◌, ◌≤◌}
use native.Mathlib.Omega.{arith}
use borrow.Author.Tests.{ne_eqb, le-leb, leb-true, ltb-true}
use lib.Dec.{leb, ltb}
use Rattle.words.specs.Choice.{If◌then◌else◌, ◌and◌, ◌is◌to◌}
use Rattle.words.specs.Lists.{every}
use Rattle.words.proofs.Choosing.{then_case, else_case, either_line, both, both_hold, range_is, range_holds}
use Rattle.words.proofs.Passing.{every_append}
use Rattle.page.specs.Marks.{valid_character}
use Rattle.output.specs.Decimal.{decimal, place_bytes}
use Rattle.blocks.specs.Blocks.{Entry, entry_bytes, encode}
use Rattle.blocks.specs.Decode.{in_front, split, read_number, read_entry, decode, valid_entry}

-- What holds of a number's one, two or three digits.
pub digits : (P : List ℕ → Type 0) (number : ℕ)
    → (number < 10 → P ((0x30 + number) ∷ []))
    → (number < 100 → P ((0x30 + number / 10) ∷ (0x30 + number % 10) ∷ []))
    → P ((0x30 + number / 100) ∷ (0x30 + number / 10 % 10) ∷ (0x30 + number % 10) ∷ [])
    → P (decimal number)
unfolding decimal
digits P number one two three =
    either_line P (ltb number 10) _ _ (λ t. one (ltb-true number 10 t))
    (λ _. either_line P (ltb number 100) _ _ (λ t. two (ltb-true number 100 t)) (λ _. three))

-- A byte that is neither ESC nor 03, as are all that stand between two ESCs.
abbrev pub plain : ℕ → Bool
plain byte = leb 0x20 byte

plain_digit : (value : ℕ) → plain (0x30 + value) ≡ true
plain_digit value = le-leb 0x20 (0x30 + value) (omega arith)

plain_decimal : (number : ℕ) → every plain (decimal number) ≡ true
unfolding every
plain_decimal number =
    digits (λ (bytes : List ℕ). every plain bytes ≡ true) number (λ _. both_hold _ _ (plain_digit number) refl)
    (λ _. both_hold _ _ (plain_digit (number / 10)) (both_hold _ _ (plain_digit (number % 10)) refl))
    (both_hold _ _ (plain_digit (number / 100)) (both_hold _ _ (plain_digit (number / 10 % 10)) (both_hold _ _ (plain_digit (number % 10)) refl)))

plain_characters : (characters : List ℕ) → every valid_character characters ≡ true → every plain characters ≡ true
unfolding every
plain_characters [] h = refl
plain_characters (character ∷ later) h =
    let p = both h in
    both_hold _ _ (le-leb 0x20 character (range_holds character 0x20 0x7E p.0).0) (plain_characters later p.1)

-- What follows an entry's ESC.
pub run_of : Entry → List ℕ
run_of entry = 0x5B ∷ (decimal entry.row ++ (0x3B ∷ (decimal entry.column ++ (0x66 ∷ entry.characters))))

pub entry_is : (entry : Entry) → entry_bytes entry ≡ 0x1B ∷ run_of entry
unfolding entry_bytes place_bytes run_of
entry_is entry = simp append_assoc

pub plain_run : (entry : Entry) → every valid_character entry.characters ≡ true → every plain (run_of entry) ≡ true
unfolding run_of every ◌and◌
plain_run entry h =
    every_append plain (decimal entry.row) _ (plain_decimal entry.row)
    (every_append plain (decimal entry.column) (0x66 ∷ entry.characters) (plain_decimal entry.column) (plain_characters entry.characters h))

cut_plain : (run bytes : List ℕ) → every plain run ≡ true → split (run ++ bytes) ≡ record { before = run ++ (split bytes).before; runs = (split bytes).runs }
unfolding split in_front every
cut_plain [] bytes p = refl
cut_plain (byte ∷ run) bytes p =
    let q = both p in
    let h : 0x20 ≤ byte = leb-true 0x20 byte q.0 in
    rw (cut_plain run bytes q.1) (else_case _ _ _ (ne_eqb byte 0x03 (λ e. omega arith)) ∙ else_case _ _ _ (ne_eqb byte 0x1B (λ e. omega arith)))

-- A number is read back, up to the byte that ends it.
read_digit : (value digit : ℕ) (later : List ℕ) → digit < 10 → read_number value ((0x30 + digit) ∷ later) ≡ read_number (value * 10 + digit) later
unfolding read_number
read_digit value digit later h =
    let same : 0x30 + digit - 0x30 ≡ digit = omega arith in
    then_case _ _ _ (range_is (0x30 + digit) 0x30 0x39 (omega arith) (omega arith)) ∙ ap (λ (d : ℕ). read_number (value * 10 + d) later) same

read_end : (value byte : ℕ) (later : List ℕ) → (byte is 0x30 to 0x39) ≡ false → read_number value (byte ∷ later) ≡ record { value = value; after = later }
unfolding read_number
read_end value byte later h = else_case _ _ _ h

read_decimal : (number byte : ℕ) (later : List ℕ) → number < 1000 → (byte is 0x30 to 0x39) ≡ false → read_number 0 (decimal number ++ (byte ∷ later)) ≡ record { value = number; after = later }
read_decimal number byte later small ends =
    digits (λ (bytes : List ℕ). read_number 0 (bytes ++ (byte ∷ later)) ≡ record { value = number; after = later }) number
    (λ h.
    read_digit 0 number (byte ∷ later) h
    ∙ end (0 * 10 + number) (omega arith))
    (λ h.
    read_digit 0 (number / 10) ((0x30 + number % 10) ∷ byte ∷ later) (omega arith)
    ∙ read_digit (0 * 10 + number / 10) (number % 10) (byte ∷ later) (omega arith)
    ∙ end ((0 * 10 + number / 10) * 10 + number % 10) (omega arith))
    (
    read_digit 0 (number / 100) ((0x30 + number / 10 % 10) ∷ (0x30 + number % 10) ∷ byte ∷ later) (omega arith)
    ∙ read_digit (0 * 10 + number / 100) (number / 10 % 10) ((0x30 + number % 10) ∷ byte ∷ later) (omega arith)
    ∙ read_digit ((0 * 10 + number / 100) * 10 + number / 10 % 10) (number % 10) (byte ∷ later) (omega arith)
    ∙ end (((0 * 10 + number / 100) * 10 + number / 10 % 10) * 10 + number % 10) (omega arith))
  where
    end : (value : ℕ) → value ≡ number → read_number value (byte ∷ later) ≡ record { value = number; after = later }
    end value e = rw e (read_end number byte later ends)

read_entry_lem : (entry : Entry) → entry.row < 1000 → entry.column < 1000 → read_entry (run_of entry) ≡ entry
unfolding read_entry run_of ◌is◌to◌ ◌and◌
read_entry_lem entry row column =
    rw (read_decimal entry.row 0x3B (decimal entry.column ++ (0x66 ∷ entry.characters)) row refl, read_decimal entry.column 0x66 entry.characters column refl)

-- What a valid entry is.
pub record Valid (entry : Entry) : Type 0 where
  pub row : entry.row < 1000
  pub column : entry.column < 1000
  pub characters : every valid_character entry.characters ≡ true

pub valid : (entry : Entry) → valid_entry entry ≡ true → Valid entry
unfolding valid_entry
valid entry h =
    let p = both h in
    let q = both p.1 in
    record { row = ltb-true entry.row 1000 p.0; column = ltb-true entry.column 1000 q.0; characters = q.1 }

-- The runs of a block are those of its entries.
cut_encode : (entries : List Entry) → every valid_entry entries ≡ true → split (encode entries) ≡ record { before = []; runs = map run_of entries }
unfolding encode split every in_front If◌then◌else◌
cut_encode [] h = refl
cut_encode (entry ∷ later) h =
    let p = both h in
    rw (entry_is entry, cut_plain (run_of entry) (encode later) (plain_run entry (valid entry p.0).characters), cut_encode later p.1, append-nil)

read_all : (entries : List Entry) → every valid_entry entries ≡ true → map read_entry (map run_of entries) ≡ entries
unfolding every
read_all [] h = refl
read_all (entry ∷ later) h =
    let p = both h in
    let v = valid entry p.0 in
    rw (read_entry_lem entry v.row v.column, read_all later p.1)

pub decode-encode : (entries : List Entry) → every valid_entry entries ≡ true → decode (encode entries) ≡ entries
unfolding decode
decode-encode entries h = rw (cut_encode entries h) (read_all entries h)

pub encode_injective : (a b : List Entry) → every valid_entry a ≡ true → every valid_entry b ≡ true → encode a ≡ encode b → a ≡ b
encode_injective a b p q e = sym (decode-encode a p) ∙ ap decode e ∙ decode-encode b q
