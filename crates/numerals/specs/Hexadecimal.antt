-- Document 01, "Examples", the transcript program: upper-case hexadecimal, two digits a byte, the high one first.
use Rattle.std.specs.Prelude.{Bool, ℕ, ◌+◌, ◌-◌, ◌*◌, ◌/◌, ◌%◌, eqb, ltb, leb, length}
use mathlib.Core.List.{List, [], ◌∷◌, ◌++◌, flat_map}
use Prim.Native.Char.{code}
use Rattle.words.specs.Choice.{If◌then◌else◌, ◌and◌, ◌or◌, ◌is◌to◌}
use Rattle.words.specs.Lists.{every}

-- 0 to 9, and A to F; 0x37 is ten before A.
unfoldable pub is_digit : ℕ → Bool
is_digit digit = digit is code "0" to code "9" or digit is code "A" to code "F"

unfoldable pub digit_value : ℕ → ℕ
digit_value digit =
    If leb digit (code "9") then digit - code "0"
    else digit - 0x37

unfoldable pub digit_of : ℕ → ℕ
digit_of value =
    If ltb value 10 then code "0" + value
    else 0x37 + value

-- Bytes as digits.
abbrev pub hex_byte : ℕ → List ℕ
hex_byte byte = digit_of (byte / 16) ∷ digit_of (byte % 16) ∷ []

abbrev pub hex_of : List ℕ → List ℕ
hex_of bytes = flat_map hex_byte bytes

-- A number of two bytes, with four digits, the high byte first.
abbrev pub hex_pair : ℕ → List ℕ
hex_pair number = hex_byte (number / 256) ++ hex_byte (number % 256)

abbrev pub hex_pairs : List ℕ → List ℕ
hex_pairs numbers = flat_map hex_pair numbers

-- Digits as bytes: those that a text says, and none where it is not all whole bytes.
unfoldable pub pairs_of : List ℕ → List ℕ
pairs_of [] = []
pairs_of (digit ∷ []) = []
pairs_of (high ∷ low ∷ later) = (digit_value high * 16 + digit_value low) ∷ pairs_of later

unfoldable pub is_hexadecimal : List ℕ → Bool
is_hexadecimal text = eqb (length text % 2) 0 and every is_digit text

unfoldable pub bytes_in : List ℕ → List ℕ
bytes_in text =
    If is_hexadecimal text then pairs_of text
    else []
