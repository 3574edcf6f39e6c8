-- Document 02, M-100: how numbers and flags stand in bytes.
use Rattle.std.specs.Prelude.{Bool, true, false, List, [], ◌∷◌, ℕ, zero, suc, ◌+◌, ◌*◌, ◌/◌, ◌%◌, ◌<◌, eqb, get_or}
use Rattle.words.specs.Choice.{If◌then◌else◌, ◌and◌}

-- A number in so many bytes, the low one first.
unfoldable pub number_bytes : ℕ → ℕ → List ℕ
number_bytes zero number = []
number_bytes (suc width) number = number % 256 ∷ number_bytes width (number / 256)

-- The number that so many bytes say, from a place on. Past the end bytes are read as 0.
unfoldable pub number_at : ℕ → List ℕ → ℕ → ℕ
number_at zero bytes at = 0
number_at (suc width) bytes at = get_or bytes at 0 + 256 * number_at width bytes (at + 1)

-- Bytes as the code has them: each is below 256.
abbrev pub AreBytes : List ℕ → Type 0
AreBytes bytes = (place : ℕ) → get_or bytes place 0 < 256

-- A flag is one byte, 0 or 1. Any other byte is read as 0 is.
unfoldable pub flag_byte : Bool → ℕ
flag_byte flag =
    If flag then 1
    else 0

abbrev pub flag_bytes : Bool → List ℕ
flag_bytes flag = flag_byte flag ∷ []

abbrev pub flag_at : List ℕ → ℕ → Bool
flag_at bytes at = eqb (get_or bytes at 0) 1

-- What is read at n places, the first at a place and each so many bytes after the one before.
unfoldable pub read_each : {A : Type 0} → (ℕ → A) → ℕ → ℕ → ℕ → List A
read_each read width at zero = []
read_each read width at (suc n) = read at ∷ read_each read width (at + width) n

-- Two lists of bytes, or of other numbers, are the same.
unfoldable pub same_bytes : List ℕ → List ℕ → Bool
same_bytes [] [] = true
same_bytes [] (y ∷ other) = false
same_bytes (x ∷ one) [] = false
same_bytes (x ∷ one) (y ∷ other) = eqb x y and same_bytes one other
