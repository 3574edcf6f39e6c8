-- Document 01, "Fields, keys and blocks": rows and columns in blocks and reports have no leading zeros.
use Rattle.std.specs.Prelude.{List, [], ◌∷◌, ◌++◌, ℕ, ◌+◌, ◌/◌, ◌%◌, ltb}
use Prim.Native.Char.{code}
use Rattle.words.specs.Choice.{If◌then◌else◌}

-- A number below 1,000 in decimal digits.
unfoldable pub decimal : ℕ → List ℕ
decimal number =
    If ltb number 10 then (code "0" + number) ∷ []
    else If ltb number 100 then (code "0" + number / 10) ∷ (code "0" + number % 10) ∷ []
    else (code "0" + number / 100) ∷ (code "0" + number / 10 % 10) ∷ (code "0" + number % 10) ∷ []

-- ESC [ row ; column and a final byte.
unfoldable pub place_bytes : ℕ → ℕ → ℕ → List ℕ
place_bytes row column final = 0x1B ∷ code "[" ∷ (decimal row ++ (code ";" ∷ (decimal column ++ (final ∷ []))))
