-- Numbers as text.
use Rattle.std.specs.Prelude.{List, [], ◌∷◌, ℕ, ◌+◌, ◌/◌, ◌%◌}
use Prim.Native.Char.{code}

-- A number below 100,000, with leading zeros.
abbrev pub five_digits : ℕ → List ℕ
five_digits number =
    (code "0" + number / 10000)
    ∷ (code "0" + number / 1000 % 10)
    ∷ (code "0" + number / 100 % 10)
    ∷ (code "0" + number / 10 % 10)
    ∷ (code "0" + number % 10)
    ∷ []
