-- The line that is printed for a call.
use Rattle.std.specs.Prelude.{List, [], ◌∷◌, ◌++◌, ℕ, zero, suc, ◌/◌, ◌%◌}
use Rattle.terminal.specs.Answers.{Outcome, bytes_sent}
use Rattle.numerals.specs.Hexadecimal.{hex_of}

-- A number in so many bytes, the high byte first.
unfoldable pub high_first : ℕ → ℕ → List ℕ
high_first zero number = []
high_first (suc bytes) number = high_first bytes (number / 256) ++ (number % 256 ∷ [])

unfoldable pub line_of : List ℕ → List ℕ
line_of bytes = hex_of bytes ++ (0x0A ∷ [])

unfoldable pub printed : Outcome → List ℕ
printed outcome =
    line_of
    (high_first 1 outcome.number
    ++ (high_first 1 outcome.terminal.state.cursor.row
    ++ (high_first 1 outcome.terminal.state.cursor.column
    ++ (high_first 4 outcome.stored
    ++ bytes_sent outcome))))

-- FF, where there was no call.
abbrev pub refusal : List ℕ
refusal = line_of (0xFF ∷ [])
