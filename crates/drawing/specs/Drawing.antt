-- A terminal drawn as text: six lines for the state, then each row's characters, then each row's marks.
--     size 00024 00080
--     cursor 00001 00006
--     pen 0000 erasure 0 full 0
--     manual 0 soft 0 message 00000 byte 00
--     stops ....T...                                      (160 of them, column 1 first)
--     half 00003 spoilt 0 count 00002 arguments 00001 00005 00000 00000 00000 00000 00000 00000
--     |KN  .          |                                   (R lines)
--     :00010001000000800080..                             (R lines)
use Rattle.std.specs.Prelude.{Bool, false, ℕ, zero, suc, ◌<◌, take, drop}
use mathlib.Core.List.{List, [], ◌∷◌, ◌++◌, flat_map}
use Prim.Native.Char.{code}
use Rattle.words.specs.Choice.{If◌then◌else◌}
use Rattle.words.specs.Lists.{exactly}
use Rattle.sequence.specs.declared.HalfRead.{HalfRead}
use Rattle.state.specs.declared.Modes.{Modes}
use Rattle.state.specs.declared.Locks.{Locks}
use Rattle.state.specs.declared.State.{State}
use Rattle.words.specs.Text.{bytes}
use Rattle.numerals.specs.Text.{five_digits}
use Rattle.numerals.specs.Hexadecimal.{hex_byte, hex_pair, hex_pairs}

abbrev pub line_end : List ℕ
line_end = bytes "\n"

abbrev pub flag_text : Bool → List ℕ
flag_text flag = (If flag then code "1" else code "0") ∷ []

-- A tab stop in a column, or none.
abbrev pub stop_of : Bool → List ℕ
stop_of stop = (If stop then code "T" else code ".") ∷ []

-- A word, and the number or the flag that it names.
abbrev pub numbered : List ℕ → ℕ → List ℕ
numbered word number = word ++ five_digits number

abbrev pub flagged : List ℕ → Bool → List ℕ
flagged word flag = word ++ flag_text flag

abbrev pub spaced : ℕ → List ℕ
spaced number = numbered (bytes " ") number

-- The lines of the state.
abbrev pub pair_line : List ℕ → ℕ → ℕ → List ℕ
pair_line word first second = numbered word first ++ spaced second ++ line_end

unfoldable pub pen_line : Modes → List ℕ
pen_line modes =
    bytes "pen "
    ++ hex_pair modes.pen
    ++ flagged (bytes " erasure ") modes.erasure
    ++ flagged (bytes " full ") modes.full
    ++ line_end

unfoldable pub locks_line : Locks → List ℕ
locks_line locks =
    flagged (bytes "manual ") locks.manual
    ++ flagged (bytes " soft ") locks.soft
    ++ numbered (bytes " message ") locks.message
    ++ bytes " byte "
    ++ hex_byte locks.byte
    ++ line_end

abbrev pub all_stops : List Bool → List ℕ
all_stops stops = flat_map stop_of (exactly 160 false stops)

unfoldable pub stops_line : List Bool → List ℕ
stops_line stops = bytes "stops " ++ all_stops stops ++ line_end

abbrev pub all_arguments : List ℕ → List ℕ
all_arguments arguments = flat_map spaced (exactly 8 0 arguments)

unfoldable pub half_line : HalfRead → List ℕ
half_line half =
    numbered (bytes "half ") half.kind
    ++ flagged (bytes " spoilt ") half.spoilt
    ++ numbered (bytes " count ") half.count
    ++ bytes " arguments"
    ++ all_arguments half.arguments
    ++ line_end

unfoldable pub state_lines : State → List ℕ
state_lines state =
    pair_line (bytes "size ") state.size.rows state.size.columns
    ++ pair_line (bytes "cursor ") state.cursor.row state.cursor.column
    ++ pen_line state.modes
    ++ locks_line state.locks
    ++ stops_line state.stops
    ++ half_line state.half

-- The rows of a page of so many columns.
unfoldable pub rows_of : {A : Type 0} → ℕ → ℕ → List A → List (List A)
rows_of columns zero cells = []
rows_of columns (suc rows) cells = take columns cells ∷ rows_of columns rows (drop columns cells)

-- A row of characters, as they are; a row of marks, in hexadecimal.
abbrev pub character_line : List ℕ → List ℕ
character_line row = bytes "|" ++ row ++ bytes "|\n"

abbrev pub mark_line : List ℕ → List ℕ
mark_line row = bytes ":" ++ hex_pairs row ++ line_end

abbrev pub row_lines : {A : Type 0} → (List A → List ℕ) → ℕ → ℕ → List A → List ℕ
row_lines line rows columns cells = flat_map line (rows_of columns rows cells)

unfoldable pub drawn : State → List ℕ → List ℕ → List ℕ
drawn state characters marks =
    state_lines state
    ++ row_lines character_line state.size.rows state.size.columns characters
    ++ row_lines mark_line state.size.rows state.size.columns marks

-- The numbers that could be large have five digits at most.
pub record FiveDigitsEach (state : State) : Type 0 where
  pub rows : state.size.rows < 100000
  pub columns : state.size.columns < 100000
  pub row : state.cursor.row < 100000
  pub column : state.cursor.column < 100000
