-- The state's parts by number, in the order of second/FORMATS.md, section "calls": a test reads and sets any of them.
-- 0 rows, 1 columns, 2 the cursor's row, 3 its column, 4 pen, 5 erasure mode, 6 manual lock, 7 soft lock, 8 message,
-- 9 kind of the half-read record, 10 its spoilt flag, 11 its count, 12 to 19 its arguments, 20 to 179 the tab stops,
-- 180 the byte beside the message, 181 whether the Send key sends all fields.
use Rattle.std.specs.Prelude.{Bool, false, List, [], ◌∷◌, ℕ, ◌-◌, ◌%◌, eqb, ltb, get_or, set}
use Rattle.words.specs.Choice.{If◌then◌else◌, ◌is◌to◌}
use Rattle.state.specs.declared.State.{State}

-- A flag is 0 or 1; it is set by 0, off, or by any other value, on.
unfoldable pub flag_number : Bool → ℕ
flag_number flag =
    If flag then 1
    else 0

abbrev pub is_on : ℕ → Bool
is_on value = ltb 0 value

-- The parts before the arguments and the tab stops.
unfoldable pub first_parts : State → List ℕ
first_parts s =
    s.size.rows
    ∷ s.size.columns
    ∷ s.cursor.row
    ∷ s.cursor.column
    ∷ s.modes.pen
    ∷ flag_number s.modes.erasure
    ∷ flag_number s.locks.manual
    ∷ flag_number s.locks.soft
    ∷ s.locks.message
    ∷ s.half.kind
    ∷ flag_number s.half.spoilt
    ∷ s.half.count
    ∷ []

-- A part's value; past the last part, 0.
unfoldable pub part_of : State → ℕ → ℕ
part_of s part =
    If ltb part 12 then get_or (first_parts s) part 0
    else If ltb part 20 then get_or s.half.arguments (part - 12) 0
    else If ltb part 180 then flag_number (get_or s.stops (part - 20) false)
    else If eqb part 180 then s.locks.byte
    else If eqb part 181 then flag_number s.modes.full
    else 0

-- What a part of this number becomes where a part is set: only that one changes. One that is a byte takes the value's
-- low byte.
unfoldable pub chosen : {A : Type 0} → ℕ → ℕ → A → A → A
chosen this part new old =
    If eqb part this then new
    else old

unfoldable pub arguments_with : List ℕ → ℕ → ℕ → List ℕ
arguments_with arguments part value =
    If part is 12 to 19 then set arguments (part - 12) value
    else arguments

unfoldable pub stops_with : List Bool → ℕ → ℕ → List Bool
stops_with stops part value =
    If part is 20 to 179 then set stops (part - 20) (is_on value)
    else stops

unfoldable pub with_part : State → ℕ → ℕ → State
with_part s part value =
    record {
      size = record { rows = chosen 0 part value s.size.rows; columns = chosen 1 part value s.size.columns };
      cursor = record { row = chosen 2 part value s.cursor.row; column = chosen 3 part value s.cursor.column };
      modes =
          record {
            pen = chosen 4 part value s.modes.pen;
            erasure = chosen 5 part (is_on value) s.modes.erasure;
            full = chosen 181 part (is_on value) s.modes.full;
          };
      locks =
          record {
            manual = chosen 6 part (is_on value) s.locks.manual;
            soft = chosen 7 part (is_on value) s.locks.soft;
            message = chosen 8 part (value % 256) s.locks.message;
            byte = chosen 180 part (value % 256) s.locks.byte;
          };
      stops = stops_with s.stops part value;
      half =
          record {
            kind = chosen 9 part (value % 256) s.half.kind;
            arguments = arguments_with s.half.arguments part value;
            count = chosen 11 part (value % 256) s.half.count;
            spoilt = chosen 10 part (is_on value) s.half.spoilt;
          };
    }
