-- Document 02, M-100: the state as a record of 195 bytes. docs/PANEL.md has the same layout for who writes C.
--     0  rows, 2 columns, 4 the cursor's row, 6 its column, 8 pen    two bytes each
--     10 erasure mode, 11 the Send key sends all fields (M-106)
--     12 manual lock, 13 soft lock, 14 message, 15 byte
--     16 kind of the half-read sequence, 17 its spoilt flag, 18 its count of arguments
--     19 its eight arguments                                         two bytes each
--     35 the tab stops of columns 1 to 160                           a flag each
-- Nothing is reserved: where a later request adds to the state the record is longer, and an old one is refused.
use Rattle.std.specs.Prelude.{Bool, true, false, ◌≡◌, ℕ, ◌≤◌, eqb, length, get_or}
use mathlib.Core.List.{List, [], ◌∷◌, ◌++◌, flat_map}
use Rattle.words.specs.Choice.{◌or◌, ◌is◌to◌}
use Rattle.words.specs.Lists.{exactly}
use Rattle.state.specs.declared.State.{State}
use Rattle.record.specs.Bytes.{number_bytes, number_at, flag_byte, flag_bytes, flag_at, read_each}
use Rattle.record.specs.Bytes.{AreBytes, same_bytes}

abbrev pub record_length : ℕ
record_length = 195

-- The bytes of a state.
unfoldable pub first_bytes : State → List ℕ
first_bytes s =
    number_bytes 2 s.size.rows
    ++ number_bytes 2 s.size.columns
    ++ number_bytes 2 s.cursor.row
    ++ number_bytes 2 s.cursor.column
    ++ number_bytes 2 s.modes.pen
    ++ flag_byte s.modes.erasure
    ∷ flag_byte s.modes.full
    ∷ flag_byte s.locks.manual
    ∷ flag_byte s.locks.soft
    ∷ s.locks.message
    ∷ s.locks.byte
    ∷ s.half.kind
    ∷ flag_byte s.half.spoilt
    ∷ s.half.count
    ∷ []

abbrev pub argument_bytes : List ℕ → List ℕ
argument_bytes arguments = flat_map (number_bytes 2) (exactly 8 0 arguments)

abbrev pub stop_bytes : List Bool → List ℕ
stop_bytes stops = flat_map flag_bytes (exactly 160 false stops)

unfoldable pub record_of : State → List ℕ
record_of s = first_bytes s ++ argument_bytes s.half.arguments ++ stop_bytes s.stops

-- The state that bytes say, whatever they are.
unfoldable pub state_in : List ℕ → State
state_in bytes =
    record {
      size = record { rows = number_at 2 bytes 0; columns = number_at 2 bytes 2 };
      cursor = record { row = number_at 2 bytes 4; column = number_at 2 bytes 6 };
      modes = record { pen = number_at 2 bytes 8; erasure = flag_at bytes 10; full = flag_at bytes 11 };
      locks =
          record {
            manual = flag_at bytes 12;
            soft = flag_at bytes 13;
            message = get_or bytes 14 0;
            byte = get_or bytes 15 0;
          };
      stops = read_each (flag_at bytes) 1 35 160;
      half =
          record {
            kind = get_or bytes 16 0;
            arguments = read_each (number_at 2 bytes) 2 19 8;
            count = get_or bytes 18 0;
            spoilt = flag_at bytes 17;
          };
    }

-- Content is good where the state that the bytes say has these bytes again: so flags are 0 or 1, and a state has one
-- record.
abbrev pub Good : List ℕ → Type 0
Good bytes = record_of (state_in bytes) ≡ bytes

unfoldable pub is_good : List ℕ → Bool
is_good bytes = same_bytes bytes (record_of (state_in bytes))

-- The places that hold a flag.
unfoldable pub holds_flag : ℕ → Bool
holds_flag place = place is 10 to 13 or eqb place 17 or place is 35 to 194

-- Bytes as the code has them, as many as a record has.
pub record AsLent (bytes : List ℕ) : Type 0 where
  pub as_many : length bytes ≡ record_length
  pub are_bytes : AreBytes bytes

-- Every flag is 0 or 1.
abbrev pub FlagsRight : List ℕ → Type 0
FlagsRight bytes = (place : ℕ) → holds_flag place ≡ true → get_or bytes place 0 ≤ 1
