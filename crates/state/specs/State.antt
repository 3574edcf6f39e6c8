-- Document 01, "The terminal and its sources":
-- the state that travels by value, and the parts of it that commands and keys replace.
use Rattle.std.specs.Prelude.{Bool, true, false, List, ◌≡◌, ℕ, ◌≤◌, length, replicate}
use Rattle.sequence.specs.declared.HalfRead.{HalfRead}
use Rattle.sequence.specs.declared.Reason.{Reason}
use Rattle.sequence.specs.declared.Reason.TheVariants.{UnknownCommand, WrongArguments, BrokenSequence, HighByte}
use Rattle.sequence.specs.Record.{nothing_read}
use Rattle.state.specs.declared.Size.{Size}
use Rattle.state.specs.declared.Cursor.{Cursor}
use Rattle.state.specs.declared.Modes.{Modes}
use Rattle.state.specs.declared.Locks.{Locks}
use Rattle.state.specs.declared.State.{State}

abbrev pub cursor_at : ℕ → ℕ → Cursor
cursor_at row column = record { row = row; column = column }

-- The state with one part of it replaced.
abbrev pub with_cursor : State → Cursor → State
with_cursor s cursor =
    record { size = s.size; cursor = cursor; modes = s.modes; locks = s.locks; stops = s.stops; half = s.half }

abbrev pub with_modes : State → Modes → State
with_modes s modes =
    record { size = s.size; cursor = s.cursor; modes = modes; locks = s.locks; stops = s.stops; half = s.half }

abbrev pub with_locks : State → Locks → State
with_locks s locks =
    record { size = s.size; cursor = s.cursor; modes = s.modes; locks = locks; stops = s.stops; half = s.half }

abbrev pub with_stops : State → List Bool → State
with_stops s stops =
    record { size = s.size; cursor = s.cursor; modes = s.modes; locks = s.locks; stops = stops; half = s.half }

abbrev pub with_half : State → HalfRead → State
with_half s half =
    record { size = s.size; cursor = s.cursor; modes = s.modes; locks = s.locks; stops = s.stops; half = half }

-- The arrays of every state of the code: 160 tab stops and 8 arguments. (The definitions' lists may be of any length.)
pub record Arrays (s : State) : Type 0 where
  pub stops : length s.stops ≡ 160
  pub arguments : length s.half.arguments ≡ 8

-- No lock, no message, and so no byte.
abbrev pub no_locks : Locks
no_locks = record { manual = false; soft = false; message = 0; byte = 0 }

-- A plain pen, erasure mode reset, and the Send key sends what changed (M-106).
abbrev pub fresh_modes : Modes
fresh_modes = record { pen = 0; erasure = false; full = false }

-- A fresh page's state: cursor 1;1, fresh pen and modes, no lock or message, no tab stops, nothing half read.
abbrev pub fresh_state : Size → State
fresh_state size =
    record {
      size = size;
      cursor = record { row = 1; column = 1 };
      modes = fresh_modes;
      locks = no_locks;
      stops = replicate 160 false;
      half = nothing_read;
    }

-- "Numbers a call gives back": the state of a refused start, all zeros.
abbrev pub zero_state : State
zero_state =
    record {
      size = record { rows = 0; columns = 0 };
      cursor = record { row = 0; column = 0 };
      modes = fresh_modes;
      locks = no_locks;
      stops = replicate 160 false;
      half = nothing_read;
    }

-- Document 02, M-102: 1 unknown command; 2 an argument not allowed, or too many; 3 a sequence spoilt, or broken off;
-- 4 a byte of 80 or above.
unfoldable pub message_of : Reason → ℕ
message_of UnknownCommand = 1
message_of WrongArguments = 2
message_of BrokenSequence = 3
message_of HighByte = 4

-- "Reading host bytes", a refused command: the soft lock, and by M-102 the reason's message and the byte at which it
-- was refused, in place of those of a command refused before; and nothing else.
unfoldable pub refused : Reason → ℕ → State → State
refused reason byte s =
    with_locks s (record { manual = s.locks.manual; soft = true; message = message_of reason; byte = byte })

-- "Commands", ESC ` and ESC b; "keys", 268.
unfoldable pub input_disabled : State → State
input_disabled s =
    let locks = s.locks in
    with_locks s (record { manual = true; soft = locks.soft; message = locks.message; byte = locks.byte })

unfoldable pub input_enabled : State → State
input_enabled s = with_locks s no_locks

unfoldable pub unlocked : State → State
unlocked s = with_locks s (record { manual = s.locks.manual; soft = false; message = 0; byte = 0 })

-- The cursor is on a page of no more than 48 x 160 cells.
pub record OnPage (s : State) : Type 0 where
  pub row_least : 1 ≤ s.cursor.row
  pub row_most : s.cursor.row ≤ s.size.rows
  pub rows_most : s.size.rows ≤ 48
  pub column_least : 1 ≤ s.cursor.column
  pub column_most : s.cursor.column ≤ s.size.columns
  pub columns_most : s.size.columns ≤ 160
