-- Document 01, "Numbers a call gives back", lines 1 and 2:
-- what a call asks of the state and the lent page before anything else.
use Rattle.std.specs.Prelude.{Bool, not, List, ℕ, ◌*◌, leb, eqb, length, drop}
use Rattle.words.specs.Choice.{If◌then◌else◌, ◌and◌, ◌or◌, ◌is◌to◌}
use Rattle.words.specs.Lists.{every}
use Rattle.page.specs.Page.{Page, cells}
use Rattle.sequence.specs.Record.{valid_half_read}
use Rattle.state.specs.declared.Size.{Size}
use Rattle.state.specs.declared.Cursor.{Cursor}
use Rattle.state.specs.declared.Locks.{Locks}
use Rattle.state.specs.declared.State.{State}
use Rattle.state.specs.Pen.{valid_pen}

-- The rows and columns that a page may have; any with any.
unfoldable pub listed_rows : ℕ → Bool
listed_rows rows = eqb rows 24 or eqb rows 27 or eqb rows 48

unfoldable pub listed_columns : ℕ → Bool
listed_columns columns = eqb columns 80 or eqb columns 132 or eqb columns 160

unfoldable pub listed_size : Size → Bool
listed_size size = listed_rows size.rows and listed_columns size.columns

-- True where line 1 is not given: the size is listed, and both lent slices are R x C long.
unfoldable pub size_fits : Size → Page → Bool
size_fits size page =
    listed_size size
    and eqb (cells page) (size.rows * size.columns)
    and eqb (length page.marks) (size.rows * size.columns)

-- The cursor is on the page.
unfoldable pub cursor_fits : Size → Cursor → Bool
cursor_fits size cursor = cursor.row is 1 to size.rows and cursor.column is 1 to size.columns

-- No tab stop is past C.
unfoldable pub stops_fit : ℕ → List Bool → Bool
stops_fit columns stops = every not (drop columns stops)

-- M-102: the message is 0 to 4, and where there is none there is no byte.
unfoldable pub valid_message : Locks → Bool
valid_message locks =
    If eqb locks.message 0 then eqb locks.byte 0
    else leb locks.message 4

-- The state's own part of line 2 is not given.
unfoldable pub valid_state : State → Bool
valid_state s =
    cursor_fits s.size s.cursor
    and stops_fit s.size.columns s.stops
    and valid_pen s.modes.pen
    and valid_message s.locks
    and valid_half_read s.half
