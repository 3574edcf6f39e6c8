-- Document 01, "Commands": moves that stop at the edge.
use Rattle.std.specs.Prelude.{ℕ, ◌+◌, ◌-◌, ltb, leb}
use Rattle.words.specs.Choice.{If◌then◌else◌}
use Rattle.state.specs.declared.State.{State}
use Rattle.state.specs.State.{with_cursor, cursor_at}

-- From a row or column so many back, and so many on; the first is 1.
unfoldable pub back_by : ℕ → ℕ → ℕ
back_by at n =
    If ltb n at then at - n
    else 1

unfoldable pub on_by : ℕ → ℕ → ℕ → ℕ
on_by at n last =
    If leb n (last - at) then at + n
    else last

-- CUU, CUD, CUF, CUB.
unfoldable pub up_by : ℕ → State → State
up_by n s = with_cursor s (cursor_at (back_by s.cursor.row n) s.cursor.column)

unfoldable pub down_by : ℕ → State → State
down_by n s = with_cursor s (cursor_at (on_by s.cursor.row n s.size.rows) s.cursor.column)

unfoldable pub right_by : ℕ → State → State
right_by n s = with_cursor s (cursor_at s.cursor.row (on_by s.cursor.column n s.size.columns))

unfoldable pub left_by : ℕ → State → State
left_by n s = with_cursor s (cursor_at s.cursor.row (back_by s.cursor.column n))

-- To column 1 of the same row.
unfoldable pub to_margin : State → State
to_margin s = with_cursor s (cursor_at s.cursor.row 1)

-- Text: the next cell in page order, and from the last one 1;1.
unfoldable pub to_next_cell : State → State
to_next_cell s =
    If ltb s.cursor.column s.size.columns then with_cursor s (cursor_at s.cursor.row (s.cursor.column + 1))
    else If ltb s.cursor.row s.size.rows then with_cursor s (cursor_at (s.cursor.row + 1) 1)
    else with_cursor s (cursor_at 1 1)
