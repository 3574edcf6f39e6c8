-- Document 01, "Commands": tab stops, one mark for each of 160 columns; column 1 has the first.
use Rattle.std.specs.Prelude.{Bool, true, false, List, ℕ, zero, suc, ◌+◌, ◌-◌, get_or, set, replicate}
use Rattle.words.specs.Choice.{If◌then◌else◌}
use Rattle.state.specs.declared.State.{State}
use Rattle.state.specs.State.{with_cursor, cursor_at, with_stops}

-- HTS and CTC: set and clear a stop at the cursor's column, clear all.
unfoldable pub stop_set : State → State
stop_set s = with_stops s (set s.stops (s.cursor.column - 1) true)

unfoldable pub stop_cleared : State → State
stop_cleared s = with_stops s (set s.stops (s.cursor.column - 1) false)

unfoldable pub stops_cleared : State → State
stops_cleared s = with_stops s (replicate 160 false)

abbrev pub stop_at : List Bool → ℕ → Bool
stop_at stops column = get_or stops (column - 1) false

-- The next stop to the right of a column, else the last column; `more` is how many columns come after.
unfoldable pub stop_right : List Bool → ℕ → ℕ → ℕ
stop_right stops column zero = column
stop_right stops column (suc more) =
    let further = stop_right stops (column + 1) more in
    If stop_at stops (column + 1) then column + 1
    else further

-- The next stop to the left of a column, else column 1.
unfoldable pub stop_left : List Bool → ℕ → ℕ
stop_left stops zero = 1
stop_left stops (suc zero) = 1
stop_left stops (suc (suc before)) =
    let further = stop_left stops (suc before) in
    If stop_at stops (suc before) then suc before
    else further

-- 09, CHT and CBT: so many stops on or back.
unfoldable pub stops_on : List Bool → ℕ → ℕ → ℕ → ℕ
stops_on stops last column zero = column
stops_on stops last column (suc n) = stops_on stops last (stop_right stops column (last - column)) n

unfoldable pub stops_back : List Bool → ℕ → ℕ → ℕ
stops_back stops column zero = column
stops_back stops column (suc n) = stops_back stops (stop_left stops column) n

unfoldable pub tabbed_on : ℕ → State → State
tabbed_on n s = with_cursor s (cursor_at s.cursor.row (stops_on s.stops s.size.columns s.cursor.column n))

unfoldable pub tabbed_back : ℕ → State → State
tabbed_back n s = with_cursor s (cursor_at s.cursor.row (stops_back s.stops s.cursor.column n))
