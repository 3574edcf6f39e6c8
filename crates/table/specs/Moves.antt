-- Document 01, "Commands": the commands of the table that only move the cursor. `final` is the final byte, which is
-- named where the command is refused.
use Rattle.std.specs.Prelude.{Bool, List, ℕ, ltb, leb, eqb, get_or}
use Prim.Native.Char.{code}
use Rattle.words.specs.Choice.{If◌then◌else◌, ◌and◌, ◌or◌, ◌is◌to◌}
use Rattle.state.specs.State.{with_cursor, cursor_at}
use Rattle.state.specs.Moves.{up_by, down_by, right_by, left_by, to_margin}
use Rattle.state.specs.Tabs.{tabbed_on, tabbed_back}
use Rattle.sequence.specs.declared.Reason.TheVariants.{WrongArguments}
use Rattle.steps.specs.Steps.{Terminal, Stepped, goes_to, refusing}
use Rattle.table.specs.Table.{value_of}

-- CHA (source 001, lines 2258 to 2260): past C it is ignored. VPA (lines 2262 to 2268): past R it is refused.
unfoldable pub to_column : ℕ → Terminal → Stepped
to_column column t =
    If leb column t.state.size.columns then
    goes_to (with_cursor t.state (cursor_at t.state.cursor.row column)) t
    else goes_to t.state t

unfoldable pub to_row : ℕ → ℕ → Terminal → Stepped
to_row final row t =
    If leb row t.state.size.rows then
    goes_to (with_cursor t.state (cursor_at row t.state.cursor.column)) t
    else refusing WrongArguments final t

-- CUP, and HVP (lines 2270 to 2278): past the page refused.
unfoldable pub to_place : ℕ → ℕ → ℕ → Terminal → Stepped
to_place final row column t =
    If leb row t.state.size.rows and leb column t.state.size.columns then
    goes_to (with_cursor t.state (cursor_at row column)) t
    else refusing WrongArguments final t

-- HVP's column. `row` and `given` are the arguments as read, `column` is `given` with 0 as 1, `present` the cursor's:
-- an omitted column keeps it, if a row is given.
unfoldable pub kept_column : ℕ → ℕ → ℕ → ℕ → ℕ
kept_column row given column present =
    If eqb given 0 and ltb 0 row then present
    else column

-- Their finals: A to I, Z, d and f.
unfoldable pub is_move : ℕ → Bool
is_move final = final is code "A" to code "I" or eqb final (code "Z") or eqb final (code "d") or eqb final (code "f")

-- Those of them that look at no tab stop.
unfoldable pub is_plain_move : ℕ → Bool
is_plain_move final = final is code "A" to code "H" or eqb final (code "d") or eqb final (code "f")

-- After ESC [, the moves by final byte: the last line is Z.
unfoldable pub move_step : ℕ → List ℕ → Terminal → Stepped
move_step final arguments t =
    let first = value_of final arguments 0 in
    let second = value_of final arguments 1 in
    If eqb final (code "A") then goes_to (up_by first t.state) t  -- CUU
    else If eqb final (code "B") then goes_to (down_by first t.state) t  -- CUD
    else If eqb final (code "C") then goes_to (right_by first t.state) t  -- CUF
    else If eqb final (code "D") then goes_to (left_by first t.state) t  -- CUB
    else If eqb final (code "E") then goes_to (to_margin (down_by first t.state)) t  -- CNL
    else If eqb final (code "F") then goes_to (to_margin (up_by first t.state)) t  -- CPL
    else If eqb final (code "G") then to_column first t  -- CHA
    else If eqb final (code "d") then to_row final first t  -- VPA
    else If eqb final (code "H") then to_place final first second t  -- CUP
    else If eqb final (code "f") then
    to_place final first  -- HVP
    (kept_column (get_or arguments 0 0) (get_or arguments 1 0) second t.state.cursor.column) t
    else If eqb final (code "I") then goes_to (tabbed_on first t.state) t  -- CHT
    else goes_to (tabbed_back first t.state) t  -- Z: CBT
