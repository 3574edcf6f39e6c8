-- Document 01, "Commands": what the commands of ESC and of ESC [ do. ECMA-48 names stand beside them.
use Rattle.std.specs.Prelude.{true, false, List, ℕ, ◌+◌, ltb, eqb, length, take, replicate}
use Prim.Native.Char.{code}
use Rattle.words.specs.Choice.{If◌then◌else◌}
use Rattle.sequence.specs.declared.HalfRead.{HalfRead}
use Rattle.sequence.specs.declared.Reason.TheVariants.{UnknownCommand, WrongArguments}
use Rattle.page.specs.Page.{page_of, cells, erased, cells_erased}
use Rattle.state.specs.State.{fresh_state, input_disabled, input_enabled}
use Rattle.state.specs.Tabs.{stop_set}
use Rattle.steps.specs.Steps.{Terminal, Stepped, goes_to, stores, refusing, cursor_cell, row_start, all_cells}
use Rattle.table.specs.Table.{allowed, value_of}
use Rattle.table.specs.Moves.{is_move, move_step}
use Rattle.table.specs.Settings.{tab_control, area_set, area_qualified, rendition, set_mode}
use Rattle.sending.specs.Sending.{send_block, status_report}
use Rattle.commands.specs.Text.{line_down, next_line, line_up}

-- RIS: as fresh; the size stays.
unfoldable pub fresh_step : Terminal → Stepped
fresh_step t =
    stores (all_cells t.page) true (fresh_state t.state.size)
    (page_of (replicate (length t.page.characters) 0x20) (replicate (length t.page.marks) 0))

-- After ESC: D E M H V W S c ` b.
unfoldable pub esc_step : ℕ → Terminal → Stepped
esc_step byte t =
    If eqb byte (code "D") then line_down t  -- IND (fourth edition)
    else If eqb byte (code "E") then next_line t  -- NEL
    else If eqb byte (code "M") then line_up t  -- RI
    else If eqb byte (code "H") then goes_to (stop_set t.state) t  -- HTS
    else If eqb byte (code "V") then area_set 1 t  -- SPA
    else If eqb byte (code "W") then area_set 0 t  -- EPA
    else If eqb byte (code "S") then send_block true t  -- STS
    else If eqb byte (code "c") then fresh_step t  -- RIS
    else If eqb byte (code "`") then goes_to (input_disabled t.state) t  -- DMI
    else If eqb byte (code "b") then goes_to (input_enabled t.state) t  -- EMI
    else refusing UnknownCommand byte t

-- Erasing leaves the cursor; with erasure mode set it may unprotect cells.
unfoldable pub erasing : ℕ → ℕ → Terminal → Stepped
erasing from end t =
    let erasure = t.state.modes.erasure in
    stores (cells_erased erasure from end t.page) erasure t.state (erased erasure from end t.page)

-- ED and EL, in a range of cells: what comes after the cursor, what comes before it, each with its cell, or everything;
-- else refused at the final byte.
unfoldable pub erase_part : ℕ → ℕ → ℕ → ℕ → Terminal → Stepped
erase_part final what first end t =
    If eqb what 0 then erasing (cursor_cell t.state) end t
    else If eqb what 1 then erasing first (cursor_cell t.state + 1) t
    else If eqb what 2 then erasing first end t
    else refusing WrongArguments final t

-- After ESC [, by final byte. Only one that is listed, with no more arguments than allowed, comes here
-- (`bracket_step`), so the last line is n.
unfoldable pub listed_step : ℕ → List ℕ → ℕ → Terminal → Stepped
listed_step final arguments count t =
    let first = value_of final arguments 0 in
    If is_move final then move_step final arguments t
    else If eqb final (code "W") then tab_control final first t  -- CTC
    else If eqb final (code "J") then erase_part final first 0 (cells t.page) t  -- ED
    else If eqb final (code "K") then
    erase_part final first (row_start t.state) (row_start t.state + t.state.size.columns) t  -- EL
    else If eqb final (code "o") then area_qualified final first t  -- DAQ
    else If eqb final (code "m") then rendition final (take count arguments) t  -- SGR
    else If eqb final (code "h") then set_mode final true (take count arguments) t  -- SM
    else If eqb final (code "l") then set_mode final false (take count arguments) t  -- RM
    else status_report final first t  -- n: DSR

-- The table is consulted before anything else: a command that isn't listed is unknown, and one with more arguments than
-- it may have is refused for its arguments.
unfoldable pub bracket_step : ℕ → HalfRead → Terminal → Stepped
bracket_step final half t =
    If eqb (allowed final).most 0 then refusing UnknownCommand final t
    else If ltb (allowed final).most half.count then refusing WrongArguments final t
    else listed_step final half.arguments half.count t
