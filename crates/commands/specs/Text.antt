-- Document 01, "Reading host bytes": what text and control bytes do. ECMA-48 names stand beside them.
use Rattle.std.specs.Prelude.{true, List, [], ◌∷◌, ℕ, ◌+◌, ltb, eqb}
use Rattle.words.specs.Choice.{If◌then◌else◌, ◌is◌to◌}
use Rattle.page.specs.Page.{text_stored, scrolled_up, scrolled_down}
use Rattle.state.specs.Moves.{up_by, down_by, left_by, to_margin, to_next_cell}
use Rattle.state.specs.Tabs.{tabbed_on}
use Rattle.steps.specs.Steps.{Terminal, Stepped, with_state, goes_to, stores, cursor_cell, all_cells}

-- Text: the cursor's cell takes the character and the pen's marks, and the cursor goes on, round the page.
unfoldable pub text_step : ℕ → Terminal → Stepped
text_step character t =
    let cell = cursor_cell t.state in
    stores (cell ∷ []) true (to_next_cell t.state) (text_stored cell character t.state.modes.pen t.page)

-- Text that follows on text: how many bytes of it stand first, and what these leave, step by step.
unfoldable pub text_length : List ℕ → ℕ
text_length [] = 0
text_length (byte ∷ later) =
    let further = text_length later in
    If byte is 0x20 to 0x7E then further + 1
    else 0

unfoldable pub after_text : List ℕ → Terminal → Terminal
after_text [] t = t
after_text (byte ∷ later) t =
    let further = after_text later (text_step byte t).terminal in
    If byte is 0x20 to 0x7E then further
    else t

-- IND and 0A: down one, at the last row a scroll up. RI: up one, at the first row a scroll down. NEL: as IND, with
-- column 1.
unfoldable pub line_down : Terminal → Stepped
line_down t =
    If ltb t.state.cursor.row t.state.size.rows then goes_to (down_by 1 t.state) t
    else stores (all_cells t.page) true t.state (scrolled_up t.state.size.columns t.page)

unfoldable pub line_up : Terminal → Stepped
line_up t =
    If ltb 1 t.state.cursor.row then goes_to (up_by 1 t.state) t
    else stores (all_cells t.page) true t.state (scrolled_down t.state.size.columns t.page)

unfoldable pub next_line : Terminal → Stepped
next_line t = line_down (with_state t (to_margin t.state))

-- The control bytes that act: the last line is 0D.
unfoldable pub control_step : ℕ → Terminal → Stepped
control_step byte t =
    If eqb byte 0x08 then goes_to (left_by 1 t.state) t  -- BS
    else If eqb byte 0x09 then goes_to (tabbed_on 1 t.state) t  -- HT
    else If eqb byte 0x0A then line_down t  -- LF
    else goes_to (to_margin t.state) t  -- CR
