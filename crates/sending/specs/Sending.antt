-- Document 01, "Commands" and "Fields, keys and blocks": what sends, reports and blocks.
use Rattle.std.specs.Prelude.{Bool, List, [], ◌∷◌, ℕ, eqb}
use Prim.Native.Char.{code}
use Rattle.words.specs.Choice.{If◌then◌else◌}
use Rattle.page.specs.Page.{page_of, modified_cleared}
use Rattle.output.specs.Decimal.{place_bytes}
use Rattle.sequence.specs.declared.Reason.TheVariants.{WrongArguments}
use Rattle.state.specs.declared.State.{State}
use Rattle.steps.specs.Steps.{Terminal, report, block_transmission, Stepped, sends, refusing}
use Rattle.steps.specs.Seen.{block_here}

-- DSR: 5 gives ESC [ 0 n, 6 gives CPR, ESC [ row ; column R; else it is refused at its final byte.
abbrev pub ready_bytes : List ℕ
ready_bytes = 0x1B ∷ code "[" ∷ code "0" ∷ code "n" ∷ []

unfoldable pub ready_report : Terminal → Stepped
ready_report t = sends (report ready_bytes) t.state t.page

unfoldable pub cursor_report : Terminal → Stepped
cursor_report t =
    sends (report (place_bytes t.state.cursor.row t.state.cursor.column (code "R"))) t.state t.page

unfoldable pub status_report : ℕ → ℕ → Terminal → Stepped
status_report final what t =
    If eqb what 5 then ready_report t
    else If eqb what 6 then cursor_report t
    else refusing WrongArguments final t

-- M-106: 266 sends a full block where the Unprotected/Modified mode is reset, else a changed one.
abbrev pub sends_full : State → Bool
sends_full s = s.modes.full

-- A block is sent, full or changed; sending clears modified. ESC S sends a full one.
unfoldable pub send_block : Bool → Terminal → Stepped
send_block full t =
    sends (block_transmission full (block_here full t)) t.state
    (page_of t.page.characters (modified_cleared t.page.marks))
