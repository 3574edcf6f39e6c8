-- Document 01, "Commands", and document 02, M-103 and M-107: the pen, 16 bits as a cell's marks, but without modified.
use Rattle.std.specs.Prelude.{Bool, not, ℕ}
use Rattle.words.specs.Choice.{◌and◌}
use Rattle.page.specs.Marks.{with_bit, without_bits, without_bit, is_modified, valid_mark}
use Rattle.state.specs.declared.State.{State}
use Rattle.state.specs.State.{with_modes}

-- DAQ, ESC V and ESC W: of the bits 0, 7 and 8 none is set, or one in place of the others; bit 9, required, is taken
-- off.
abbrev pub pen_unprotected : ℕ → ℕ
pen_unprotected pen = without_bits 7 10 (without_bit 0 pen)

abbrev pub pen_protected : ℕ → ℕ
pen_protected pen = with_bit 0 (pen_unprotected pen)

abbrev pub pen_numeric : ℕ → ℕ
pen_numeric pen = with_bit 7 (pen_unprotected pen)

abbrev pub pen_alphabetic : ℕ → ℕ
pen_alphabetic pen = with_bit 8 (pen_unprotected pen)

-- M-107: required is added to what the pen is.
abbrev pub pen_required : ℕ → ℕ
pen_required = with_bit 9

-- SGR: 0 takes off the visual marks, bits 2 to 6, and nothing else; 1, 4, 5, 7, 8 set one each.
abbrev pub pen_plain : ℕ → ℕ
pen_plain = without_bits 2 7

abbrev pub pen_bold : ℕ → ℕ
pen_bold = with_bit 2

abbrev pub pen_underlined : ℕ → ℕ
pen_underlined = with_bit 3

abbrev pub pen_blinking : ℕ → ℕ
pen_blinking = with_bit 4

abbrev pub pen_reversed : ℕ → ℕ
pen_reversed = with_bit 5

abbrev pub pen_concealed : ℕ → ℕ
pen_concealed = with_bit 6

-- A pen in range: marks that a cell may have, without modified.
unfoldable pub valid_pen : ℕ → Bool
valid_pen pen = valid_mark pen and not (is_modified pen)

abbrev pub with_pen : State → ℕ → State
with_pen s pen = with_modes s (record { pen = pen; erasure = s.modes.erasure; full = s.modes.full })

-- SM and RM of mode 6.
abbrev pub with_erasure : State → Bool → State
with_erasure s erasure = with_modes s (record { pen = s.modes.pen; erasure = erasure; full = s.modes.full })

-- SM and RM of mode >6 (M-106): `full` tells that the Unprotected/Modified mode is reset, so that 266 sends all fields.
abbrev pub with_full : State → Bool → State
with_full s full = with_modes s (record { pen = s.modes.pen; erasure = s.modes.erasure; full = full })
