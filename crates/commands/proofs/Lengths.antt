-- No transmission of a host byte exceeds the longest block: 35,138 bytes.
use mathlib.Core.Path.{◌≡◌, ap}
use mathlib.Core.Bool.{Bool, true}
use mathlib.Core.List.{List, []}
use Prim.Native.Nat.{ℕ, ◌≤◌}
use native.Mathlib.Omega.{arith}
use borrow.Author.Tests.{eqb-true}
use lib.Dec.{eqb}
use lib.ListN.{length}
use Rattle.words.specs.Choice.{If◌then◌else◌}
use Rattle.words.proofs.Choosing.{either_line, either_way}
use Rattle.sequence.specs.declared.HalfRead.{HalfRead}
use Rattle.sequence.specs.declared.Event.{Event}
use Rattle.sequence.specs.declared.Event.TheVariants.{Nothing, Text, Control, EscCommand, BracketCommand, PrivateCommand, Refused}
use Rattle.sequence.specs.Reading.{advance_of}
use Rattle.output.proofs.Digits.{three_at_most, place_long}
use Rattle.blocks.proofs.Theorems.{longest_block}
use Rattle.state.specs.State.{with_half}
use Rattle.state.specs.Tests.{size_fits}
use Rattle.state.proofs.Keeping.{size_bounds}
use Rattle.steps.specs.Steps.{Terminal, Stepped, bytes_of, block_transmission, with_state}
use Rattle.steps.specs.Seen.{block_here}
use Rattle.commands.specs.Commands.{esc_step, listed_step, bracket_step}
use Rattle.sending.specs.Sending.{send_block, ready_report, cursor_report, status_report}
use Rattle.commands.specs.Host.{event_step, host_step}
use Rattle.steps.proofs.Soundness.{sized}
use Rattle.commands.proofs.Silent.{text_silent, control_silent, esc_silent, move_silent, tab_silent, erase_silent, area_silent, rendition_silent, mode_silent, private_silent}

-- A transmission of no more bytes than the longest block has.
abbrev Short : Stepped → Type 0
Short step = length (bytes_of step.transmission) ≤ 35138

quiet : {bytes : List ℕ} → bytes ≡ [] → length bytes ≤ 35138
quiet none = omega (arith, ap (length {A = ℕ}) none)

pub block_short : (t : Terminal) → size_fits t.state.size t.page ≡ true → (full : Bool) → length (block_here full t) ≤ 35138
block_short t fits full =
    let size = sized t.state.size t.page fits in
    let bounds = size_bounds t.state.size size.listed in
    longest_block full t.state.size.rows t.state.size.columns t.page bounds.rows_most bounds.columns_most size.characters

full_short : (t : Terminal) → size_fits t.state.size t.page ≡ true → Short (send_block true t)
unfolding send_block block_transmission bytes_of
full_short t fits = block_short t fits true

esc_short : (byte : ℕ) (t : Terminal) → size_fits t.state.size t.page ≡ true → Short (esc_step byte t)
unfolding esc_step If◌then◌else◌
esc_short byte t fits =
    either_way (eqb byte 0x53)
    (λ is. rw (eqb-true byte 0x53 is) (full_short t fits))
    (λ other. quiet (esc_silent byte t other))

status_short : (final what : ℕ) (t : Terminal) → Short (status_report final what t)
unfolding status_report ready_report cursor_report bytes_of
status_short final what t =
    either_line Short _ _ _ (λ _. omega arith)
    (λ _. either_line Short _ _ _
    (λ _. omega (arith, place_long t.state.cursor.row t.state.cursor.column 0x52, three_at_most t.state.cursor.row, three_at_most t.state.cursor.column))
    (λ _. omega arith))

listed_short : (final : ℕ) (arguments : List ℕ) (count : ℕ) (t : Terminal) → Short (listed_step final arguments count t)
unfolding listed_step
listed_short final arguments count t =
    either_line Short _ _ _ (λ _. quiet (move_silent final arguments t))
    (λ _. either_line Short _ _ _ (λ _. quiet (tab_silent _ _ t))
    (λ _. either_line Short _ _ _ (λ _. quiet (erase_silent _ _ _ _ t))
    (λ _. either_line Short _ _ _ (λ _. quiet (erase_silent _ _ _ _ t))
    (λ _. either_line Short _ _ _ (λ _. quiet (area_silent _ _ t))
    (λ _. either_line Short _ _ _ (λ _. quiet (rendition_silent _ _ t))
    (λ _. either_line Short _ _ _ (λ _. quiet (mode_silent _ _ _ t))
    (λ _. either_line Short _ _ _ (λ _. quiet (mode_silent _ _ _ t))
    (λ _. status_short _ _ t))))))))

event_short : (half : HalfRead) (event : Event) (t : Terminal) → size_fits t.state.size t.page ≡ true → Short (event_step half event t)
unfolding event_step bracket_step bytes_of
event_short half Nothing t fits = omega arith
event_short half (Text byte) t fits = quiet (text_silent byte t)
event_short half (Control byte) t fits = quiet (control_silent byte t)
event_short half (EscCommand byte) t fits = esc_short byte t fits
event_short half (BracketCommand final) t fits = either_line Short _ _ _ (λ _. omega arith)
    (λ _. either_line Short _ _ _ (λ _. omega arith) (λ _. listed_short final half.arguments half.count t))
event_short half (PrivateCommand final) t fits = quiet (private_silent final _ t)
event_short half (Refused reason byte) t fits = omega arith

pub step_short : (byte : ℕ) (t : Terminal) → size_fits t.state.size t.page ≡ true → Short (host_step byte t)
unfolding host_step
step_short byte t fits =
    event_short t.state.half (advance_of t.state.half byte).event (with_state t (with_half t.state (advance_of t.state.half byte).half)) fits
