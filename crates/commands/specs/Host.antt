-- The step of a host byte.
use Rattle.std.specs.Prelude.{◌≡◌, ℕ, ◌≤◌}
use Rattle.sequence.specs.declared.HalfRead.{HalfRead}
use Rattle.sequence.specs.declared.Event.{Event}
use Rattle.sequence.specs.declared.Event.TheVariants.{Nothing, Text, Control, EscCommand}
use Rattle.sequence.specs.declared.Event.TheVariants.{BracketCommand, PrivateCommand, Refused}
use Rattle.sequence.specs.Range.{argument_of}
use Rattle.sequence.specs.Reading.{advance_of}
use Rattle.state.specs.State.{with_half}
use Rattle.steps.specs.Steps.{Terminal, Stepped, with_state, goes_to, refusing}
use Rattle.table.specs.PrivateForms.{private_step}
use Rattle.commands.specs.Text.{text_step, control_step}
use Rattle.commands.specs.Commands.{esc_step, bracket_step}

-- What an event does; `half` is the record before the byte, which has a command's arguments.
unfoldable pub event_step : HalfRead → Event → Terminal → Stepped
event_step half Nothing t = goes_to t.state t
event_step half (Text byte) t = text_step byte t
event_step half (Control byte) t = control_step byte t
event_step half (EscCommand byte) t = esc_step byte t
event_step half (BracketCommand final) t = bracket_step final half t
event_step half (PrivateCommand final) t = private_step final (argument_of half 0) t
event_step half (Refused reason byte) t = refusing reason byte t

-- The final byte of a command of ESC [ is one that the table by final byte has.
abbrev pub FinalInTable : Event → Type 0
FinalInTable event = (final : ℕ) → event ≡ BracketCommand final → (0x40 ≤ final) × (final ≤ 0x7E)

-- The half-read record is advanced, and the event acts on the terminal that has it.
unfoldable pub host_step : ℕ → Terminal → Stepped
host_step byte t =
    let advanced = advance_of t.state.half byte in
    event_step t.state.half advanced.event (with_state t (with_half t.state advanced.half))
