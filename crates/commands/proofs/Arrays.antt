-- Every host byte keeps the arrays' lengths, whatever the terminal. The proofs follow the definitions line by line.
use mathlib.Core.Path.{◌≡◌, refl, ap, ◌∙◌}
use mathlib.Core.Bool.{Bool}
use mathlib.Core.List.{List}
use Prim.Native.Nat.{ℕ}
use lib.ListN.{length}
use Rattle.words.specs.Choice.{If◌then◌else◌}
use Rattle.words.proofs.Choosing.{either_line}
use Rattle.sequence.specs.declared.HalfRead.{HalfRead}
use Rattle.sequence.specs.declared.Event.{Event}
use Rattle.sequence.specs.declared.Event.TheVariants.{Nothing, Text, Control, EscCommand, BracketCommand, PrivateCommand, Refused}
use Rattle.sequence.proofs.Lengths.{advance_keeps_eight}
use Rattle.state.specs.declared.State.{State}
use Rattle.state.specs.State.{Arrays, refused, input_disabled, input_enabled}
use Rattle.state.specs.Moves.{up_by, down_by, right_by, left_by, to_margin, to_next_cell}
use Rattle.state.specs.Tabs.{tabbed_on, tabbed_back}
use Rattle.state.proofs.Arrays.{fresh_arrays, half_keeps_arrays, stop_set_keeps_arrays, stop_cleared_keeps_arrays, stops_cleared_keep_arrays}
use Rattle.steps.specs.Steps.{Terminal, Stepped}
use Rattle.table.specs.Moves.{to_column, to_row, to_place, move_step}
use Rattle.table.specs.PrivateForms.{private_step}
use Rattle.table.specs.Settings.{tab_control, area_set, area_qualified, rendition, set_mode}
use Rattle.sending.specs.Sending.{send_block, ready_report, cursor_report, status_report}
use Rattle.commands.specs.Text.{text_step, line_down, line_up, next_line, control_step}
use Rattle.commands.specs.Commands.{fresh_step, esc_step, erasing, erase_part, listed_step, bracket_step}
use Rattle.commands.specs.Host.{event_step, host_step}

abbrev Keeps : Stepped → Type 0
Keeps step = Arrays step.terminal.state

line : (test : Bool) (a b : Stepped) → Keeps a → Keeps b → Keeps (If test then a else b)
line test a b first rest = either_line Keeps test a b (λ _. first) (λ _. rest)

module _ (t : Terminal) (has : Arrays t.state) where
  -- A state with the same arrays has their lengths.
  same : {s : State} → s.stops ≡ t.state.stops → s.half ≡ t.state.half → Arrays s
  same stops half = record { stops = ap length stops ∙ has.stops; arguments = ap (λ (h : HalfRead). length h.arguments) half ∙ has.arguments }

  text_keeps : (character : ℕ) → Keeps (text_step character t)
  unfolding text_step to_next_cell
  text_keeps character = either_line Arrays _ _ _ (λ _. same refl refl) (λ _. either_line Arrays _ _ _ (λ _. same refl refl) (λ _. same refl refl))

  line_down_keeps : Keeps (line_down t)
  unfolding line_down down_by
  line_down_keeps = line _ _ _ (same refl refl) has

  next_line_keeps : Keeps (next_line t)
  unfolding next_line line_down to_margin down_by
  next_line_keeps = line _ _ _ (same refl refl) (same refl refl)

  line_up_keeps : Keeps (line_up t)
  unfolding line_up up_by
  line_up_keeps = line _ _ _ (same refl refl) has

  control_keeps : (byte : ℕ) → Keeps (control_step byte t)
  unfolding control_step left_by tabbed_on to_margin
  control_keeps byte = line _ _ _ (same refl refl) (line _ _ _ (same refl refl) (line _ _ _ line_down_keeps (same refl refl)))

  esc_keeps : (byte : ℕ) → Keeps (esc_step byte t)
  unfolding esc_step area_set send_block fresh_step input_disabled input_enabled refused
  esc_keeps byte =
      line _ _ _ line_down_keeps
      (line _ _ _ next_line_keeps
      (line _ _ _ line_up_keeps
      (line _ _ _ (stop_set_keeps_arrays t.state has)
      (line _ _ _ (same refl refl)
      (line _ _ _ (same refl refl)
      (line _ _ _ has
      (line _ _ _ (fresh_arrays t.state.size)
      (line _ _ _ (same refl refl)
      (line _ _ _ (same refl refl) (same refl refl))))))))))

  move_keeps : (final : ℕ) (arguments : List ℕ) → Keeps (move_step final arguments t)
  unfolding move_step up_by down_by right_by left_by to_margin to_column to_row to_place tabbed_on tabbed_back refused
  move_keeps final arguments =
      line _ _ _ (same refl refl)
      (line _ _ _ (same refl refl)
      (line _ _ _ (same refl refl)
      (line _ _ _ (same refl refl)
      (line _ _ _ (same refl refl)
      (line _ _ _ (same refl refl)
      (line _ _ _ (line _ _ _ (same refl refl) has)
      (line _ _ _ (line _ _ _ (same refl refl) (same refl refl))
      (line _ _ _ (line _ _ _ (same refl refl) (same refl refl))
      (line _ _ _ (line _ _ _ (same refl refl) (same refl refl))
      (line _ _ _ (same refl refl) (same refl refl)))))))))))

  tab_control_keeps : (final what : ℕ) → Keeps (tab_control final what t)
  unfolding tab_control refused
  tab_control_keeps final what =
      line _ _ _ (stop_set_keeps_arrays t.state has)
      (line _ _ _ (stop_cleared_keeps_arrays t.state has)
      (line _ _ _ (stops_cleared_keep_arrays t.state has) (same refl refl)))

  erase_keeps : (final what first end : ℕ) → Keeps (erase_part final what first end t)
  unfolding erase_part erasing refused
  erase_keeps final what first end = line _ _ _ has (line _ _ _ has (line _ _ _ has (same refl refl)))

  mode_keeps : (final : ℕ) (on : Bool) (values : List ℕ) → Keeps (set_mode final on values t)
  unfolding set_mode refused
  mode_keeps final on values = line _ _ _ (same refl refl) (same refl refl)

  listed_keeps : (final : ℕ) (arguments : List ℕ) (count : ℕ) → Keeps (listed_step final arguments count t)
  unfolding listed_step area_qualified area_set rendition status_report ready_report cursor_report refused
  listed_keeps final arguments count =
      line _ _ _ (move_keeps final arguments)
      (line _ _ _ (tab_control_keeps _ _)
      (line _ _ _ (erase_keeps _ _ _ _)
      (line _ _ _ (erase_keeps _ _ _ _)
      (line _ _ _ (line _ _ _ (same refl refl) (same refl refl))
      (line _ _ _ (line _ _ _ (same refl refl) (same refl refl))
      (line _ _ _ (mode_keeps _ _ _)
      (line _ _ _ (mode_keeps _ _ _)
      (line _ _ _ has (line _ _ _ has (same refl refl))))))))))

  event_keeps : (half : HalfRead) (event : Event) → Keeps (event_step half event t)
  unfolding event_step bracket_step private_step refused
  event_keeps half Nothing = has
  event_keeps half (Text character) = text_keeps character
  event_keeps half (Control control) = control_keeps control
  event_keeps half (EscCommand command) = esc_keeps command
  event_keeps half (BracketCommand final) =
      line _ _ _ (same refl refl) (line _ _ _ (same refl refl) (listed_keeps final half.arguments half.count))
  event_keeps half (PrivateCommand final) = line _ _ _ (same refl refl) (line _ _ _ (same refl refl) (same refl refl))
  event_keeps half (Refused reason at) = same refl refl

pub host_keeps_arrays : (byte : ℕ) (t : Terminal) → Arrays t.state → Arrays (host_step byte t).terminal.state
unfolding host_step
host_keeps_arrays byte t has =
    event_keeps _ (half_keeps_arrays t.state has _ (advance_keeps_eight t.state.half byte has.arguments)) t.state.half _
