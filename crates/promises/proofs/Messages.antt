-- Message and byte where nothing is refused: what clears them, and that all else leaves them. On the way: which steps
-- leave what 266 sends.
use mathlib.Core.Path.{◌≡◌, refl, sym, ap, ◌∙◌, subst}
use mathlib.Core.Bool.{Bool, true, false}
use mathlib.Core.List.{List}
use Prim.Native.Nat.{ℕ}
use borrow.Author.Tests.{eqb-true}
use Rattle.words.specs.Choice.{If◌then◌else◌, ◌and◌, ◌or◌, ◌is◌to◌}
use Rattle.words.proofs.Choosing.{true_is_not_false, either_line}
use Rattle.sequence.specs.declared.HalfRead.{HalfRead}
use Rattle.sequence.specs.declared.Event.{Event}
use Rattle.sequence.specs.declared.Event.TheVariants.{Nothing, Text, Control, EscCommand, BracketCommand, PrivateCommand, Refused}
use Rattle.sequence.specs.Reading.{ends, is_cancel, after_esc, sequence_read_on, inside_sequence, advance_of}
use Rattle.sequence.proofs.Events.{Tells, event_tells}
use Rattle.state.specs.declared.Locks.{Locks}
use Rattle.state.specs.declared.State.{State}
use Rattle.state.specs.State.{refused, input_disabled, input_enabled}
use Rattle.state.specs.Moves.{up_by, down_by, right_by, left_by, to_margin, to_next_cell}
use Rattle.state.specs.Tabs.{stop_set, stop_cleared, stops_cleared, tabbed_on, tabbed_back}
use Rattle.steps.specs.Steps.{Terminal, Stepped}
use Rattle.table.specs.Moves.{to_column, to_row, to_place, move_step}
use Rattle.table.specs.PrivateForms.{private_step}
use Rattle.table.specs.Settings.{tab_control, area_set, area_qualified, rendition, set_mode}
use Rattle.sending.specs.Sending.{sends_full, send_block, ready_report, cursor_report, status_report}
use Rattle.commands.specs.Text.{text_step, line_down, line_up, next_line, control_step}
use Rattle.commands.specs.Commands.{fresh_step, esc_step, erasing, erase_part, listed_step, bracket_step}
use Rattle.commands.specs.Host.{event_step, host_step}
use Rattle.keys.proofs.Theorems.{only_268_unlocks, unlocked_step}
use Rattle.promises.specs.Rules.{our_rules}
use Rattle.promises.specs.Reasons.{Shows, Clears, esc_b, esc_c, MessageStays}
use Rattle.promises.proofs.FeedingRuns.{reading, step_is}

abbrev pub SameMode : Terminal → Stepped → Type 0
SameMode t step = sends_full step.terminal.state ≡ sends_full t.state

-- A step that leaves message and byte, or is refused; and it leaves what 266 sends.
pub data Leaves (t : Terminal) (step : Stepped) : Type 0 where
  same : step.terminal.state.locks.message ≡ t.state.locks.message → step.terminal.state.locks.byte ≡ t.state.locks.byte → SameMode t step → Leaves t step
  refuses : step.was_refused ≡ true → SameMode t step → Leaves t step

abbrev MessageLeft : Terminal → Stepped → Type 0
MessageLeft t step = step.was_refused ≡ false → Shows t.state.locks.message t.state.locks.byte step

shown : {t : Terminal} {step : Stepped} → Leaves t step → MessageLeft t step
shown (same message byte _) _ = record { message_shown = message; byte_shown = byte }
shown (refuses was _) not_so = absurd (true_is_not_false (sym was ∙ not_so))

pub mode_left : {t : Terminal} {step : Stepped} → Leaves t step → SameMode t step
mode_left (same _ _ left) = left
mode_left (refuses _ left) = left

-- The events but for ESC b, ESC c and private commands.
unfoldable pub Ordinary : Event → Type 0
Ordinary Nothing = Unit {0}
Ordinary (Text character) = Unit {0}
Ordinary (Control control) = Unit {0}
Ordinary (EscCommand command) = (command ≡ 0x63 → ⊥) × (command ≡ 0x62 → ⊥)
Ordinary (BracketCommand final) = Unit {0}
Ordinary (PrivateCommand final) = ⊥
Ordinary (Refused reason at) = Unit {0}

-- Their steps are such, line by line.
module _ (t : Terminal) where
  line : (test : Bool) (a b : Stepped) → Leaves t a → Leaves t b → Leaves t (If test then a else b)
  line test a b first rest = either_line (Leaves t) test a b (λ _. first) (λ _. rest)

  abbrev LeftIn : State → State → Type 0
  LeftIn s after = (after.locks ≡ s.locks) × (sends_full after ≡ sends_full s)

  next_cell_leaves : (s : State) → LeftIn s (to_next_cell s)
  unfolding to_next_cell
  next_cell_leaves s =
      either_line (LeftIn s) _ _ _ (λ _. (refl, refl))
      (λ _. either_line (LeftIn s) _ _ _ (λ _. (refl, refl)) (λ _. (refl, refl)))

  -- On the terminal with another half-read record.
  module _ (half : HalfRead) where
    abbrev here : Terminal
    here = reading t half

    text_leaves : (character : ℕ) → Leaves t (text_step character here)
    unfolding text_step
    text_leaves character =
        let left = next_cell_leaves here.state in
        same (ap (λ (l : Locks). l.message) left.0) (ap (λ (l : Locks). l.byte) left.0) left.1

    line_down_leaves : Leaves t (line_down here)
    unfolding line_down down_by
    line_down_leaves = line _ _ _ (same refl refl refl) (same refl refl refl)

    next_line_leaves : Leaves t (next_line here)
    unfolding next_line line_down to_margin down_by
    next_line_leaves = line _ _ _ (same refl refl refl) (same refl refl refl)

    line_up_leaves : Leaves t (line_up here)
    unfolding line_up up_by
    line_up_leaves = line _ _ _ (same refl refl refl) (same refl refl refl)

    control_leaves : (byte : ℕ) → Leaves t (control_step byte here)
    unfolding control_step left_by tabbed_on to_margin
    control_leaves byte = line _ _ _ (same refl refl refl) (line _ _ _ (same refl refl refl) (line _ _ _ line_down_leaves (same refl refl refl)))

    -- After ESC, but for c and b.
    esc_leaves : (byte : ℕ) → (byte ≡ 0x63 → ⊥) → (byte ≡ 0x62 → ⊥) → Leaves t (esc_step byte here)
    unfolding esc_step area_set stop_set send_block input_disabled refused
    esc_leaves byte not-c not-b =
        line _ _ _ line_down_leaves
        (line _ _ _ next_line_leaves
        (line _ _ _ line_up_leaves
        (line _ _ _ (same refl refl refl)
        (line _ _ _ (same refl refl refl)
        (line _ _ _ (same refl refl refl)
        (line _ _ _ (same refl refl refl)
        (either_line (Leaves t) _ _ _ (λ c. absurd (not-c (eqb-true byte 0x63 c)))
        (λ _. line _ _ _ (same refl refl refl)
        (either_line (Leaves t) _ _ _ (λ b. absurd (not-b (eqb-true byte 0x62 b))) (λ _. refuses refl refl))))))))))

    move_leaves : (final : ℕ) (arguments : List ℕ) → Leaves t (move_step final arguments here)
    unfolding refused move_step up_by down_by right_by left_by to_margin to_column to_row to_place tabbed_on tabbed_back
    move_leaves final arguments =
        line _ _ _ (same refl refl refl)
        (line _ _ _ (same refl refl refl)
        (line _ _ _ (same refl refl refl)
        (line _ _ _ (same refl refl refl)
        (line _ _ _ (same refl refl refl)
        (line _ _ _ (same refl refl refl)
        (line _ _ _ (line _ _ _ (same refl refl refl) (same refl refl refl))
        (line _ _ _ (line _ _ _ (same refl refl refl) (refuses refl refl))
        (line _ _ _ (line _ _ _ (same refl refl refl) (refuses refl refl))
        (line _ _ _ (line _ _ _ (same refl refl refl) (refuses refl refl))
        (line _ _ _ (same refl refl refl) (same refl refl refl)))))))))))

    erase_leaves : (final what first end : ℕ) → Leaves t (erase_part final what first end here)
    unfolding refused erase_part erasing
    erase_leaves final what first end = line _ _ _ (same refl refl refl) (line _ _ _ (same refl refl refl) (line _ _ _ (same refl refl refl) (refuses refl refl)))

    mode_leaves : (final : ℕ) (on : Bool) (values : List ℕ) → Leaves t (set_mode final on values here)
    unfolding refused set_mode
    mode_leaves final on values = line _ _ _ (same refl refl refl) (refuses refl refl)

    listed_leaves : (final : ℕ) (arguments : List ℕ) (count : ℕ) → Leaves t (listed_step final arguments count here)
    unfolding refused listed_step tab_control stop_set stop_cleared stops_cleared area_qualified area_set rendition status_report ready_report cursor_report
    listed_leaves final arguments count =
        line _ _ _ (move_leaves final arguments)
        (line _ _ _ (line _ _ _ (same refl refl refl) (line _ _ _ (same refl refl refl) (line _ _ _ (same refl refl refl) (refuses refl refl))))
        (line _ _ _ (erase_leaves _ _ _ _)
        (line _ _ _ (erase_leaves _ _ _ _)
        (line _ _ _ (line _ _ _ (same refl refl refl) (refuses refl refl))
        (line _ _ _ (line _ _ _ (same refl refl refl) (refuses refl refl))
        (line _ _ _ (mode_leaves _ _ _)
        (line _ _ _ (mode_leaves _ _ _)
        (line _ _ _ (same refl refl refl) (line _ _ _ (same refl refl refl) (refuses refl refl))))))))))

    pub event_leaves : (event : Event) → Ordinary event → Leaves t (event_step t.state.half event here)
    unfolding refused event_step bracket_step Ordinary
    event_leaves Nothing _ = same refl refl refl
    event_leaves (Text character) _ = text_leaves character
    event_leaves (Control control) _ = control_leaves control
    event_leaves (EscCommand command) other = esc_leaves command other.0 other.1
    event_leaves (BracketCommand final) _ =
        line _ _ _ (refuses refl refl) (line _ _ _ (refuses refl refl) (listed_leaves final t.state.half.arguments t.state.half.count))
    event_leaves (PrivateCommand final) other = absurd other
    event_leaves (Refused reason at) _ = refuses refl refl

    -- A private command leaves message and byte.
    private_shown : (final argument : ℕ) → MessageLeft t (private_step final argument here)
    unfolding private_step
    private_shown final argument =
        either_line (MessageLeft t) _ _ _ (λ _ _. record { message_shown = refl; byte_shown = refl })
        (λ _. either_line (MessageLeft t) _ _ _ (λ _ _. record { message_shown = refl; byte_shown = refl })
        (λ _ accepted. absurd (true_is_not_false accepted)))

    event_shown : (byte : ℕ) (event : Event) → Tells t.state.half byte event → (Clears t.state.half byte → ⊥) → MessageLeft t (event_step t.state.half event here)
    unfolding event_step Tells Ordinary
    event_shown byte Nothing _ _ = shown (event_leaves Nothing tt)
    event_shown byte (Text character) _ _ = shown (event_leaves (Text character) tt)
    event_shown byte (Control control) _ _ = shown (event_leaves (Control control) tt)
    event_shown byte (EscCommand command) came not-cleared =
        shown (event_leaves (EscCommand command) (
          λ c. not-cleared (subst (Clears t.state.half) (sym (came.1 ∙ c)) (esc_c came.0)),
          λ b. not-cleared (subst (Clears t.state.half) (sym (came.1 ∙ b)) (esc_b came.0)),
        ))
    event_shown byte (BracketCommand final) _ _ = shown (event_leaves (BracketCommand final) tt)
    event_shown byte (PrivateCommand final) _ _ = private_shown final _
    event_shown byte (Refused reason at) _ _ = shown (event_leaves (Refused reason at) tt)

-- b and c after ESC.
b_event : (half : HalfRead) → half.kind ≡ 1 → advance_of half 0x62 ≡ ends (EscCommand 0x62)
unfolding advance_of inside_sequence sequence_read_on is_cancel after_esc If◌then◌else◌ ◌or◌ ◌is◌to◌ ◌and◌
b_event half when_after_esc = rw when_after_esc

pub c_event : (half : HalfRead) → half.kind ≡ 1 → advance_of half 0x63 ≡ ends (EscCommand 0x63)
unfolding advance_of inside_sequence sequence_read_on is_cancel after_esc If◌then◌else◌ ◌or◌ ◌is◌to◌ ◌and◌
c_event half when_after_esc = rw when_after_esc

cleared : (t : Terminal) (byte : ℕ) → Clears t.state.half byte → Shows 0 0 (host_step byte t)
unfolding event_step esc_step fresh_step input_enabled If◌then◌else◌
cleared t _ (esc_b when_after_esc) = rw (step_is t 0x62 (b_event t.state.half when_after_esc) refl) (record { message_shown = refl; byte_shown = refl })
cleared t _ (esc_c when_after_esc) = rw (step_is t 0x63 (c_event t.state.half when_after_esc) refl) (record { message_shown = refl; byte_shown = refl })

left : (t : Terminal) (byte : ℕ) → (Clears t.state.half byte → ⊥) → (host_step byte t).was_refused ≡ false → Shows t.state.locks.message t.state.locks.byte (host_step byte t)
unfolding host_step
left t byte not-cleared = event_shown t _ byte _ (event_tells t.state.half byte) not-cleared

pub our_message_stays : MessageStays our_rules
our_message_stays = record {
  cleared_by_host = λ t valid byte clears. cleared t byte clears;
  left_by_host = λ t valid byte not-cleared accepted. left t byte not-cleared accepted;
  cleared_by_268 = λ t. rw (unlocked_step t) (record { message_shown = refl; byte_shown = refl });
  left_by_keys = λ t key other.
      let locks = only_268_unlocks key t other in
      record { message_shown = ap (λ (l : Locks). l.message) locks; byte_shown = ap (λ (l : Locks). l.byte) locks };
}
