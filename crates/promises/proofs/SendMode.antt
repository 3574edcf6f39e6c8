-- What 266 sends: who chooses it, and that all else leaves it.
use mathlib.Core.Path.{◌≡◌, refl, sym, ap, ◌∙◌, subst}
use mathlib.Core.Bool.{Bool, true, false}
use Prim.Native.Nat.{ℕ}
use borrow.Author.Tests.{eqb-true, eqb-false}
use lib.Dec.{eqb}
use Rattle.words.specs.Choice.{If◌then◌else◌, ◌and◌, ◌or◌, ◌is◌to◌}
use Rattle.words.proofs.Choosing.{either_line, either_way, both}
use Rattle.sequence.specs.declared.HalfRead.{HalfRead}
use Rattle.sequence.specs.declared.Event.{Event}
use Rattle.sequence.specs.declared.Event.TheVariants.{Nothing, Text, Control, EscCommand, BracketCommand, PrivateCommand, Refused}
use Rattle.sequence.specs.Range.{argument_of}
use Rattle.sequence.specs.Reading.{ends, is_cancel, after_private_mark, sequence_read_on, inside_sequence, advance_of}
use Rattle.sequence.proofs.Events.{Tells, event_tells}
use Rattle.state.specs.declared.Modes.{Modes}
use Rattle.state.specs.declared.State.{State}
use Rattle.state.specs.State.{refused, input_enabled}
use Rattle.steps.specs.Steps.{Terminal, Stepped}
use Rattle.table.specs.PrivateForms.{private_step}
use Rattle.table.proofs.PrivateForms.{mode_set, mode_reset}
use Rattle.sending.specs.Sending.{sends_full}
use Rattle.commands.specs.Commands.{fresh_step, esc_step}
use Rattle.commands.specs.Host.{event_step, host_step}
use Rattle.keys.proofs.Theorems.{no_key_changes_modes}
use Rattle.promises.specs.Rules.{our_rules}
use Rattle.promises.specs.Entries.{our_entries}
use Rattle.promises.specs.Further.{Chooses, set_by_h, reset_by_l, fresh_by_esc_c, SendModeStays}
use Rattle.promises.proofs.Laws.{Keeps}
use Rattle.promises.proofs.FeedingRuns.{reading, step_is}
use Rattle.promises.proofs.Messages.{SameMode, mode_left, Ordinary, event_leaves, c_event}

-- h and l after ESC [ > and an argument.
h_event : (half : HalfRead) → half.kind ≡ 5 → advance_of half 0x68 ≡ ends (PrivateCommand 0x68)
unfolding advance_of inside_sequence sequence_read_on is_cancel after_private_mark If◌then◌else◌ ◌or◌ ◌is◌to◌ ◌and◌
h_event half private = rw private

l_event : (half : HalfRead) → half.kind ≡ 5 → advance_of half 0x6C ≡ ends (PrivateCommand 0x6C)
unfolding advance_of inside_sequence sequence_read_on is_cancel after_private_mark If◌then◌else◌ ◌or◌ ◌is◌to◌ ◌and◌
l_event half private = rw private

module _ (t : Terminal) where
  abbrev after : Stepped → Bool
  after step = sends_full step.terminal.state

  chosen : (full : Bool) (byte : ℕ) → Chooses t.state.half full byte → after (host_step byte t) ≡ full
  unfolding event_step esc_step fresh_step If◌then◌else◌
  chosen _ _ (set_by_h private six) = ap after (step_is t 0x68 (h_event t.state.half private) (mode_set 0x68 _ _ six refl))
  chosen _ _ (reset_by_l private six) = ap after (step_is t 0x6C (l_event t.state.half private) (mode_reset 0x6C _ _ six refl))
  chosen _ _ (fresh_by_esc_c esc) = ap after (step_is t 0x63 (c_event t.state.half esc) refl)

  module _ (half : HalfRead) where
    abbrev here : Terminal
    here = reading t half

    -- ESC b leaves the modes.
    b_leaves : (command : ℕ) → command ≡ 0x62 → SameMode t (esc_step command here)
    unfolding esc_step input_enabled If◌then◌else◌
    b_leaves command b = ap (λ (c : ℕ). after (esc_step c here)) b

    esc_leaves : (command : ℕ) → (command ≡ 0x63 → ⊥) → SameMode t (esc_step command here)
    unfolding event_step Ordinary
    esc_leaves command not-c =
        either_way (eqb command 0x62)
        (λ b. b_leaves command (eqb-true _ _ b))
        (λ other. mode_left (event_leaves t half (EscCommand command) (not-c, eqb-false _ _ other)))

    private_leaves : (final argument : ℕ) → (argument ≡ 6 → final ≡ 0x68 → ⊥) → (argument ≡ 6 → final ≡ 0x6C → ⊥) → SameMode t (private_step final argument here)
    unfolding private_step refused
    private_leaves final argument not_set not-reset =
        either_line (SameMode t) _ _ _ (λ set. absurd (not_set (eqb-true _ _ (both set).0) (eqb-true _ _ (both set).1)))
        (λ _. either_line (SameMode t) _ _ _ (λ reset. absurd (not-reset (eqb-true _ _ (both reset).0) (eqb-true _ _ (both reset).1))) (λ _. refl))

    event_left : (byte : ℕ) (event : Event) → Tells t.state.half byte event → ((full : Bool) → Chooses t.state.half full byte → ⊥) → SameMode t (event_step t.state.half event here)
    unfolding event_step Tells Ordinary
    event_left byte Nothing _ _ = mode_left (event_leaves t half Nothing tt)
    event_left byte (Text character) _ _ = mode_left (event_leaves t half (Text character) tt)
    event_left byte (Control control) _ _ = mode_left (event_leaves t half (Control control) tt)
    event_left byte (EscCommand command) came not_chosen =
        esc_leaves command (λ c. not_chosen false (subst (Chooses t.state.half false) (sym (came.1 ∙ c)) (fresh_by_esc_c came.0)))
    event_left byte (BracketCommand final) _ _ = mode_left (event_leaves t half (BracketCommand final) tt)
    event_left byte (PrivateCommand final) came not_chosen =
        private_leaves final (argument_of t.state.half 0)
        (λ six h. not_chosen false (subst (Chooses t.state.half false) (sym (came.1 ∙ h)) (set_by_h came.0 six)))
        (λ six l. not_chosen true (subst (Chooses t.state.half true) (sym (came.1 ∙ l)) (reset_by_l came.0 six)))
    event_left byte (Refused reason at) _ _ = mode_left (event_leaves t half (Refused reason at) tt)

  left : (byte : ℕ) → ((full : Bool) → Chooses t.state.half full byte → ⊥) → SameMode t (host_step byte t)
  unfolding host_step
  left byte not_chosen = event_left _ byte _ (event_tells t.state.half byte) not_chosen

pub our_send_mode_stays : Keeps our_rules our_entries → SendModeStays our_rules our_entries
our_send_mode_stays kept = record {
  chosen_by_host = λ t valid. chosen t;
  left_by_host = λ t valid. left t;
  left_by_keys = λ t key. ap (λ (modes : Modes). modes.full) (no_key_changes_modes key t);
  fresh_by_start = λ size page done. ap (λ (s : State). sends_full s) (kept.follows.of_start size page done).state;
}
