-- Blocks are sent where they are asked for, and nowhere else.
use mathlib.Core.Path.{◌≡◌, refl, sym, ap, ◌∙◌, subst}
use mathlib.Core.Bool.{Bool, true, false}
use mathlib.Core.List.{List}
use Prim.Native.Nat.{ℕ}
use Rattle.words.specs.Choice.{If◌then◌else◌, ◌and◌, ◌or◌, ◌is◌to◌}
use Rattle.words.proofs.Choosing.{refuted}
use Rattle.sequence.specs.declared.HalfRead.{HalfRead}
use Rattle.sequence.specs.declared.Event.TheVariants.{EscCommand}
use Rattle.sequence.specs.Reading.{ends, is_cancel, after_esc, sequence_read_on, inside_sequence, advance_of}
use Rattle.steps.specs.Steps.{Terminal, Stepped, block_transmission, Valid}
use Rattle.steps.specs.Seen.{block_here}
use Rattle.sending.specs.Sending.{send_block}
use Rattle.commands.specs.Commands.{esc_step}
use Rattle.commands.specs.Host.{event_step}
use Rattle.fields.specs.Fields.{Field}
use Rattle.keys.specs.Keys.{is_typing, is_not_taken, is_held_back, taken_step}
use Rattle.keys.proofs.Silent.{taken_step_lem}
use Rattle.commands.proofs.Theorems.{step_sends_full, step_sends_no_changed}
use Rattle.keys.proofs.Theorems.{key_sends_full, key_sends_changed}
use Rattle.terminal.specs.Lines.{LeftBlank, Line9, required_blank}
use Rattle.terminal.proofs.Lines.{line_9, none_left_blank}
use Rattle.promises.specs.Rules.{our_rules, Input, byte, press, step_of}
use Rattle.promises.specs.Further.{Asks, by_266, full_by_esc_s, SendsBlocks}
use Rattle.promises.proofs.FeedingRuns.{step_is}

-- S after ESC.
s_event : (half : HalfRead) → half.kind ≡ 1 → advance_of half 0x53 ≡ ends (EscCommand 0x53)
unfolding advance_of inside_sequence sequence_read_on is_cancel after_esc If◌then◌else◌ ◌or◌ ◌is◌to◌ ◌and◌
s_event half when_after_esc = rw when_after_esc

module _ (t : Terminal) where
  -- 266 is held back by line 9 alone.
  send_not_held_back : ((field : Field) → LeftBlank t field → ⊥) → is_held_back 266 t ≡ false
  send_not_held_back none_blank = refuted _ (λ held. blank_field ((line_9 266 t).0 held))
    where
      blank_field : Line9 266 t → ⊥
      blank_field (required_blank _ field blank) = none_blank field blank

  pub block_asked : (full : Bool) (input : Input) → Asks t full input → (step_of our_rules input t).transmission ≡ block_transmission full (block_here full t)
  unfolding step_of is_not_taken taken_step is_typing event_step esc_step send_block If◌then◌else◌ ◌is◌to◌ ◌and◌
  block_asked full _ (by_266 _ mode none_blank) =
      ap (λ (s : Stepped). s.transmission) (taken_step_lem 266 t refl (send_not_held_back none_blank))
      ∙ ap (λ (f : Bool). block_transmission f (block_here f t)) mode
  block_asked _ _ (full_by_esc_s when_after_esc) = ap (λ (s : Stepped). s.transmission) (step_is t 0x53 (s_event t.state.half when_after_esc) refl)

  block_sent : Valid t → (full : Bool) (input : Input) (bytes : List ℕ) → (step_of our_rules input t).transmission ≡ block_transmission full bytes → Asks t full input × (bytes ≡ block_here full t)
  unfolding step_of block_transmission
  block_sent valid true (byte b) bytes sends =
      let sent = step_sends_full b t valid bytes sends in
      (subst (λ (b : ℕ). Asks t true (byte b)) (sym sent.asked.1) (full_by_esc_s sent.asked.0), sent.of_page)
  block_sent valid false (byte b) bytes sends = absurd (step_sends_no_changed b t valid bytes sends)
  block_sent valid true (press key) bytes sends =
      let sent = key_sends_full key t bytes sends in
      (subst (λ (key : ℕ). Asks t true (press key)) (sym sent.asked.key_266) (by_266 true sent.asked.by_mode (none_left_blank t sent.asked.none_blank)), sent.of_page)
  block_sent valid false (press key) bytes sends =
      let sent = key_sends_changed key t bytes sends in
      (subst (λ (key : ℕ). Asks t false (press key)) (sym sent.asked.key_266) (by_266 false sent.asked.by_mode (none_left_blank t sent.asked.none_blank)), sent.of_page)

pub our_sends_blocks : SendsBlocks our_rules
our_sends_blocks t valid input full bytes =
    (block_sent t valid full input bytes, λ asked. block_asked t full input asked.0 ∙ ap (block_transmission full) (sym asked.1))
