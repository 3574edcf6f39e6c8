-- A call on its way, over steps that send nothing: bytes that are read on, light steps, a run of text.
use mathlib.Core.Path.{◌≡◌, refl, sym, ap, ◌∙◌, subst}
use mathlib.Core.Bool.{Bool, true, false}
use mathlib.Core.List.{List}
use Prim.Native.Nat.{ℕ, zero, suc, ◌+◌, ◌-◌, ◌<◌, ◌≤◌}
use native.Mathlib.Omega.{arith}
use borrow.Author.Tests.{eq-eqb}
use lib.ListN.{length, drop, get_or}
use Rattle.std.specs.Prelude.{Result, Ok}
use Rattle.words.specs.Choice.{◌or◌, ◌is◌to◌}
use Rattle.words.proofs.Choosing.{true_is_not_false, either_way, less_or_not, then_case}
use Rattle.sequence.specs.declared.HalfRead.{HalfRead}
use Rattle.sequence.specs.declared.Advanced.{Advanced}
use Rattle.sequence.specs.declared.Event.{Event}
use Rattle.sequence.specs.declared.Event.TheVariants.{Nothing, Text, Control, EscCommand, BracketCommand, PrivateCommand, Refused}
use Rattle.sequence.specs.Record.{nothing_read}
use Rattle.sequence.specs.Reading.{advance_of, outside_sequence}
use Rattle.reading.specs.declared.Reading.{Reading}
use Rattle.reading.specs.Ahead.{is_nothing, read_from, read_to}
use Rattle.reading.proofs.Laws.{reads_on_lem, reads_to, reads_last}
use Rattle.output.specs.declared.NoRoom.{NoRoom}
use Rattle.page.specs.Page.{Page}
use Rattle.state.specs.declared.State.{State}
use Rattle.state.specs.State.{with_half}
use Rattle.steps.specs.declared.Step.{Step}
use Rattle.steps.specs.Told.{Told, told, told_or, written}
use Rattle.steps.specs.Steps.{Terminal, Valid, bytes_of, with_state}
use Rattle.steps.specs.declared.Light.{Light}
use Rattle.steps.specs.Light.{light_step}
use Rattle.commands.specs.Text.{text_step, text_length, after_text}
use Rattle.commands.specs.Host.{FinalInTable, event_step, host_step}
use Rattle.commands.proofs.Stepping.{next_valid}
use Rattle.commands.proofs.Runs.{text_keeps_half, text_sends_nothing, text_names_one, text_not_refused, along_text, text_goes_on, length_goes_on, run_goes_on, final_in_table, eight_arguments, light_sends_nothing, light_names_none, light_protects_none}
use Rattle.terminal.specs.declared.Answer.TheVariants as answer
use Rattle.terminal.specs.Runs.{count_of}
use Rattle.terminal.specs.Answers.{number_of}
use Rattle.terminal.specs.Calls.{host_call}
use Rattle.terminal.proofs.Deciding.{or_false}
use Rattle.terminal.proofs.Running.{Going, goes_silently, goes_on, exceeded, ends_full}

-- The terminal with another record of what is half read.
abbrev pub reading : Terminal → HalfRead → Terminal
reading t half = with_state t (with_half t.state half)

host_is : (byte : ℕ) (t : Terminal) (half : HalfRead) (event : Event) → advance_of t.state.half byte ≡ record { half = half; event = event } → host_step byte t ≡ event_step t.state.half event (reading t half)
unfolding host_step
host_is byte t half event same = (λ i. event_step t.state.half (same i).event (reading t (same i).half))

is_nothing_lem : (event : Event) → is_nothing event ≡ true → event ≡ Nothing
unfolding is_nothing
is_nothing_lem Nothing nothing = refl
is_nothing_lem (Text byte) nothing = absurd (true_is_not_false (sym nothing))
is_nothing_lem (Control byte) nothing = absurd (true_is_not_false (sym nothing))
is_nothing_lem (EscCommand byte) nothing = absurd (true_is_not_false (sym nothing))
is_nothing_lem (BracketCommand final) nothing = absurd (true_is_not_false (sym nothing))
is_nothing_lem (PrivateCommand final) nothing = absurd (true_is_not_false (sym nothing))
is_nothing_lem (Refused reason byte) nothing = absurd (true_is_not_false (sym nothing))

module _ (start : Terminal) (bytes before : List ℕ) (sent stored refused : ℕ) (protection : Bool) (output : List ℕ) where
  -- On the way, at a terminal, with so many bytes taken.
  abbrev At : Terminal → ℕ → Type 0
  At here taken = Going start bytes before here taken sent stored refused protection output

  -- A byte that only changes the record.
  over_nothing : (here : Terminal) (taken : ℕ) → At here taken → taken < length bytes → is_nothing (advance_of here.state.half (get_or bytes taken 0)).event ≡ true → At (reading here (advance_of here.state.half (get_or bytes taken 0)).half) (taken + 1)
  unfolding event_step bytes_of count_of
  over_nothing here taken going more nothing =
      let advanced : Advanced = advance_of here.state.half (get_or bytes taken 0) in
      let same : host_step (get_or bytes taken 0) here ≡ event_step here.state.half Nothing (reading here advanced.half) =
      host_is (get_or bytes taken 0) here advanced.half advanced.event refl ∙ ap (λ (event : Event). event_step here.state.half event (reading here advanced.half)) (is_nothing_lem advanced.event nothing) in
      goes_silently going more _ same refl stored refused protection (omega arith) (omega arith) (or_false protection)

  -- Bytes read on: the last of them is still to act.
  pub record Arrived (here : Terminal) (taken : ℕ) (read : Reading) : Type 0 where
    pub last : ℕ
    pub ends : read.end ≡ last + 1
    pub past : taken ≤ last
    pub inside : last < length bytes
    pub going : At (reading here read.before) last
    pub advances : advance_of read.before (get_or bytes last 0) ≡ record { half = read.after; event = read.event }

  arrived_at : (here : Terminal) (taken : ℕ) → At here taken → taken < length bytes → Arrived here taken (read_to here.state.half (get_or bytes taken 0) taken)
  arrived_at here taken going more =
      record { last = taken; ends = refl; past = omega arith; inside = more; going = going; advances = refl }

  reads_ahead : (fuel : ℕ) (here : Terminal) (taken : ℕ) → length bytes - taken ≤ fuel → At here taken → taken < length bytes → Arrived here taken (read_from here.state.half (drop taken bytes) taken)
  reads_ahead zero here taken none going more = absurd (omega arith)
  reads_ahead (suc fuel) here taken few going more =
      let half : HalfRead = here.state.half in
      less_or_not (taken + 1) (length bytes)
      (λ further. either_way (is_nothing (advance_of half (get_or bytes taken 0)).event)
      (λ nothing.
      let on = reads_ahead fuel (reading here (advance_of half (get_or bytes taken 0)).half) (taken + 1) (omega arith) (over_nothing here taken going more nothing) further in
      subst (Arrived here taken) (sym (reads_on_lem half bytes taken further nothing))
      (record { last = on.last; ends = on.ends; past = omega (arith, on.past); inside = on.inside; going = on.going; advances = on.advances }))
      (λ something. subst (Arrived here taken) (sym (reads_to half bytes taken more something)) (arrived_at here taken going more)))
      (λ over.
      let last : taken + 1 ≡ length bytes = omega arith in
      subst (Arrived here taken) (sym (reads_last half bytes taken last)) (arrived_at here taken going more))

  module _ (here : Terminal) (taken : ℕ) (going : Going start bytes before here taken sent stored refused protection output) (more : taken < length bytes) (read : Reading) (same : read ≡ read_from here.state.half (drop taken bytes) taken) where
    pub arrives : Arrived here taken read
    arrives = subst (Arrived here taken) (sym same) (reads_ahead (length bytes - taken) here taken (omega arith) going more)

    -- The last byte's step is the event's.
    pub arrived_step : host_step (get_or bytes arrives.last 0) (reading here read.before) ≡ event_step read.before read.event (reading here read.after)
    arrived_step = host_is (get_or bytes arrives.last 0) (reading here read.before) read.after read.event arrives.advances

    -- What the event's step asks for.
    abbrev last_byte : ℕ
    last_byte = get_or bytes arrives.last 0

    pub arrived_valid : Valid (reading here read.after)
    arrived_valid = next_valid (reading here read.before) last_byte (record { half = read.after; event = read.event }) (with_half here.state read.after) (sym arrives.advances) refl arrives.going.valid

    pub arrived_final : FinalInTable read.event
    arrived_final = final_in_table read.before last_byte (record { half = read.after; event = read.event }) (sym arrives.advances)

    pub arrived_count : read.before.count ≤ 8
    arrived_count = eight_arguments (reading here read.before) arrives.going.valid

    pub arrived_past : taken < read.end
    arrived_past = omega (arith, arrives.past, arrives.ends)

    pub arrived_inside : read.end ≤ length bytes
    arrived_inside = omega (arith, arrives.inside, arrives.ends)

    -- A light step, by what the code tells of it.
    pub goes_lightly : (told light : Light) → told ≡ light → ((page : Page) → light_step told (record { state = with_half here.state read.after; page = page }) ≡ event_step read.before read.event (record { state = with_half here.state read.after; page = page })) → (refused' : ℕ) → refused + count_of (light_step light (reading here read.after)).was_refused ≡ refused' → Going start bytes before (light_step light (reading here read.after)).terminal read.end sent stored refused' protection output
    unfolding bytes_of
    goes_lightly told light same tells refused' refuses =
        let t : Terminal = reading here read.after in
        let steps : host_step last_byte (reading here read.before) ≡ light_step light t = arrived_step ∙ sym (tells here.page) ∙ ap (λ (light : Light). light_step light t) same in
        subst (λ (n : ℕ). Going start bytes before (light_step light t).terminal n sent stored refused' protection output) (sym arrives.ends)
        (goes_silently arrives.going arrives.inside (light_step light t) steps (ap bytes_of (light_sends_nothing t light)) stored refused' protection (omega (arith, ap length (light_names_none t light))) refuses (ap (λ (b : Bool). protection or b) (light_protects_none t light) ∙ or_false protection))

    -- A step that may send, as the code tells of it: it is done, or it exceeds the room.
    told_of_host : {said : Told} {written-to : List ℕ} → record { told = said; output = written-to } ≡ written sent output (reading here read.before) (event_step read.before read.event (reading here read.after)) → record { told = said; output = written-to } ≡ written sent output (reading here read.before) (host_step last_byte (reading here read.before))
    told_of_host told_of = told_of ∙ ap (written sent output (reading here read.before)) (sym arrived_step)

    module _ (page : Page) (written-to : List ℕ) where
      pub goes_heavily : (step : Step) → record { told = told step page; output = written-to } ≡ written sent output (reading here read.before) (event_step read.before read.event (reading here read.after)) → Going start bytes before (record { state = step.state; page = page }) read.end (sent + step.sent) (stored + step.stored) (refused + count_of step.refused) (protection or step.protection) written-to
      goes_heavily step told_of =
          subst (λ (n : ℕ). Going start bytes before (record { state = step.state; page = page }) n (sent + step.sent) (stored + step.stored) (refused + count_of step.refused) (protection or step.protection) written-to) (sym arrives.ends)
          (goes_on arrives.going arrives.inside step page written-to (told_of_host told_of))

      pub stops_full : (result : Result Step NoRoom) (state : State) → record { told = told_or result state page; output = written-to } ≡ written sent output (reading here read.before) (event_step read.before read.event (reading here read.after)) → ((step : Step) → result ≡ Ok step → ⊥) → Valid start → length bytes ≤ 65536 → record { number = number_of answer.NoRoom; taken = read.end - 1; sent = sent; stored = stored; refused = refused; protection = protection; terminal = record { state = with_half here.state read.before; page = page }; output = written-to } ≡ host_call start bytes before
      stops_full result state told_of not-done valid short =
          let full = exceeded sent output (reading here read.before) (host_step last_byte (reading here read.before)) page written-to result state (told_of_host told_of) not-done in
          let at : read.end - 1 ≡ arrives.last = omega (arith, arrives.ends) in
          (λ i. record {
            number = number_of answer.NoRoom;
            taken = at i;
            sent = sent;
            stored = stored;
            refused = refused;
            protection = protection;
            terminal = record { state = with_half here.state read.before; page = full.same_page i };
            output = full.same_output i;
          })
          ∙ sym (ends_full arrives.going valid short arrives.inside full.exceeds)

-- A run of text.
or_true : (test : Bool) → (test or true) ≡ true
unfolding ◌or◌
or_true true = refl
or_true false = refl

text_is : (byte : ℕ) (t : Terminal) → t.state.half.kind ≡ 0 → (byte is 0x20 to 0x7E) ≡ true → host_step byte t ≡ text_step byte (reading t nothing_read)
unfolding advance_of outside_sequence event_step
text_is byte t outside text =
    host_is byte t nothing_read (Text byte)
    (then_case _ _ _ (eq-eqb t.state.half.kind 0 outside) ∙ then_case _ _ _ text)

-- One byte of it.
module _ (start : Terminal) (bytes before : List ℕ) (sent refused : ℕ) (output : List ℕ) (here : Terminal) (taken stored : ℕ) (protection : Bool) (going : Going start bytes before here taken sent stored refused protection output) (more : taken < length bytes) (outside : here.state.half.kind ≡ 0) (text : (get_or bytes taken 0 is 0x20 to 0x7E) ≡ true) where
  over_text : Going start bytes before (text_step (get_or bytes taken 0) (reading here nothing_read)).terminal (taken + 1) sent (stored + 1) refused true output
  unfolding text_step bytes_of count_of
  over_text =
      goes_silently going more _ (text_is (get_or bytes taken 0) here outside text) refl (stored + 1) refused true refl (omega arith) (or_true protection)

-- All of it, from a byte of text on.
module _ (start : Terminal) (bytes before : List ℕ) (sent refused : ℕ) (output : List ℕ) (here : Terminal) (taken stored : ℕ) (protection : Bool) (going : Going start bytes before here taken sent stored refused protection output) (more : taken < length bytes) (outside : here.state.half.kind ≡ 0) (text : (get_or bytes taken 0 is 0x20 to 0x7E) ≡ true) where
  -- So many cells are stored as bytes are taken.
  abbrev Texts : ℕ → Terminal → Type 0
  Texts at t = (taken ≤ at) × Going start bytes before t at sent (stored + (at - taken)) refused true output

  one_more : (at : ℕ) (t : Terminal) → at < length bytes → Valid t → host_step (get_or bytes at 0) t ≡ text_step (get_or bytes at 0) t → Texts at t → Texts (at + 1) (text_step (get_or bytes at 0) t).terminal
  unfolding count_of bytes_of ◌or◌
  one_more at t inside valid steps so_far = (
    omega (arith, so_far.0),
    goes_silently so_far.1 inside (text_step (get_or bytes at 0) t) steps (ap bytes_of (text_sends_nothing (get_or bytes at 0) t)) (stored + (at + 1 - taken)) refused true
        (omega (arith, so_far.0, text_names_one (get_or bytes at 0) t))
        (omega (arith, ap count_of (text_not_refused (get_or bytes at 0) t)))
        refl,
  )

  abbrev first : Terminal
  first = (text_step (get_or bytes taken 0) (reading here nothing_read)).terminal

  goes_over_all : Going start bytes before (after_text (drop taken bytes) (reading here nothing_read)) (taken + text_length (drop taken bytes)) sent (stored + text_length (drop taken bytes)) refused true output
  goes_over_all =
      let one : stored + 1 ≡ stored + (taken + 1 - taken) = omega arith in
      let begun : Texts (taken + 1) first =
      (omega arith, subst (λ (n : ℕ). Going start bytes before first (taken + 1) sent n refused true output) one (over_text start bytes before sent refused output here taken stored protection going more outside text)) in
      let all = along_text bytes Texts one_more (taken + 1) first begun.1.valid (ap (λ (half : HalfRead). length half.arguments) (text_keeps_half (get_or bytes taken 0) (reading here nothing_read))) (ap (λ (half : HalfRead). half.kind) (text_keeps_half (get_or bytes taken 0) (reading here nothing_read))) begun in
      let as_long = length_goes_on bytes taken more text in
      let end : taken + 1 + text_length (drop (taken + 1) bytes) ≡ taken + text_length (drop taken bytes) = omega (arith, as_long) in
      let count : stored + (taken + 1 + text_length (drop (taken + 1) bytes) - taken) ≡ stored + text_length (drop taken bytes) = omega (arith, as_long) in
      subst (λ (t : Terminal). Going start bytes before t (taken + text_length (drop taken bytes)) sent (stored + text_length (drop taken bytes)) refused true output) (sym (text_goes_on bytes taken more text (reading here nothing_read)))
      (subst (λ (n : ℕ). Going start bytes before (after_text (drop (taken + 1) bytes) first) n sent (stored + text_length (drop taken bytes)) refused true output) end
      (subst (λ (n : ℕ). Going start bytes before (after_text (drop (taken + 1) bytes) first) (taken + 1 + text_length (drop (taken + 1) bytes)) sent n refused true output) count all.1))

  module _ (there : Terminal) (end : ℕ) (ran : there ≡ after_text (drop taken bytes) (reading here nothing_read)) (ends : end ≡ taken + text_length (drop taken bytes)) where
    pub goes_over_text : Going start bytes before there end sent (stored + (end - taken)) refused true output
    goes_over_text =
        let count : stored + text_length (drop taken bytes) ≡ stored + (end - taken) = omega (arith, ends) in
        subst (λ (t : Terminal). Going start bytes before t end sent (stored + (end - taken)) refused true output) (sym ran)
        (subst (λ (n : ℕ). Going start bytes before (after_text (drop taken bytes) (reading here nothing_read)) n sent (stored + (end - taken)) refused true output) (sym ends)
        (subst (λ (n : ℕ). Going start bytes before (after_text (drop taken bytes) (reading here nothing_read)) (taken + text_length (drop taken bytes)) sent n refused true output) count goes_over_all))

    pub text_past : taken < end
    text_past = let some = run_goes_on bytes taken more text in omega (arith, ends, some)
