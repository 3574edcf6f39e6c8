-- Why a host byte is refused: the lines of M-102, by what is half read and by the byte.
use mathlib.Core.Path.{◌≡◌, refl, sym, ◌∙◌, subst}
use mathlib.Core.Bool.{true, false}
use mathlib.Core.List.{[], ◌∷◌}
use mathlib.Core.Logic.{⊎_elim}
use Prim.Native.Nat.{ℕ, ◌<◌, ◌≤◌}
use native.Mathlib.Omega.{arith}
use borrow.Author.Tests.{eqb-true, eqb-false, ne_eqb, leb-true, leb-false, le-leb, ltb-true, ltb-false}
use lib.Dec.{eqb, leb}
use Rattle.words.specs.Text.{bytes}
use Rattle.words.specs.Choice.{◌and◌}
use Rattle.words.proofs.Choosing.{true_is_not_false, not_both, then_case, else_case, either_line, either_way, both, second_decides, refuted, one_holds, neither, range_holds, range_fails}
use Rattle.sequence.specs.declared.HalfRead.{HalfRead}
use Rattle.sequence.specs.declared.Advanced.{Advanced}
use Rattle.sequence.specs.declared.Reason.{Reason}
use Rattle.sequence.specs.declared.Reason.TheVariants.{UnknownCommand, WrongArguments, BrokenSequence, HighByte}
use Rattle.sequence.specs.Range.{argument_of}
use Rattle.sequence.specs.Record.{nothing_read, argument_read}
use Rattle.sequence.specs.Reading.{is_control, is_cancel, refuses, outside_sequence, after_esc, after_intermediate, after_bracket, right_after_bracket, after_private_mark, sequence_read_on, inside_sequence, advance_of}
use Rattle.sequence.proofs.Cases.{one_of_five}
use Rattle.sequence.proofs.Keeping.{past_2, is_bracket}
use Rattle.state.specs.State.{message_of, refused}
use Rattle.state.proofs.Keeping.{parts}
use Rattle.steps.specs.Steps.{Terminal, Stepped, Valid, refusing}
use Rattle.table.specs.Table.{allowed}
use Rattle.sending.specs.Sending.{send_block}
use Rattle.table.specs.Settings.{area_set}
use Rattle.table.specs.PrivateForms.{private_step}
use Rattle.commands.specs.Text.{text_step, line_down, line_up, next_line, control_step}
use Rattle.commands.specs.Commands.{fresh_step, esc_step, bracket_step}
use Rattle.commands.specs.Host.{event_step, host_step}
use Rattle.commands.proofs.Theorems.{step_refused}
use Rattle.terminal.specs.Lines.{Decides, none_holds, this_holds, not_this}
use Rattle.terminal.proofs.Matching.{decides_one}
use Rattle.promises.specs.Rules.{our_rules}
use Rattle.promises.specs.Reasons.{NoneOf, Inside, Final, PrivateForm, set_6, reset_6, SpoiltOrBrokenOff, spoilt, no_such_form, control_byte, delete, Unlisted, when_after_intermediate, when_after_esc, when_after_bracket, NotAllowed, too_many, reason_table, Shows, RefusedWith, Reasons}
use Rattle.promises.proofs.FeedingRuns.{reading}
use Rattle.promises.proofs.Arguments.{Weighed, not_allowed, is_allowed, listed_weighed}

-- None of the lines 3, 1 and 2 holds.
record NoneHolds (t : Terminal) (byte : ℕ) : Type 0 where
  no_3 : SpoiltOrBrokenOff t.state.half byte → ⊥
  no_1 : Unlisted t.state.half byte → ⊥
  no_2 : Final t.state.half byte × NotAllowed t byte → ⊥

-- A command is refused, with a message and at a byte.
record Refuses (message byte : ℕ) (step : Stepped) : Type 0 where
  refused : step.was_refused ≡ true
  shows : Shows message byte step

-- What a step does, with the line that decides.
data Judged (t : Terminal) (byte : ℕ) (step : Stepped) : Type 0 where
  by_4 : 0x80 ≤ byte → Refuses 4 byte step → Judged t byte step
  by_3 : byte < 0x80 → SpoiltOrBrokenOff t.state.half byte → Refuses 3 byte step → Judged t byte step
  by_1 : byte < 0x80 → (SpoiltOrBrokenOff t.state.half byte → ⊥) → Unlisted t.state.half byte → Refuses 1 byte step → Judged t byte step
  by_2 : byte < 0x80 → (SpoiltOrBrokenOff t.state.half byte → ⊥) → (Unlisted t.state.half byte → ⊥) → Final t.state.half byte × NotAllowed t byte → Refuses 2 byte step → Judged t byte step
  by_none : byte < 0x80 → NoneHolds t byte → step.was_refused ≡ false → Judged t byte step

refusing-tells : (reason : Reason) (byte : ℕ) (t : Terminal) → Refuses (message_of reason) byte (refusing reason byte t)
unfolding refused
refusing-tells reason byte t = record { refused = refl; shows = record { message_shown = refl; byte_shown = refl } }

-- Steps that refuse nothing.
abbrev Accepts : Stepped → Type 0
Accepts step = step.was_refused ≡ false

line_down_accepts : (t : Terminal) → Accepts (line_down t)
unfolding line_down
line_down_accepts t = either_line Accepts _ _ _ (λ _. refl) (λ _. refl)

line_up_accepts : (t : Terminal) → Accepts (line_up t)
unfolding line_up
line_up_accepts t = either_line Accepts _ _ _ (λ _. refl) (λ _. refl)

next_line_accepts : (t : Terminal) → Accepts (next_line t)
unfolding next_line
next_line_accepts t = line_down_accepts _

control_accepts : (byte : ℕ) (t : Terminal) → Accepts (control_step byte t)
unfolding control_step
control_accepts byte t =
    either_line Accepts _ _ _ (λ _. refl)
    (λ _. either_line Accepts _ _ _ (λ _. refl)
    (λ _. either_line Accepts _ _ _ (λ _. line_down_accepts t) (λ _. refl)))

-- What is none of the private forms.
no_form : (argument final : ℕ) → (eqb argument 6 and eqb final 0x68) ≡ false → (eqb argument 6 and eqb final 0x6C) ≡ false → PrivateForm argument final → ⊥
unfolding ◌and◌
no_form _ _ not_set _ set_6 = true_is_not_false not_set
no_form _ _ _ not-reset reset_6 = true_is_not_false not-reset

-- A byte of 80 or above is refused as such, whatever is half read.
high_outside : (byte : ℕ) → 0x80 ≤ byte → outside_sequence byte ≡ refuses HighByte byte
unfolding outside_sequence is_control
high_outside byte high =
    else_case _ _ _ (refuted _ (λ range. let between = range_holds byte 0x20 0x7E range in omega arith))
    ∙ else_case _ _ _ (second_decides _ _ (ne_eqb byte 0x08 (λ e. omega arith)) ∙ second_decides _ _ (ne_eqb byte 0x0D (λ e. omega arith)) ∙ second_decides _ _ (ne_eqb byte 0x0A (λ e. omega arith)) ∙ ne_eqb byte 0x09 (λ e. omega arith))
    ∙ else_case _ _ _ (ne_eqb byte 0x1B (λ e. omega arith))
    ∙ then_case _ _ _ (le-leb _ _ high)

high_inside : (half : HalfRead) (byte : ℕ) → 0x80 ≤ byte → inside_sequence half byte ≡ refuses HighByte byte
unfolding inside_sequence is_cancel
high_inside half byte high =
    else_case _ _ _ (second_decides _ _ (ne_eqb byte 0x18 (λ e. omega arith)) ∙ ne_eqb byte 0x1A (λ e. omega arith))
    ∙ else_case _ _ _ (ne_eqb byte 0x1B (λ e. omega arith))
    ∙ else_case _ _ _ (refuted _ (λ range. let between = range_holds byte 0x20 0x7E range in omega arith))
    ∙ then_case _ _ _ (le-leb _ _ high)

high_anywhere : (half : HalfRead) (byte : ℕ) → 0x80 ≤ byte → advance_of half byte ≡ refuses HighByte byte
unfolding advance_of
high_anywhere half byte high =
    either_line (λ (a : Advanced). a ≡ refuses HighByte byte) _ _ _ (λ _. high_outside byte high) (λ _. high_inside half byte high)

module _ (t : Terminal) (valid : Valid t) (byte : ℕ) (low : byte < 0x80) where
  abbrev half : HalfRead
  half = t.state.half

  -- What a byte that leads to this record and event does.
  abbrev Does : Advanced → Type 0
  Does advanced = Judged t byte (event_step half advanced.event (reading t advanced.half))

  -- Nothing is half read: nothing is refused.
  none_outside : half.kind ≡ 0 → NoneHolds t byte
  none_outside outside = record { no_3 = no_3; no_1 = no_1; no_2 = λ line. let there = line.0.when_after_bracket in omega arith }
    where
      no_3 : SpoiltOrBrokenOff half byte → ⊥
      no_3 (spoilt final _) = let there = final.when_after_bracket in omega arith
      no_3 (no_such_form there _ _ _) = omega arith
      no_3 (control_byte inside _ _) = inside outside
      no_3 (delete inside _) = inside outside

      no_1 : Unlisted half byte → ⊥
      no_1 (when_after_intermediate there _ _) = omega arith
      no_1 (when_after_esc there _ _ _) = omega arith
      no_1 (when_after_bracket final _) = let there = final.when_after_bracket in omega arith

  outside_judged : half.kind ≡ 0 → Does (outside_sequence byte)
  unfolding outside_sequence event_step text_step
  outside_judged outside =
      let none = none_outside outside in
      either_line Does _ _ _ (λ _. by_none low none refl)
      (λ _. either_line Does _ _ _ (λ _. by_none low none (control_accepts byte _))
      (λ _. either_line Does _ _ _ (λ _. by_none low none refl)
      (λ _. either_line Does _ _ _ (λ high. let much = leb-true 0x80 byte high in absurd (omega arith)) (λ _. by_none low none refl))))

  -- 18, 1A and 1B drop the sequence.
  dropped : byte < 0x20 → (NoneOf (0x18 ∷ 0x1A ∷ 0x1B ∷ []) byte → ⊥) → NoneHolds t byte
  dropped small drops = record { no_3 = no_3; no_1 = no_1; no_2 = λ line. let least = line.0.least in omega arith }
    where
      no_3 : SpoiltOrBrokenOff half byte → ⊥
      no_3 (spoilt final _) = let least = final.least in omega arith
      no_3 (no_such_form _ least _ _) = omega arith
      no_3 (control_byte _ _ none) = drops none
      no_3 (delete _ is) = omega arith

      no_1 : Unlisted half byte → ⊥
      no_1 (when_after_intermediate _ least _) = omega arith
      no_1 (when_after_esc _ least _ _) = omega arith
      no_1 (when_after_bracket final _) = let least = final.least in omega arith

  -- 20 to 7E is no control byte: line 3 is left for a final byte alone.
  abbrev NoForm : Type 0
  NoForm = PrivateForm (argument_of half 0) byte → ⊥

  not_broken : 0x20 ≤ byte → byte ≤ 0x7E → (Final half byte → half.spoilt ≡ true → ⊥) → (half.kind ≡ 5 → 0x40 ≤ byte → NoForm → ⊥) → SpoiltOrBrokenOff half byte → ⊥
  not_broken least most whole formed (spoilt final was) = whole final was
  not_broken least most whole formed (no_such_form there enough _ none) = formed there enough none
  not_broken least most whole formed (control_byte _ small _) = omega arith
  not_broken least most whole formed (delete _ is) = omega arith

  module _ (least : 0x20 ≤ byte) (most : byte ≤ 0x7E) where
    -- After ESC.
    module _ (esc : half.kind ≡ 1) where
      unspoilt : SpoiltOrBrokenOff half byte → ⊥
      unspoilt = not_broken least most (λ final _. let there = final.when_after_bracket in omega arith) (λ there _ _. omega arith)

      none_after_esc : (0x30 ≤ byte → NoneOf (bytes "[DEMHVWSc`b") byte → ⊥) → NoneHolds t byte
      none_after_esc listed = record { no_3 = unspoilt; no_1 = no_1; no_2 = λ line. let there = line.0.when_after_bracket in omega arith }
        where
          no_1 : Unlisted half byte → ⊥
          no_1 (when_after_intermediate there _ _) = omega arith
          no_1 (when_after_esc _ enough _ none) = listed enough none
          no_1 (when_after_bracket final _) = let there = final.when_after_bracket in omega arith

      known : (NoneOf (bytes "[DEMHVWSc`b") byte → ⊥) → {step : Stepped} → Accepts step → Judged t byte step
      known listed accepts = by_none low (none_after_esc (λ _. listed)) accepts

      esc_judged : 0x30 ≤ byte → eqb byte 0x5B ≡ false → Judged t byte (esc_step byte (reading t nothing_read))
      unfolding esc_step area_set fresh_step send_block NoneOf message_of
      esc_judged enough bracket =
          let Fine : Stepped → Type 0 = Judged t byte in
          either_line Fine _ _ _ (λ e. known (λ none. none.1.0 (eqb-true byte 0x44 e)) (line_down_accepts _))
          (λ d. either_line Fine _ _ _ (λ e. known (λ none. none.1.1.0 (eqb-true byte 0x45 e)) (next_line_accepts _))
          (λ e. either_line Fine _ _ _ (λ is. known (λ none. none.1.1.1.0 (eqb-true byte 0x4D is)) (line_up_accepts _))
          (λ m. either_line Fine _ _ _ (λ is. known (λ none. none.1.1.1.1.0 (eqb-true byte 0x48 is)) refl)
          (λ h. either_line Fine _ _ _ (λ is. known (λ none. none.1.1.1.1.1.0 (eqb-true byte 0x56 is)) refl)
          (λ v. either_line Fine _ _ _ (λ is. known (λ none. none.1.1.1.1.1.1.0 (eqb-true byte 0x57 is)) refl)
          (λ w. either_line Fine _ _ _ (λ is. known (λ none. none.1.1.1.1.1.1.1.0 (eqb-true byte 0x53 is)) refl)
          (λ s. either_line Fine _ _ _ (λ is. known (λ none. none.1.1.1.1.1.1.1.1.0 (eqb-true byte 0x63 is)) refl)
          (λ c. either_line Fine _ _ _ (λ is. known (λ none. none.1.1.1.1.1.1.1.1.1.0 (eqb-true byte 0x60 is)) refl)
          (λ dmi. either_line Fine _ _ _ (λ is. known (λ none. none.1.1.1.1.1.1.1.1.1.1.0 (eqb-true byte 0x62 is)) refl)
          (λ b. by_1 low unspoilt
          (when_after_esc esc enough most (eqb-false byte 0x5B bracket, (eqb-false byte 0x44 d, (eqb-false byte 0x45 e, (eqb-false byte 0x4D m, (eqb-false byte 0x48 h, (eqb-false byte 0x56 v, (eqb-false byte 0x57 w, (eqb-false byte 0x53 s, (eqb-false byte 0x63 c, (eqb-false byte 0x60 dmi, (eqb-false byte 0x62 b, tt))))))))))))
          (refusing-tells UnknownCommand byte _)))))))))))

      after_esc_judged : Does (after_esc byte)
      unfolding after_esc event_step NoneOf
      after_esc_judged =
          either_line Does _ _ _
          (λ few. let small = leb-true byte 0x2F few in by_none low (none_after_esc (λ enough _. omega arith)) refl)
          (λ more. let enough = leb-false byte 0x2F more in
          either_line Does _ _ _
          (λ is. by_none low (none_after_esc (λ _ none. none.0 (eqb-true byte 0x5B is))) refl)
          (λ other. esc_judged (omega arith) other))

    -- After ESC and an intermediate.
    module _ (between : half.kind ≡ 2) where
      unspoilt_between : SpoiltOrBrokenOff half byte → ⊥
      unspoilt_between = not_broken least most (λ final _. let there = final.when_after_bracket in omega arith) (λ there _ _. omega arith)

      none_between : byte ≤ 0x2F → NoneHolds t byte
      none_between small = record { no_3 = unspoilt_between; no_1 = no_1; no_2 = λ line. let there = line.0.when_after_bracket in omega arith }
        where
          no_1 : Unlisted half byte → ⊥
          no_1 (when_after_intermediate _ enough _) = omega arith
          no_1 (when_after_esc there _ _ _) = omega arith
          no_1 (when_after_bracket final _) = let there = final.when_after_bracket in omega arith

      after_intermediate_judged : Does (after_intermediate byte)
      unfolding after_intermediate event_step message_of
      after_intermediate_judged =
          either_line Does _ _ _ (λ few. by_none low (none_between (leb-true byte 0x2F few)) refl)
          (λ more. let enough = leb-false byte 0x2F more in
          by_1 low unspoilt_between (when_after_intermediate between (omega arith) most) (refusing-tells UnknownCommand byte _))

    -- After ESC [: nothing is refused before the final byte.
    none_before_final : 3 ≤ half.kind → byte < 0x40 → NoneHolds t byte
    none_before_final bracket small = record {
      no_3 = not_broken least most (λ final _. let enough = final.least in omega arith) (λ _ enough _. omega arith);
      no_1 = no_1;
      no_2 = λ line. let enough = line.0.least in omega arith;
    }
      where
        no_1 : Unlisted half byte → ⊥
        no_1 (when_after_intermediate there _ _) = omega arith
        no_1 (when_after_esc there _ _ _) = omega arith
        no_1 (when_after_bracket final _) = let enough = final.least in omega arith

    -- After ESC [ and more, and right after it; `from` is the record that is read on.
    module _ (bracket : 3 ≤ half.kind) (no-mark : half.kind ≤ 4) where
      ends_there : 0x40 ≤ byte → Final half byte
      ends_there enough = record { when_after_bracket = bracket; without_mark = no-mark; least = enough; most = most }

      module _ (enough : 0x40 ≤ byte) (whole : half.spoilt ≡ false) where
        not_spoilt : SpoiltOrBrokenOff half byte → ⊥
        not_spoilt = not_broken least most (λ _ was. not_both was whole) (λ there _ _. omega arith)

        listed : 1 ≤ (allowed byte).most → Unlisted half byte → ⊥
        listed some (when_after_intermediate there _ _) = omega arith
        listed some (when_after_esc there _ _ _) = omega arith
        listed some (when_after_bracket _ none) = omega arith

        weighed : {step : Stepped} → 1 ≤ (allowed byte).most → Weighed t byte step → Judged t byte step
        weighed some (not_allowed wrong was told) = by_2 low not_spoilt (listed some) (ends_there enough, wrong) (record { refused = was; shows = told })
        weighed some (is_allowed fine accepts) = by_none low (record { no_3 = not_spoilt; no_1 = listed some; no_2 = λ line. fine line.1 }) accepts

        bracket_judged : Judged t byte (bracket_step byte half (reading t nothing_read))
        unfolding bracket_step message_of
        bracket_judged =
            either_line (Judged t byte) _ _ _
            (λ none. by_1 low not_spoilt (when_after_bracket (ends_there enough) (eqb-true _ 0 none)) (refusing-tells UnknownCommand byte _))
            (λ not_None. let some = eqb-false (allowed byte).most 0 not_None in
            either_line (Judged t byte) _ _ _
            (λ more. by_2 low not_spoilt (listed (omega arith)) (ends_there enough, too_many byte (omega arith) (ltb-true _ _ more)) (refusing-tells WrongArguments byte _))
            (λ few. weighed (omega arith) (listed_weighed t byte (ltb-false _ _ few) valid (omega arith))))

      after_bracket_judged : (from : HalfRead) → from.spoilt ≡ half.spoilt → Does (after_bracket from byte)
      unfolding after_bracket event_step message_of
      after_bracket_judged from as-spoilt =
          either_line Does _ _ _ (λ digit. let range = range_holds byte 0x30 0x39 digit in by_none low (none_before_final bracket (omega arith)) refl)
          (λ _. either_line Does _ _ _ (λ is. let same = eqb-true byte 0x3B is in by_none low (none_before_final bracket (omega arith)) refl)
          (λ _. either_line Does _ _ _ (λ small. by_none low (none_before_final bracket (ltb-true _ _ small)) refl)
          (λ enough. either_line Does _ _ _
          (λ was. by_3 low (spoilt (ends_there (ltb-false _ _ enough)) (sym as-spoilt ∙ was)) (refusing-tells BrokenSequence byte _))
          (λ whole. bracket_judged (ltb-false _ _ enough) (sym as-spoilt ∙ whole)))))

    right_after_bracket_judged : half.kind ≡ 4 → half.spoilt ≡ false → Does (right_after_bracket byte)
    unfolding right_after_bracket event_step
    right_after_bracket_judged alone whole =
        either_line Does _ _ _ (λ is. let same = eqb-true byte 0x3E is in by_none low (none_before_final (omega arith) (omega arith)) refl)
        (λ _. after_bracket_judged (omega arith) (omega arith) argument_read (sym whole))

    -- After ESC [ >.
    module _ (private : half.kind ≡ 5) where
      -- The two forms.
      none_of_form : PrivateForm (argument_of half 0) byte → NoneHolds t byte
      none_of_form form = record {
        no_3 = not_broken least most (λ final _. let there = final.without_mark in omega arith) (λ _ _ none. none form);
        no_1 = no_1;
        no_2 = λ line. let there = line.0.without_mark in omega arith;
      }
        where
          no_1 : Unlisted half byte → ⊥
          no_1 (when_after_intermediate there _ _) = omega arith
          no_1 (when_after_esc there _ _ _) = omega arith
          no_1 (when_after_bracket final _) = let there = final.without_mark in omega arith

      a_form : (argument final : ℕ) → PrivateForm argument final → argument_of half 0 ≡ argument → byte ≡ final → PrivateForm (argument_of half 0) byte
      a_form argument final form is ends = rw (is, ends) form

      private_judged : 0x40 ≤ byte → Judged t byte (private_step byte (argument_of half 0) (reading t nothing_read))
      unfolding private_step message_of
      private_judged enough =
          either_line (Judged t byte) _ _ _
          (λ is. by_none low (none_of_form (a_form 6 0x68 set_6 (eqb-true _ 6 (both is).0) (eqb-true _ 0x68 (both is).1))) refl)
          (λ not_set. either_line (Judged t byte) _ _ _
          (λ is. by_none low (none_of_form (a_form 6 0x6C reset_6 (eqb-true _ 6 (both is).0) (eqb-true _ 0x6C (both is).1))) refl)
          (λ not-reset. by_3 low (no_such_form private enough most (no_form (argument_of half 0) byte not_set not-reset)) (refusing-tells BrokenSequence byte _)))

      after_private_mark_judged : Does (after_private_mark half byte)
      unfolding after_private_mark event_step
      after_private_mark_judged =
          either_line Does _ _ _ (λ digit. let range = range_holds byte 0x30 0x39 digit in by_none low (none_before_final (omega arith) (omega arith)) refl)
          (λ _. either_line Does _ _ _ (λ small. by_none low (none_before_final (omega arith) (ltb-true _ _ small)) refl)
          (λ enough. private_judged (ltb-false _ _ enough)))

    read_on_judged : Inside half → Does (sequence_read_on half byte)
    unfolding sequence_read_on
    read_on_judged inside =
        let kind = (parts t.state valid.state).half in
        either_line Does _ _ _ (λ is. after_esc_judged (eqb-true _ 1 is))
        (λ not-esc. either_line Does _ _ _ (λ is. after_intermediate_judged (eqb-true _ 2 is))
        (λ not-between. either_line Does _ _ _ (λ is. right_after_bracket_judged (eqb-true _ 4 is) (unspoilt_alone (eqb-true _ 4 is)))
        (λ not-alone. either_line Does _ _ _ (λ is. after_private_mark_judged (eqb-true _ 5 is))
        (λ not-private. let three = is_bracket half kind (past_2 half.kind inside (eqb-false _ 1 not-esc) (eqb-false _ 2 not-between)) (eqb-false _ 4 not-alone) (eqb-false _ 5 not-private) in
        after_bracket_judged (omega arith) (omega arith) half refl))))
      where
        unspoilt_alone : half.kind ≡ 4 → half.spoilt ≡ false
        unspoilt_alone alone =
            one_of_five half (parts t.state valid.state).half
            (λ k c f. absurd (omega arith)) (λ s k l m f. s) (λ s k c f. s) (λ s k c f. s) (λ s k c f. s)

  inside_judged : Inside half → Does (inside_sequence half byte)
  unfolding inside_sequence is_cancel event_step NoneOf message_of
  inside_judged inside =
      either_line Does _ _ _
      (λ cancels. by_none low
      (⊎_elim
      (λ is. let same = eqb-true byte 0x18 is in dropped (omega arith) (λ none. none.0 same))
      (λ is. let same = eqb-true byte 0x1A is in dropped (omega arith) (λ none. none.1.0 same))
      (one_holds cancels)) refl)
      (λ goes_on. let no_cancel = neither goes_on in
      either_line Does _ _ _
      (λ is. let same = eqb-true byte 0x1B is in by_none low (dropped (omega arith) (λ none. none.1.1.0 same)) refl)
      (λ no-esc. either_line Does _ _ _
      (λ printable. let range = range_holds byte 0x20 0x7E printable in read_on_judged range.0 range.1 inside)
      (λ other. either_line Does _ _ _ (λ high. let much = leb-true 0x80 byte high in absurd (omega arith))
      (λ _. by_3 low
      (⊎_elim
      (λ small. control_byte inside small (eqb-false byte 0x18 no_cancel.0, (eqb-false byte 0x1A no_cancel.1, (eqb-false byte 0x1B no-esc, tt))))
      (λ past. delete inside (omega arith))
      (range_fails byte 0x20 0x7E other))
      (refusing-tells BrokenSequence byte _)))))

judged : (t : Terminal) → Valid t → (byte : ℕ) → Judged t byte (host_step byte t)
unfolding host_step advance_of event_step message_of
judged t valid byte =
    either_way (leb 0x80 byte)
    (λ high. by_4 (leb-true _ _ high) (rw (high_anywhere t.state.half byte (leb-true _ _ high)) (refusing-tells HighByte byte _)))
    (λ not-high. let low = leb-false 0x80 byte not-high in
    either_line (Does t valid byte low) _ _ _
    (λ none. outside_judged t valid byte low (eqb-true _ 0 none))
    (λ some. inside_judged t valid byte low (eqb-false _ 0 some)))

-- The line that decides, and what the step then tells.
record Verdict (t : Terminal) (byte : ℕ) (step : Stepped) : Type 1 where
  message : ℕ
  decides : Decides (reason_table byte t) message
  refused : (message ≡ 0 → ⊥) → Refuses message byte step
  accepted : message ≡ 0 → step.was_refused ≡ false

verdict : (t : Terminal) (byte : ℕ) (step : Stepped) → Judged t byte step → Verdict t byte step
verdict t byte step (by_4 high told) = record {
  message = 4;
  decides = this_holds _ _ high;
  refused = λ _. told;
  accepted = λ none. absurd (omega arith);
}
verdict t byte step (by_3 low holds told) = record {
  message = 3;
  decides = not_this _ _ _ (λ (high : 0x80 ≤ byte). omega arith) (this_holds _ _ holds);
  refused = λ _. told;
  accepted = λ none. absurd (omega arith);
}
verdict t byte step (by_1 low no_3 holds told) = record {
  message = 1;
  decides = not_this _ _ _ (λ (high : 0x80 ≤ byte). omega arith) (not_this _ _ _ no_3 (this_holds _ _ holds));
  refused = λ _. told;
  accepted = λ none. absurd (omega arith);
}
verdict t byte step (by_2 low no_3 no_1 holds told) = record {
  message = 2;
  decides = not_this _ _ _ (λ (high : 0x80 ≤ byte). omega arith) (not_this _ _ _ no_3 (not_this _ _ _ no_1 (this_holds _ _ holds)));
  refused = λ _. told;
  accepted = λ none. absurd (omega arith);
}
verdict t byte step (by_none low none accepts) = record {
  message = 0;
  decides = not_this _ _ _ (λ (high : 0x80 ≤ byte). omega arith) (not_this _ _ _ none.no_3 (not_this _ _ _ none.no_1 (not_this _ _ _ none.no_2 none_holds)));
  refused = λ some. absurd (some refl);
  accepted = λ _. accepts;
}

module _ (t : Terminal) (valid : Valid t) (byte : ℕ) where
  abbrev said : Verdict t byte (host_step byte t)
  said = verdict t byte _ (judged t valid byte)

  told : (message : ℕ) → RefusedWith message byte t (host_step byte t) → Decides (reason_table byte t) message
  told message refusal =
      let there : said.message ≡ 0 → ⊥ = λ none. not_both refusal.was_refused (said.accepted none) in
      subst (Decides (reason_table byte t)) (sym (said.refused there).shows.message_shown ∙ refusal.shows.message_shown) said.decides

  tells : (message : ℕ) → (message ≡ 0 → ⊥) → Decides (reason_table byte t) message → RefusedWith message byte t (host_step byte t)
  tells message some decides =
      let same = decides_one said.decides decides in
      let told = said.refused (λ none. some (sym same ∙ none)) in
      record {
        was_refused = told.refused;
        shows = subst (λ (n : ℕ). Shows n byte (host_step byte t)) same told.shows;
        refusal = step_refused byte t valid told.refused;
      }

  accepts_where : (host_step byte t).was_refused ≡ false → Decides (reason_table byte t) 0
  accepts_where accepts =
      let none : said.message ≡ 0 = either_way (eqb said.message 0) (λ is. eqb-true _ 0 is) (λ some. absurd (not_both (said.refused (eqb-false _ 0 some)).refused accepts)) in
      subst (Decides (reason_table byte t)) none said.decides

  where_accepts : Decides (reason_table byte t) 0 → (host_step byte t).was_refused ≡ false
  where_accepts decides = said.accepted (decides_one said.decides decides)

pub our_reasons : Reasons our_rules
our_reasons = record {
  refused = λ t valid byte message some. (told t valid byte message, tells t valid byte message some);
  not_refused = λ t valid byte. (accepts_where t valid byte, where_accepts t valid byte);
}
