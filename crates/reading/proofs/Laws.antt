-- A turn of reading on, and its end.
use mathlib.Core.Path.{◌≡◌, refl, sym, ap, ◌∙◌}
use mathlib.Core.Bool.{true, false}
use mathlib.Core.List.{List}
use Prim.Native.Nat.{ℕ, ◌+◌, ◌-◌, ◌*◌, ◌<◌, ◌≤◌}
use native.Mathlib.Omega.{arith}
use borrow.Author.Tests.{lt-ltb, le-ltb, lt-leb, eq-eqb, ne_eqb}
use lib.Dec.{leb}
use lib.ListN.{length, get_or, drop, set, replicate, drop_of_length-le}
use Rattle.words.specs.Choice.{If◌then◌else◌, ◌is◌to◌, ◌and◌, ◌or◌}
use Rattle.words.proofs.Choosing.{not_both, then_case, else_case, either_line, less_or_not, second_decides, range_is, refuted, range_holds}
use Rattle.words.proofs.Walking.{next_element}
use Rattle.sequence.specs.declared.HalfRead.{HalfRead}
use Rattle.sequence.specs.declared.Advanced.{Advanced}
use Rattle.sequence.specs.declared.Event.TheVariants.{EscCommand, BracketCommand}
use Rattle.sequence.specs.Record.{nothing_read, esc_read, argument_read, bracket_read, with_digit, with_next_argument}
use Rattle.sequence.specs.Reading.{advance_of, inside_sequence, outside_sequence, sequence_read_on, after_esc, after_bracket, right_after_bracket, is_cancel, is_control, reads_on, ends}
use Rattle.reading.specs.declared.Reading.{Reading}
use Rattle.reading.specs.Ahead.{is_nothing, read_to, read_from}

-- at a place that is the last
module _ (half : HalfRead) (bytes : List ℕ) (at : ℕ) where
  pub reads_last : at + 1 ≡ length bytes → read_from half (drop at bytes) at ≡ read_to half (get_or bytes at 0) at
  unfolding read_from
  reads_last last =
      let here : at < length bytes = omega arith in
      let none : length bytes ≤ at + 1 = omega arith in
      rw (next_element bytes at 0 here, drop_of_length-le bytes none)

  -- and at one with more after it
  module _ (more : at + 1 < length bytes) where
    pub reads_on_lem : is_nothing (advance_of half (get_or bytes at 0)).event ≡ true → read_from half (drop at bytes) at ≡ read_from (advance_of half (get_or bytes at 0)).half (drop (at + 1) bytes) (at + 1)
    unfolding read_from
    reads_on_lem nothing =
        let here : at < length bytes = omega arith in
        rw (next_element bytes at 0 here, next_element bytes (at + 1) 0 more) (then_case _ _ _ nothing)

    reads_no_further : is_nothing (advance_of half (get_or bytes at 0)).event ≡ false → read_from half (drop at bytes) at ≡ read_to half (get_or bytes at 0) at
    unfolding read_from
    reads_no_further something =
        let here : at < length bytes = omega arith in
        rw (next_element bytes at 0 here, next_element bytes (at + 1) 0 more) (else_case _ _ _ something)

  -- where the byte brings something about, whether more follow or not
  pub reads_to : at < length bytes → is_nothing (advance_of half (get_or bytes at 0)).event ≡ false → read_from half (drop at bytes) at ≡ read_to half (get_or bytes at 0) at
  reads_to here something =
      less_or_not (at + 1) (length bytes)
      (λ more. reads_no_further more something)
      (λ none. let last : at + 1 ≡ length bytes = omega arith in reads_last last)

-- A sequence of ESC [ that is not spoilt, and what the bytes of a whole command do to it.
abbrev pub open_sequence : List ℕ → ℕ → HalfRead
open_sequence arguments count = record { kind = 3; arguments = arguments; count = count; spoilt = false }

no_cancel : (byte : ℕ) → 0x20 ≤ byte → is_cancel byte ≡ false
unfolding is_cancel
no_cancel byte low = second_decides _ _ (ne_eqb byte 0x18 (λ e. absurd (omega (arith, e)))) ∙ ne_eqb byte 0x1A (λ e. absurd (omega (arith, e)))

module _ (arguments : List ℕ) (last byte : ℕ) where
  in_bracket : 0x20 ≤ byte → byte ≤ 0x7E → advance_of (open_sequence arguments (last + 1)) byte ≡ after_bracket (open_sequence arguments (last + 1)) byte
  unfolding advance_of inside_sequence sequence_read_on If◌then◌else◌
  in_bracket low high = rw (no_cancel byte low, ne_eqb byte 0x1B (λ e. absurd (omega (arith, e))), range_is byte 0x20 0x7E low high)

  pub digit_read : (byte is 0x30 to 0x39) ≡ true → get_or arguments last 0 * 10 + (byte - 0x30) ≤ 9999 → advance_of (open_sequence arguments (last + 1)) byte ≡ reads_on (open_sequence (set arguments last (get_or arguments last 0 * 10 + (byte - 0x30))) (last + 1))
  unfolding after_bracket with_digit If◌then◌else◌
  digit_read digit small =
      let range = range_holds byte 0x30 0x39 digit in
      let low : 0x20 ≤ byte = omega (arith, range.0) in
      let high : byte ≤ 0x7E = omega (arith, range.1) in
      let back : last + 1 - 1 ≡ last = omega arith in
      in_bracket low high ∙ rw (digit, back, le-ltb 9999 (get_or arguments last 0 * 10 + (byte - 0x30)) small)

  pub semicolon_read : byte ≡ 0x3B → last < 7 → advance_of (open_sequence arguments (last + 1)) byte ≡ reads_on (open_sequence arguments (last + 1 + 1))
  unfolding after_bracket with_next_argument If◌then◌else◌
  semicolon_read semicolon few =
      let low : 0x20 ≤ byte = omega (arith, semicolon) in
      let high : byte ≤ 0x7E = omega (arith, semicolon) in
      let room : leb 8 (last + 1) ≡ false = lt-leb 8 (last + 1) (omega arith) in
      in_bracket low high ∙ rw (refuted (byte is 0x30 to 0x39) (λ digit. let range = range_holds byte 0x30 0x39 digit in omega (arith, semicolon, range.1)), eq-eqb byte 0x3B semicolon, room)

  pub final_read : (byte is 0x40 to 0x7E) ≡ true → advance_of (open_sequence arguments (last + 1)) byte ≡ ends (BracketCommand byte)
  unfolding after_bracket If◌then◌else◌
  final_read final =
      let range = range_holds byte 0x40 0x7E final in
      let low : 0x20 ≤ byte = omega (arith, range.0) in
      let no_digit : (byte is 0x30 to 0x39) ≡ false = refuted (byte is 0x30 to 0x39) (λ digit. let within = range_holds byte 0x30 0x39 digit in omega (arith, range.0, within.1)) in
      in_bracket low range.1 ∙ rw (no_digit, ne_eqb byte 0x3B (λ e. absurd (omega (arith, e, range.0))), le-ltb byte 0x40 range.0)

-- Right after ESC [: what the bytes other than > do to it, and that an argument's bytes bring nothing about.
module _ (byte : ℕ) where
  as_argument : 0x20 ≤ byte → byte ≤ 0x7E → (byte ≡ 0x3E → ⊥) → advance_of bracket_read byte ≡ advance_of argument_read byte
  unfolding advance_of inside_sequence sequence_read_on right_after_bracket If◌then◌else◌
  as_argument low high other = rw (no_cancel byte low, ne_eqb byte 0x1B (λ e. absurd (omega (arith, e))), range_is byte 0x20 0x7E low high, ne_eqb byte 0x3E other)

  argument_read_lem : (byte is 0x30 to 0x3B) ≡ true → (advance_of bracket_read byte ≡ advance_of argument_read byte) × (is_nothing (advance_of argument_read byte).event ≡ true)
  unfolding after_bracket is_nothing
  argument_read_lem argument =
      let range = range_holds byte 0x30 0x3B argument in
      let low : 0x20 ≤ byte = omega (arith, range.0) in
      let high : byte ≤ 0x7E = omega (arith, range.1) in
      let not-final : byte < 0x40 = omega (arith, range.1) in
      let nothing = either_line (λ (a : Advanced). is_nothing a.event ≡ true) in (
        as_argument low high (λ e. omega (arith, e, range.1)),
        rw (in_bracket (replicate 8 0) 0 byte low high)
            (nothing _ _ _ (λ _. refl)
            (λ _. nothing _ _ _ (λ _. refl)
            (λ _. nothing _ _ _ (λ _. refl) (λ final. absurd (not_both (lt-ltb byte 0x40 not-final) final))))),
      )

  final_at_once : (byte is 0x40 to 0x7E) ≡ true → advance_of bracket_read byte ≡ ends (BracketCommand byte)
  final_at_once final =
      let range = range_holds byte 0x40 0x7E final in
      let low : 0x20 ≤ byte = omega (arith, range.0) in
      as_argument low range.1 (λ e. omega (arith, e, range.0)) ∙ final_read (replicate 8 0) 0 byte final

-- After ESC: the [, and a command.
module _ (byte : ℕ) where
  in_esc : 0x20 ≤ byte → byte ≤ 0x7E → advance_of esc_read byte ≡ after_esc byte
  unfolding advance_of inside_sequence sequence_read_on If◌then◌else◌
  in_esc low high = rw (no_cancel byte low, ne_eqb byte 0x1B (λ e. absurd (omega (arith, e))), range_is byte 0x20 0x7E low high)

  pub esc_read_lem : (half : HalfRead) → half.kind ≡ 0 → byte ≡ 0x1B → advance_of half byte ≡ reads_on esc_read
  unfolding advance_of outside_sequence is_control If◌then◌else◌ ◌is◌to◌ ◌and◌ ◌or◌
  esc_read_lem half outside esc = rw (outside, esc)

  pub bracket_read_lem : byte ≡ 0x5B → advance_of esc_read byte ≡ reads_on bracket_read
  unfolding advance_of inside_sequence sequence_read_on is_cancel after_esc If◌then◌else◌ ◌is◌to◌ ◌and◌ ◌or◌
  bracket_read_lem bracket = rw bracket

  pub command_read : (byte is 0x30 to 0x7E) ≡ true → (byte ≡ 0x5B → ⊥) → advance_of esc_read byte ≡ ends (EscCommand byte)
  unfolding after_esc If◌then◌else◌
  command_read command other =
      let range = range_holds byte 0x30 0x7E command in
      let low : 0x20 ≤ byte = omega (arith, range.0) in
      let past : 0x2F < byte = omega (arith, range.0) in
      in_esc low range.1 ∙ rw (lt-leb byte 0x2F past, ne_eqb byte 0x5B other)

-- A byte of a whole command, at a place among bytes.
module _ (bytes arguments : List ℕ) (last at : ℕ) where
  pub over_digit : at + 1 < length bytes → (get_or bytes at 0 is 0x30 to 0x39) ≡ true → (value : ℕ) → value ≡ get_or arguments last 0 * 10 + (get_or bytes at 0 - 0x30) → value ≤ 9999 → read_from (open_sequence arguments (last + 1)) (drop at bytes) at ≡ read_from (open_sequence (set arguments last value) (last + 1)) (drop (at + 1) bytes) (at + 1)
  unfolding is_nothing
  over_digit more digit value sum small =
      let read = digit_read arguments last (get_or bytes at 0) digit (rw (← sum) small) in
      reads_on_lem (open_sequence arguments (last + 1)) bytes at more (rw read) ∙ rw (read, sum)

  pub over_semicolon : at + 1 < length bytes → get_or bytes at 0 ≡ 0x3B → last < 7 → read_from (open_sequence arguments (last + 1)) (drop at bytes) at ≡ read_from (open_sequence arguments (last + 1 + 1)) (drop (at + 1) bytes) (at + 1)
  unfolding is_nothing
  over_semicolon more semicolon few =
      let read = semicolon_read arguments last (get_or bytes at 0) semicolon few in
      reads_on_lem (open_sequence arguments (last + 1)) bytes at more (rw read) ∙ rw read

  pub to_final : at < length bytes → (get_or bytes at 0 is 0x40 to 0x7E) ≡ true → read_from (open_sequence arguments (last + 1)) (drop at bytes) at ≡ record { before = open_sequence arguments (last + 1); after = nothing_read; event = BracketCommand (get_or bytes at 0); end = at + 1 }
  unfolding is_nothing
  to_final here final =
      let read = final_read arguments last (get_or bytes at 0) final in
      reads_to (open_sequence arguments (last + 1)) bytes at here (rw read) ∙ rw read

-- The same right after ESC [, where an argument begins or there is none.
module _ (bytes : List ℕ) (at : ℕ) (here : at < length bytes) where
  pub from_argument : (get_or bytes at 0 is 0x30 to 0x3B) ≡ true → is_nothing (read_from argument_read (drop at bytes) at).event ≡ false → read_from argument_read (drop at bytes) at ≡ read_from bracket_read (drop at bytes) at
  from_argument argument something =
      let read = argument_read_lem (get_or bytes at 0) argument in
      less_or_not (at + 1) (length bytes)
      (λ more. reads_on_lem argument_read bytes at more read.1 ∙ sym (reads_on_lem bracket_read bytes at more (rw read.0 read.1) ∙ rw read.0))
      (λ none.
      let last : at + 1 ≡ length bytes = omega arith in
      absurd (not_both read.1 (sym (ap (λ (r : Reading). is_nothing r.event) (reads_last argument_read bytes at last)) ∙ something)))

  pub to_final_at_once : (get_or bytes at 0 is 0x40 to 0x7E) ≡ true → read_from bracket_read (drop at bytes) at ≡ record { before = bracket_read; after = nothing_read; event = BracketCommand (get_or bytes at 0); end = at + 1 }
  unfolding is_nothing
  to_final_at_once final =
      let read = final_at_once (get_or bytes at 0) final in
      reads_to bracket_read bytes at here (rw read) ∙ rw read

-- From an ESC outside a sequence on.
module _ (half : HalfRead) (outside : half.kind ≡ 0) (bytes : List ℕ) (at : ℕ) (esc : get_or bytes at 0 ≡ 0x1B) where
  over_esc : at + 1 < length bytes → read_from half (drop at bytes) at ≡ read_from esc_read (drop (at + 1) bytes) (at + 1)
  unfolding is_nothing
  over_esc more =
      let read = esc_read_lem (get_or bytes at 0) half outside esc in
      reads_on_lem half bytes at more (rw read) ∙ rw read

  pub over_bracket : at + 1 + 1 < length bytes → get_or bytes (at + 1) 0 ≡ 0x5B → read_from half (drop at bytes) at ≡ read_from bracket_read (drop (at + 1 + 1) bytes) (at + 1 + 1)
  unfolding is_nothing
  over_bracket more bracket =
      let one_more : at + 1 < length bytes = omega arith in
      let read = bracket_read_lem (get_or bytes (at + 1) 0) bracket in
      over_esc one_more ∙ reads_on_lem esc_read bytes (at + 1) more (rw read) ∙ rw read

  pub to_command : at + 1 < length bytes → (get_or bytes (at + 1) 0 is 0x30 to 0x7E) ≡ true → (get_or bytes (at + 1) 0 ≡ 0x5B → ⊥) → read_from half (drop at bytes) at ≡ record { before = esc_read; after = nothing_read; event = EscCommand (get_or bytes (at + 1) 0); end = at + 1 + 1 }
  unfolding is_nothing
  to_command more command other =
      let read = command_read (get_or bytes (at + 1) 0) command other in
      over_esc more ∙ reads_to esc_read bytes (at + 1) more (rw read) ∙ rw read
