-- ESC [ row ; column f, whatever was half read before, puts the cursor there and does nothing else.
use mathlib.Core.Path.{◌≡◌, refl, ap, ◌∙◌}
use mathlib.Core.Bool.{false}
use mathlib.Core.List.{List, [], ◌∷◌}
use Prim.Native.Nat.{ℕ, ◌+◌, ◌-◌, ◌*◌, ◌/◌, ◌%◌, ◌<◌, ◌≤◌}
use native.Mathlib.Omega.{arith}
use borrow.Author.Tests.{ne_eqb, le-leb, le-ltb}
use lib.Dec.{eqb}
use lib.ListN.{get_or, replicate}
use Rattle.words.specs.Choice.{If◌then◌else◌, ◌and◌, ◌or◌, ◌is◌to◌}
use Rattle.words.proofs.Choosing.{then_case, else_case, both_hold, first_fails, second_decides, range_is, either_line, less_or_not}
use Rattle.sequence.specs.declared.HalfRead.{HalfRead}
use Rattle.sequence.specs.declared.Advanced.{Advanced}
use Rattle.sequence.specs.declared.Event.TheVariants.{BracketCommand}
use Rattle.sequence.specs.Record.{nothing_read, esc_read, argument_read, bracket_read, with_digit, with_next_argument}
use Rattle.sequence.specs.Reading.{reads_on, ends, is_control, is_cancel, outside_sequence, after_esc, after_bracket, right_after_bracket, sequence_read_on, inside_sequence, advance_of}
use Rattle.output.specs.Decimal.{decimal, place_bytes}
use Rattle.output.proofs.Digits.{one_digit, two_digits_lem, three_digits}
use Rattle.state.specs.State.{with_cursor, cursor_at, with_half}
use Rattle.steps.specs.Steps.{Terminal, Stepped, goes_to}
use Rattle.table.specs.Table.{allowed, value_of}
use Rattle.table.specs.Moves.{to_place, kept_column, is_move, move_step}
use Rattle.commands.specs.Commands.{listed_step, bracket_step}
use Rattle.commands.specs.Host.{event_step, host_step}
use Rattle.promises.proofs.FeedingRuns.{reading, step_is, reads_on_lem, Leads, arrived, leads_on, leads_then}

-- A byte that is read on.
goes_on : {t end : Terminal} (byte : ℕ) {half : HalfRead} {later : List ℕ} → advance_of t.state.half byte ≡ reads_on half → Leads (reading t half) later end → Leads t (byte ∷ later) end
goes_on {t} byte goes on = leads_on byte (reads_on_lem t byte goes) refl refl on

-- A digit after ESC [.
digit_read : (half : HalfRead) (digit : ℕ) → digit < 10 → after_bracket half (0x30 + digit) ≡ reads_on (with_digit half digit)
unfolding after_bracket
digit_read half digit small =
    let same : 0x30 + digit - 0x30 ≡ digit = omega arith in
    then_case _ _ _ (range_is (0x30 + digit) 0x30 0x39 (omega arith) (omega arith))
    ∙ ap (λ (d : ℕ). reads_on (with_digit half d)) same

digit_inside : (half : HalfRead) (digit : ℕ) → 3 ≤ half.kind → digit < 10 → advance_of half (0x30 + digit) ≡ sequence_read_on half (0x30 + digit)
unfolding advance_of inside_sequence is_cancel
digit_inside half digit bracket small =
    else_case _ _ _ (ne_eqb half.kind 0 (λ e. omega arith))
    ∙ else_case _ _ _ (second_decides _ _ (ne_eqb (0x30 + digit) 0x18 (λ e. omega arith)) ∙ ne_eqb (0x30 + digit) 0x1A (λ e. omega arith))
    ∙ else_case _ _ _ (ne_eqb (0x30 + digit) 0x1B (λ e. omega arith))
    ∙ then_case _ _ _ (range_is (0x30 + digit) 0x20 0x7E (omega arith) (omega arith))

digit_event : (half : HalfRead) (digit : ℕ) → half.kind ≡ 3 → digit < 10 → advance_of half (0x30 + digit) ≡ reads_on (with_digit half digit)
unfolding sequence_read_on
digit_event half digit bracket small =
    digit_inside half digit (omega arith) small
    ∙ else_case _ _ _ (ne_eqb half.kind 1 (λ e. omega arith))
    ∙ else_case _ _ _ (ne_eqb half.kind 2 (λ e. omega arith))
    ∙ else_case _ _ _ (ne_eqb half.kind 4 (λ e. omega arith))
    ∙ else_case _ _ _ (ne_eqb half.kind 5 (λ e. omega arith))
    ∙ digit_read half digit small

-- And right after it: the first argument begins.
first_digit_event : (digit : ℕ) → digit < 10 → advance_of bracket_read (0x30 + digit) ≡ reads_on (with_digit argument_read digit)
unfolding sequence_read_on right_after_bracket If◌then◌else◌
first_digit_event digit small =
    digit_inside bracket_read digit (omega arith) small
    ∙ else_case _ _ _ (ne_eqb (0x30 + digit) 0x3E (λ e. omega arith))
    ∙ digit_read argument_read digit small

-- A number in decimal digits, into an argument that was 0; `half` is the record by that argument's value.
module _ (half : ℕ → HalfRead) (bracket : (value : ℕ) → (half value).kind ≡ 3) (adds : (value digit : ℕ) → value * 10 + digit ≤ 9999 → with_digit (half value) digit ≡ half (value * 10 + digit)) where
  digit_leads : (t : Terminal) {end : Terminal} (value digit : ℕ) {later : List ℕ} → digit < 10 → value * 10 + digit ≤ 9999 → Leads (reading t (half (value * 10 + digit))) later end → Leads (reading t (half value)) ((0x30 + digit) ∷ later) end
  digit_leads t value digit small fits on =
      goes_on (0x30 + digit) (digit_event (half value) digit (bracket value) small ∙ ap reads_on (adds value digit fits)) on

  -- `begun` is the record before its first digit.
  number_leads : (begun : HalfRead) → ((digit : ℕ) → digit < 10 → advance_of begun (0x30 + digit) ≡ reads_on (half (0 * 10 + digit))) → (t : Terminal) (number : ℕ) → number < 1000 → Leads (reading t begun) (decimal number) (reading t (half number))
  number_leads begun first t number small =
      less_or_not number 10
      (λ one. rw (one_digit number one) (first_leads number one (read (0 * 10 + number) (omega arith))))
      (λ more. less_or_not number 100
      (λ two. rw (two_digits_lem number more two)
      (first_leads (number / 10) (omega arith)
      (digit_leads t (0 * 10 + number / 10) (number % 10) (omega arith) (omega arith) (read ((0 * 10 + number / 10) * 10 + number % 10) (omega arith)))))
      (λ three. rw (three_digits number three)
      (first_leads (number / 100) (omega arith)
      (digit_leads t (0 * 10 + number / 100) (number % 100 / 10) (omega arith) (omega arith)
      (digit_leads t ((0 * 10 + number / 100) * 10 + number % 100 / 10) (number % 100 % 10) (omega arith) (omega arith)
      (read (((0 * 10 + number / 100) * 10 + number % 100 / 10) * 10 + number % 100 % 10) (omega arith)))))))
    where
      first_leads : {end : Terminal} (digit : ℕ) {later : List ℕ} → digit < 10 → Leads (reading t (half (0 * 10 + digit))) later end → Leads (reading t begun) ((0x30 + digit) ∷ later) end
      first_leads digit few on = goes_on (0x30 + digit) (first digit few) on

      read : (value : ℕ) → value ≡ number → Leads (reading t (half value)) [] (reading t (half number))
      read value same = arrived (ap (λ (v : ℕ). reading t (half v)) same)

-- The record while the row is read, and while the column is.
abbrev row_read : ℕ → HalfRead
row_read row = record { kind = 3; arguments = row ∷ replicate 7 0; count = 1; spoilt = false }

abbrev column_read : ℕ → ℕ → HalfRead
column_read row column = record { kind = 3; arguments = row ∷ column ∷ replicate 6 0; count = 2; spoilt = false }

row_adds : (value digit : ℕ) → value * 10 + digit ≤ 9999 → with_digit (row_read value) digit ≡ row_read (value * 10 + digit)
unfolding with_digit If◌then◌else◌
row_adds value digit fits = else_case _ _ _ (le-ltb _ _ fits)

column_adds : (row value digit : ℕ) → value * 10 + digit ≤ 9999 → with_digit (column_read row value) digit ≡ column_read row (value * 10 + digit)
unfolding with_digit
column_adds row value digit fits = else_case _ _ _ refl ∙ else_case _ _ _ (le-ltb _ _ fits)

-- The bytes around the numbers.
pub esc_event : (half : HalfRead) → advance_of half 0x1B ≡ reads_on esc_read
unfolding advance_of outside_sequence inside_sequence is_control is_cancel If◌then◌else◌ ◌or◌ ◌is◌to◌ ◌and◌
esc_event half = either_line (λ (a : Advanced). a ≡ reads_on esc_read) (eqb half.kind 0) _ _ (λ _. refl) (λ _. refl)

bracket_event : advance_of esc_read 0x5B ≡ reads_on bracket_read
unfolding advance_of inside_sequence sequence_read_on is_cancel after_esc If◌then◌else◌ ◌or◌ ◌is◌to◌ ◌and◌
bracket_event = refl

semicolon_event : (row : ℕ) → advance_of (row_read row) 0x3B ≡ reads_on (column_read row 0)
unfolding advance_of inside_sequence sequence_read_on is_cancel after_bracket with_next_argument If◌then◌else◌ ◌or◌ ◌is◌to◌ ◌and◌
semicolon_event row = refl

final_event : (row column : ℕ) → advance_of (column_read row column) 0x66 ≡ ends (BracketCommand 0x66)
unfolding advance_of inside_sequence sequence_read_on is_cancel after_bracket If◌then◌else◌ ◌or◌ ◌is◌to◌ ◌and◌
final_event row column = refl

-- HVP with a row and a column on the page.
abbrev placing : Terminal → ℕ → ℕ → Stepped
placing t row column = goes_to (with_cursor (with_half t.state nothing_read) (cursor_at row column)) t

abbrev pub placed_at : Terminal → ℕ → ℕ → Terminal
placed_at t row column = (placing t row column).terminal

value_is : (final : ℕ) (arguments : List ℕ) (i : ℕ) → 1 ≤ get_or arguments i 0 → value_of final arguments i ≡ get_or arguments i 0
unfolding value_of
value_is final arguments i some = else_case _ _ _ (ne_eqb (get_or arguments i 0) 0 (λ e. omega arith))

module _ (t : Terminal) (row column : ℕ) (some_row : 1 ≤ row) (row_fits : row ≤ t.state.size.rows) (some_column : 1 ≤ column) (column_fits : column ≤ t.state.size.columns) where
  goes_there : to_place 0x66 row column (reading t nothing_read) ≡ placing t row column
  unfolding to_place
  goes_there = then_case _ _ _ (both_hold _ _ (le-leb _ _ row_fits) (le-leb _ _ column_fits))

  column_kept : (second present : ℕ) → kept_column row column second present ≡ second
  unfolding kept_column
  column_kept second present = else_case _ _ _ (first_fails _ _ (ne_eqb column 0 (λ e. omega arith)))

  final_acts : bracket_step 0x66 (column_read row column) (reading t nothing_read) ≡ placing t row column
  unfolding bracket_step is_move move_step listed_step allowed If◌then◌else◌ ◌or◌ ◌is◌to◌ ◌and◌
  final_acts =
      let arguments = (column_read row column).arguments in
      rw (column_kept, value_is 0x66 arguments 0 some_row, value_is 0x66 arguments 1 some_column) goes_there

  final_step : host_step 0x66 (reading t (column_read row column)) ≡ placing t row column
  unfolding event_step
  final_step = step_is (reading t (column_read row column)) 0x66 (final_event row column) final_acts

  pub place_leads : row < 1000 → column < 1000 → Leads t (place_bytes row column 0x66) (placed_at t row column)
  unfolding place_bytes
  place_leads small narrow =
      goes_on 0x1B (esc_event t.state.half)
      (goes_on 0x5B bracket_event
      (leads_then (number_leads row_read (λ _. refl) row_adds bracket_read (λ digit few. first_digit_event digit few ∙ ap reads_on (row_adds 0 digit (omega arith))) t row small)
      (goes_on 0x3B (semicolon_event row)
      (leads_then (number_leads (column_read row) (λ _. refl) (column_adds row) (column_read row 0) (λ digit few. digit_event (column_read row 0) digit refl few ∙ ap reads_on (column_adds row 0 digit (omega arith))) t column narrow)
      (leads_on 0x66 final_step refl refl (arrived refl))))))
