-- Every line of every table is sound, so every table is. The proofs follow the definitions line by line.
use mathlib.Core.Path.{◌≡◌, refl, sym, ap, ◌∙◌}
use mathlib.Core.Bool.{Bool, true, false}
use mathlib.Core.List.{List}
use Prim.Native.Nat.{ℕ, ◌+◌, ◌*◌, ◌<◌, ◌≤◌}
use native.Mathlib.Nat.{mul-le-mul_right}
use native.Mathlib.Omega.{arith}
use borrow.Author.Tests.{leb-true, eqb-true}
use lib.Dec.{eqb}
use lib.ListN.{length, take}
use Rattle.words.specs.Choice.{If◌then◌else◌}
use Rattle.words.proofs.Choosing.{true_is_not_false, either_line, both}
use Rattle.sequence.specs.declared.HalfRead.{HalfRead}
use Rattle.sequence.specs.declared.Reason.{Reason}
use Rattle.sequence.specs.declared.Reason.TheVariants.{UnknownCommand, WrongArguments, BrokenSequence}
use Rattle.sequence.specs.declared.Event.{Event}
use Rattle.sequence.specs.declared.Event.TheVariants.{Nothing, Text, Control, EscCommand, BracketCommand, PrivateCommand, Refused}
use Rattle.sequence.specs.Range.{argument_of}
use Rattle.sequence.specs.Reading.{advance_of}
use Rattle.sequence.proofs.Keeping.{advance_keeps}
use Rattle.page.specs.Marks.{valid_character}
use Rattle.page.specs.Page.{Page, cells}
use Rattle.blocks.specs.Blocks.{block}
use Rattle.blocks.proofs.Claims.{IsReport}
use Rattle.blocks.proofs.Finding.{ready_is_report, cursor_is_report}
use Rattle.state.specs.declared.State.{State}
use Rattle.state.specs.State.{OnPage, with_half, refused}
use Rattle.state.specs.Moves.{down_by, to_margin}
use Rattle.state.specs.Pen.{valid_pen}
use Rattle.state.proofs.Keeping.{KeepsValid, size_bounds, on_page, parts, up_keeps_valid, down_keeps_valid, right_keeps_valid, left_keeps_valid, margin_keeps_valid, next_cell_keeps_valid, cursor_keeps_valid, tab_on_keeps_valid, tab_back_keeps_valid, stop_set_keeps_valid, stop_cleared_keeps_valid, stops_cleared_keeps_valid, pen_keeps_valid, erasure_keeps_valid, full_keeps_valid, disabled_keeps_valid, enabled_keeps_valid, half_keeps_valid, fresh_valid}
use Rattle.steps.specs.Steps.{Terminal, silent, report, full_block, block_transmission, Stepped, with_state, goes_to, stores, sends, refusing, cursor_cell, Valid, row_start}
use Rattle.steps.specs.Claims.{mark_left, Refusal}
use Rattle.steps.proofs.Storing.{Stored, text_stored_lem, blank_stored, up_stored, down_stored, erasing_stored}
use Rattle.steps.proofs.Transmissions.{silent_is_no_full, silent_is_no_changed, silent_is_no_report, report_is_no_full, report_is_no_changed, full_is_no_changed, same_report, same_full, block_is_no_report}
use Rattle.steps.proofs.Soundness.{Sound, Sized, sized, row_on_page, cursor_on_page, goes_soundly, refuses_soundly, stores_soundly, reports_soundly, clears_soundly}
use Rattle.table.specs.Table.{allowed, value_of}
use Rattle.commands.specs.Text.{text_step, line_down, line_up, next_line, control_step}
use Rattle.commands.specs.Commands.{fresh_step, esc_step, erasing, erase_part, listed_step, bracket_step}
use Rattle.sending.specs.Sending.{send_block, ready_report, cursor_report, status_report}
use Rattle.table.specs.Moves.{to_column, to_row, to_place, move_step}
use Rattle.table.specs.PrivateForms.{private_step}
use Rattle.table.specs.Settings.{tab_control, is_area, area_set, area_qualified, rendition, set_mode}
use Rattle.commands.specs.Host.{event_step, host_step}
use Rattle.commands.proofs.Claims.{EndsEscS, Stores, no_cell, text_cell, erased-cells, all_cells_lem, HostSound, EventSound}
use Rattle.table.proofs.Pens.{area_keeps_pen, one_is_area, zero_is_area, pen_after_all_keeps_pen}
use Rattle.commands.proofs.Values.{some_value, zero_is_one, some_column}
use Rattle.sequence.proofs.Events.{Tells, event_tells}

then_keeps : {before between after : State} → KeepsValid before between → KeepsValid between after → KeepsValid before after
then_keeps first second = record { size = second.size ∙ first.size; valid = second.valid }

module _ (Asked : Type 0) (byte : ℕ) (t : Terminal) (valid : Valid t) where
  abbrev Holds : Stepped → Type 0
  Holds step = EventSound Asked byte t step

  line : {test : Bool} {a b : Stepped} → (test ≡ true → Holds a) → Holds b → Holds (If test then a else b)
  line {test} {a} {b} first rest = either_line Holds test a b first (λ _. rest)

  -- The kinds of steps.
  silently : {step : Stepped} → step.transmission ≡ silent → Stores t step.cells → Sound t step → HostSound Asked t step
  silently {step} e stored sound = record {
    sound = sound;
    stored = stored;
    by_full_block = λ bytes f. absurd (silent_is_no_full bytes (cc));
    no_changed_block = λ bytes f. silent_is_no_changed bytes (cc);
    is_report = λ bytes f. absurd (silent_is_no_report bytes (cc));
  }

  done : {step : Stepped} → HostSound Asked t step → step.was_refused ≡ false → Holds step
  done holds e = record { host = holds; refusal = λ was. absurd (true_is_not_false (sym was ∙ e)) }

  goes : (s : State) → KeepsValid t.state s → Holds (goes_to s t)
  goes s keeps = done (silently refl no_cell (goes_soundly t valid s keeps)) refl

  -- At a byte that is this one.
  refuses : (reason : Reason) {at : ℕ} → byte ≡ at → Holds (refusing reason at t)
  refuses reason {at} here = record {
    host = silently refl no_cell (refuses_soundly t valid reason at);
    refusal = λ _. record { reason = reason; is = ap (λ (b : ℕ). refusing reason b t) (sym here) };
  }

  puts : {cells : List ℕ} {unlocks : Bool} {s : State} {page : Page} → Stores t cells → KeepsValid t.state s → Stored t.page cells unlocks page → Holds (stores cells unlocks s page)
  puts {cells} {unlocks} {s} {page} names keeps stored = done (silently refl names (stores_soundly t valid cells unlocks s page keeps stored)) refl

  reports : (said : List ℕ) → IsReport said → Holds (sends (report said) t.state t.page)
  reports said is = done (record {
    sound = reports_soundly t valid said;
    stored = no_cell;
    by_full_block = λ bytes e. absurd (report_is_no_full said bytes e);
    no_changed_block = λ bytes e. report_is_no_changed said bytes e;
    is_report = λ bytes e. rw (same_report said bytes e) is;
  }) refl

  full_block_holds : Asked → Holds (send_block true t)
  unfolding send_block block_transmission mark_left
  full_block_holds asked = let said = block true t.state.size.columns t.page in done (record {
    sound = clears_soundly t valid (full_block said) (λ mark. refl);
    stored = no_cell;
    by_full_block = λ bytes e. record { asked = asked; of_page = same_full said bytes e; no_cell = refl };
    no_changed_block = λ bytes e. full_is_no_changed said bytes e;
    is_report = λ bytes e. absurd (block_is_no_report said bytes true e);
  }) refl

  -- What is known of a valid terminal.
  stays : KeepsValid t.state t.state
  stays = record { size = refl; valid = valid.state }

  page_size : Sized t.state.size t.page
  page_size = sized t.state.size t.page valid.size

  cursor : OnPage t.state
  cursor = on_page t.state page_size.listed valid.state

  same_lengths : length t.page.marks ≡ cells t.page
  same_lengths = let size = page_size in omega arith

  row_fits : t.state.size.columns ≤ length t.page.characters
  row_fits =
      let size = page_size in
      let bounds = size_bounds t.state.size size.listed in
      let one : 1 * t.state.size.columns ≤ t.state.size.rows * t.state.size.columns = mul-le-mul_right t.state.size.columns bounds.some_rows in
      omega arith

  -- Text and control bytes.
  pub text_holds : (character : ℕ) → valid_character character ≡ true → Holds (text_step character t)
  unfolding text_step valid_pen
  text_holds character p =
      puts text_cell (next_cell_keeps_valid t.state valid.state)
      (text_stored_lem t.page valid.page (cursor_cell t.state) character t.state.modes.pen (cursor_on_page t valid) p (both (parts t.state valid.state).pen).0)

  line_down_holds : (s : State) → KeepsValid t.state s → Holds (line_down (with_state t s))
  unfolding line_down
  line_down_holds s keeps =
      line (λ _. goes (down_by 1 s) (then_keeps keeps (down_keeps_valid s keeps.valid 1)))
      (puts all_cells_lem keeps (up_stored t.page valid.page same_lengths s.size.columns (rw keeps.size row_fits)))

  line_up_holds : Holds (line_up t)
  unfolding line_up
  line_up_holds =
      line (λ _. goes _ (up_keeps_valid t.state valid.state 1))
      (puts all_cells_lem stays (down_stored t.page valid.page same_lengths t.state.size.columns row_fits))

  control_holds : (control : ℕ) → Holds (control_step control t)
  unfolding control_step
  control_holds control =
      line (λ _. goes _ (left_keeps_valid t.state valid.state 1))
      (line (λ _. goes _ (tab_on_keeps_valid t.state valid.state 1))
      (line (λ _. line_down_holds t.state stays)
      (goes _ (margin_keeps_valid t.state valid.state))))

  -- Commands after ESC.
  fresh_holds : Holds (fresh_step t)
  unfolding fresh_step
  fresh_holds =
      puts all_cells_lem (record { size = refl; valid = fresh_valid t.state.size page_size.listed })
      (blank_stored t.page valid.page same_lengths)

  area_set_holds : (value : ℕ) → is_area t.state.modes.pen value ≡ true → Holds (area_set value t)
  unfolding area_set
  area_set_holds value taken =
      goes _ (pen_keeps_valid t.state valid.state _ (area_keeps_pen value t.state.modes.pen taken (parts t.state valid.state).pen))

  esc_holds : (command : ℕ) → byte ≡ command → (command ≡ 0x53 → Asked) → Holds (esc_step command t)
  unfolding esc_step next_line
  esc_holds command here asked =
      let s = t.state in
      let ok = valid.state in
      line (λ _. line_down_holds s stays)
      (line (λ _. line_down_holds (to_margin s) (margin_keeps_valid s ok))
      (line (λ _. line_up_holds)
      (line (λ _. goes _ (stop_set_keeps_valid s ok))
      (line (λ _. area_set_holds 1 (one_is_area _))
      (line (λ _. area_set_holds 0 (zero_is_area _))
      (line (λ e. full_block_holds (asked (eqb-true command 0x53 e)))
      (line (λ _. fresh_holds)
      (line (λ _. goes _ (disabled_keeps_valid s ok))
      (line (λ _. goes _ (enabled_keeps_valid s ok)) (refuses UnknownCommand here))))))))))

  -- Commands after ESC [, where the row or column is 1 at least.
  column_holds : (column : ℕ) → 1 ≤ column → Holds (to_column column t)
  unfolding to_column
  column_holds column h =
      let here = cursor in
      line (λ e. goes _ (cursor_keeps_valid t.state valid.state t.state.cursor.row column (here.row_least, here.row_most) (h, leb-true column t.state.size.columns e)))
      (goes _ stays)

  row_holds : (final : ℕ) → byte ≡ final → (row : ℕ) → 1 ≤ row → Holds (to_row final row t)
  unfolding to_row
  row_holds final ends row h =
      let here = cursor in
      line (λ e. goes _ (cursor_keeps_valid t.state valid.state row t.state.cursor.column (h, leb-true row t.state.size.rows e) (here.column_least, here.column_most)))
      (refuses WrongArguments ends)

  place_holds : (final : ℕ) → byte ≡ final → (row column : ℕ) → 1 ≤ row → 1 ≤ column → Holds (to_place final row column t)
  unfolding to_place
  place_holds final ends row column h k =
      line (λ e. goes _ (cursor_keeps_valid t.state valid.state row column (h, leb-true row t.state.size.rows (both e).0) (k, leb-true column t.state.size.columns (both e).1)))
      (refuses WrongArguments ends)

  tab_control_holds : (final : ℕ) → byte ≡ final → (what : ℕ) → Holds (tab_control final what t)
  unfolding tab_control
  tab_control_holds final ends what =
      line (λ _. goes _ (stop_set_keeps_valid t.state valid.state))
      (line (λ _. goes _ (stop_cleared_keeps_valid t.state valid.state))
      (line (λ _. goes _ (stops_cleared_keeps_valid t.state valid.state)) (refuses WrongArguments ends)))

  -- Erasing a range that has the cursor's cell.
  erasing_holds : (from to : ℕ) → from ≤ to → to ≤ length t.page.marks → Holds (erasing from to t)
  unfolding erasing
  erasing_holds from to h fits = puts (erased-cells from to) stays (erasing_stored t.page valid.page same_lengths t.state.modes.erasure from to h fits)

  erase_part_holds : (final : ℕ) → byte ≡ final → (what first end : ℕ) → first ≤ cursor_cell t.state → cursor_cell t.state < end → end ≤ length t.page.marks → Holds (erase_part final what first end t)
  unfolding erase_part
  erase_part_holds final ends what first end low high fits =
      line (λ _. erasing_holds (cursor_cell t.state) end (omega arith) fits)
      (line (λ _. erasing_holds first (cursor_cell t.state + 1) (omega arith) (omega arith))
      (line (λ _. erasing_holds first end (omega arith) fits) (refuses WrongArguments ends)))

  row_erased_holds : (final : ℕ) → byte ≡ final → (what : ℕ) → Holds (erase_part final what (row_start t.state) (row_start t.state + t.state.size.columns) t)
  row_erased_holds final ends what =
      let here = cursor in
      let row = row_on_page t valid in
      erase_part_holds final ends what (row_start t.state) (row_start t.state + t.state.size.columns) (omega arith) (omega arith) (omega arith)

  area_holds : (final : ℕ) → byte ≡ final → (value : ℕ) → Holds (area_qualified final value t)
  unfolding area_qualified
  area_holds final ends value = line (λ taken. area_set_holds value taken) (refuses WrongArguments ends)

  rendition_holds : (final : ℕ) → byte ≡ final → (values : List ℕ) → Holds (rendition final values t)
  unfolding rendition
  rendition_holds final ends values =
      line (λ _. goes _ (pen_keeps_valid t.state valid.state _ (pen_after_all_keeps_pen values t.state.modes.pen (parts t.state valid.state).pen))) (refuses WrongArguments ends)

  mode_holds : (final : ℕ) → byte ≡ final → (on : Bool) (values : List ℕ) → Holds (set_mode final on values t)
  unfolding set_mode
  mode_holds final ends on values = line (λ _. goes _ (erasure_keeps_valid t.state valid.state on)) (refuses WrongArguments ends)

  status_holds : (final : ℕ) → byte ≡ final → (what : ℕ) → Holds (status_report final what t)
  unfolding status_report ready_report cursor_report
  status_holds final ends what =
      let here = cursor in
      let bounds = size_bounds t.state.size page_size.listed in
      line (λ _. reports _ ready_is_report)
      (line (λ _. reports _ (cursor_is_report t.state.cursor.row t.state.cursor.column (omega arith) (omega arith))) (refuses WrongArguments ends))

  move_holds : (final : ℕ) → byte ≡ final → (arguments : List ℕ) → Holds (move_step final arguments t)
  unfolding move_step
  move_holds final ends arguments =
      let s = t.state in
      let ok = valid.state in
      let here = cursor in
      let n = value_of final arguments 0 in
      let some : (command i : ℕ) → eqb final command ≡ true → (allowed command).zero_is ≡ 1 → 1 ≤ value_of final arguments i = λ command i. some_value final command arguments i in
      line (λ _. goes _ (up_keeps_valid s ok n))
      (line (λ _. goes _ (down_keeps_valid s ok n))
      (line (λ _. goes _ (right_keeps_valid s ok n))
      (line (λ _. goes _ (left_keeps_valid s ok n))
      (line (λ _. let down = down_keeps_valid s ok n in goes _ (then_keeps down (margin_keeps_valid _ down.valid)))
      (line (λ _. let up = up_keeps_valid s ok n in goes _ (then_keeps up (margin_keeps_valid _ up.valid)))
      (line (λ e. column_holds _ (some 0x47 0 e zero_is_one.0))
      (line (λ e. row_holds final ends _ (some 0x64 0 e zero_is_one.1))
      (line (λ e. place_holds final ends _ _ (some 0x48 0 e zero_is_one.2) (some 0x48 1 e zero_is_one.2))
      (line (λ e. place_holds final ends _ _ (some 0x66 0 e zero_is_one.3) (some_column _ _ _ _ (some 0x66 1 e zero_is_one.3) here.column_least))
      (line (λ _. goes _ (tab_on_keeps_valid s ok n)) (goes _ (tab_back_keeps_valid s ok n))))))))))))

  listed_holds : (final : ℕ) → byte ≡ final → (arguments : List ℕ) (count : ℕ) → Holds (listed_step final arguments count t)
  unfolding listed_step
  listed_holds final ends arguments count =
      let n = value_of final arguments 0 in
      line (λ _. move_holds final ends arguments)
      (line (λ _. tab_control_holds final ends n)
      (line (λ _. erase_part_holds final ends n 0 (cells t.page) (omega arith) (rw (← same_lengths) (cursor_on_page t valid)) (rw same_lengths (omega arith)))
      (line (λ _. row_erased_holds final ends n)
      (line (λ _. area_holds final ends n)
      (line (λ _. rendition_holds final ends (take count arguments))
      (line (λ _. mode_holds final ends true (take count arguments))
      (line (λ _. mode_holds final ends false (take count arguments)) (status_holds final ends n))))))))

  private_holds : (final : ℕ) → byte ≡ final → (argument : ℕ) → Holds (private_step final argument t)
  unfolding private_step
  private_holds final ends argument =
      line (λ _. goes _ (full_keeps_valid t.state valid.state false))
      (line (λ _. goes _ (full_keeps_valid t.state valid.state true)) (refuses BrokenSequence ends))

  bracket_holds : (final : ℕ) → byte ≡ final → (half : HalfRead) → Holds (bracket_step final half t)
  unfolding bracket_step
  bracket_holds final ends half =
      line (λ _. refuses UnknownCommand ends)
      (line (λ _. refuses WrongArguments ends) (listed_holds final ends half.arguments half.count))

-- What an event does; only ESC S asks for a full block.
event_holds : (half : HalfRead) (byte : ℕ) (event : Event) (t : Terminal) → Valid t → Tells half byte event → EventSound (EndsEscS half byte) byte t (event_step half event t)
unfolding event_step Tells
event_holds half byte Nothing t valid _ = goes (EndsEscS half byte) byte t valid t.state (stays (EndsEscS half byte) byte t valid)
event_holds half byte (Text character) t valid is = text_holds (EndsEscS half byte) byte t valid character is
event_holds half byte (Control control) t valid _ = control_holds (EndsEscS half byte) byte t valid control
event_holds half byte (EscCommand command) t valid came = esc_holds (EndsEscS half byte) byte t valid command came.1 (λ e. (came.0, came.1 ∙ e))
event_holds half byte (BracketCommand final) t valid came = bracket_holds (EndsEscS half byte) byte t valid final came.2 half
event_holds half byte (PrivateCommand final) t valid came = private_holds (EndsEscS half byte) byte t valid final came.1 (argument_of half 0)
event_holds half byte (Refused reason at) t valid here = refuses (EndsEscS half byte) byte t valid reason here

-- The claims say nothing of the half-read record before.
whatever_half_stores : (t : Terminal) (half : HalfRead) {cells : List ℕ} → Stores (with_state t (with_half t.state half)) cells → Stores t cells
whatever_half_stores t half no_cell = no_cell
whatever_half_stores t half text_cell = text_cell
whatever_half_stores t half (erased-cells from to) = erased-cells from to
whatever_half_stores t half all_cells_lem = all_cells_lem

whatever_half_read : (Asked : Type 0) (t : Terminal) (half : HalfRead) (step : Stepped) → HostSound Asked (with_state t (with_half t.state half)) step → HostSound Asked t step
whatever_half_read Asked t half step holds = let sound = holds.sound in record {
  sound = record {
    valid = sound.valid;
    size = sound.size;
    touches = sound.touches;
    once = sound.once;
    protection = sound.protection;
  };
  stored = whatever_half_stores t half holds.stored;
  by_full_block = λ bytes e. let full = holds.by_full_block bytes e in record { asked = full.asked; of_page = full.of_page; no_cell = full.no_cell };
  no_changed_block = holds.no_changed_block;
  is_report = holds.is_report;
}

-- What is left of a refused command, which did nothing else.
refusal_left : (reason : Reason) (byte : ℕ) (t : Terminal) (half : HalfRead) → Refusal byte t (refusing reason byte (with_state t (with_half t.state half)))
unfolding refused
refusal_left reason byte t half = record {
  soft_lock = refl;
  reason = reason;
  message = refl;
  byte_kept = refl;
  manual_lock = refl;
  page = refl;
  size = refl;
  cursor = refl;
  modes = refl;
  stops = refl;
  nothing_sent = refl;
  no_cell = refl;
}

-- The event of a byte, on the terminal whose half-read record is advanced.
module _ (byte : ℕ) (t : Terminal) (valid : Valid t) where
  abbrev next : Terminal
  next = with_state t (with_half t.state (advance_of t.state.half byte).half)

  byte_holds : EventSound (EndsEscS t.state.half byte) byte next (event_step t.state.half (advance_of t.state.half byte).event next)
  byte_holds =
      let keeps = half_keeps_valid t.state valid.state next.state.half (advance_keeps t.state.half byte (parts t.state valid.state).half) in
      let still : Valid next = record { size = valid.size; state = keeps.valid; page = valid.page } in
      event_holds t.state.half byte _ next still (event_tells t.state.half byte)

  pub host_holds : HostSound (EndsEscS t.state.half byte) t (host_step byte t)
  unfolding host_step
  host_holds = whatever_half_read _ t next.state.half _ byte_holds.host

  pub host_refusal : (host_step byte t).was_refused ≡ true → Refusal byte t (host_step byte t)
  unfolding host_step
  host_refusal was = let refusal = byte_holds.refusal was in rw refusal.is (refusal_left refusal.reason byte t next.state.half)
