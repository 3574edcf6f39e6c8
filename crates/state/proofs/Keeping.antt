-- What the tests of a state tell, and that every change of it leaves a valid state and the page's size.
use mathlib.Core.Path.{◌≡◌, refl, ap, ◌∙◌}
use mathlib.Core.Bool.{Bool, true, false, not}
use mathlib.Core.List.{List}
use mathlib.Core.Logic.{◌⊎◌, inl, inr, ⊎_elim}
use Prim.Native.Nat.{ℕ, zero, suc, ◌-◌, ◌<◌, ◌≤◌}
use native.Mathlib.Omega.{arith}
use borrow.Author.Tests.{ltb-true, leb-true, eqb-true, not-true}
use lib.Dec.{eqb}
use lib.ListN.{set, replicate}
use lib.Seq.{drop-set-lt}
use Rattle.words.specs.Choice.{If◌then◌else◌, ◌and◌, ◌or◌}
use Rattle.words.specs.Lists.{every}
use Rattle.words.proofs.Choosing.{either_line, both, both_hold, one_holds, range_holds, range_is}
use Rattle.sequence.specs.declared.HalfRead.{HalfRead}
use Rattle.sequence.specs.declared.Reason.{Reason}
use Rattle.sequence.specs.declared.Reason.TheVariants.{UnknownCommand, WrongArguments, BrokenSequence, HighByte}
use Rattle.sequence.specs.Record.{valid_half_read}
use Rattle.sequence.proofs.Keeping.{nothing_valid}
use Rattle.page.specs.Marks.{is_protected, is_modified, valid_mark}
use Rattle.page.proofs.Bits.{StayOutside, lower_bit, set_others}
use Rattle.page.proofs.Valid.{kinds_fit, plain_fits, protected_fits, numeric_fits, alphabetic_fits, required_fits, valid_mark_lem, valid_from}
use Rattle.page.proofs.Keeping.{mark_stays_valid, no_mark_valid}
use Rattle.state.specs.declared.Size.{Size}
use Rattle.state.specs.declared.Cursor.{Cursor}
use Rattle.state.specs.declared.Locks.{Locks}
use Rattle.state.specs.declared.State.{State}
use Rattle.state.specs.State.{OnPage, with_cursor, cursor_at, with_locks, with_stops, with_half, no_locks, fresh_state, message_of, refused, input_disabled, input_enabled, unlocked}
use Rattle.state.specs.Moves.{back_by, on_by, up_by, down_by, right_by, left_by, to_margin, to_next_cell}
use Rattle.state.specs.Tabs.{stop_set, stop_cleared, stops_cleared, stops_on, stops_back, tabbed_on, tabbed_back}
use Rattle.state.specs.Pen.{pen_unprotected, pen_protected, pen_numeric, pen_alphabetic, pen_required, pen_plain, pen_bold, pen_underlined, pen_blinking, pen_reversed, pen_concealed, valid_pen, with_pen, with_erasure, with_full}
use Rattle.state.specs.Tests.{listed_rows, listed_columns, listed_size, cursor_fits, stops_fit, valid_message, valid_state}
use Rattle.state.proofs.Laws.{OneTo, right_within, left_within}
use Rattle.state.proofs.Pens.{HasKind, plain_outside, unprotected_kind, protected_kind, numeric_kind, alphabetic_kind, required_kind}

-- A listed size, number by number, and its bounds.
one_of : (n a b c : ℕ) → (eqb n a or eqb n b or eqb n c) ≡ true → (n ≡ a) ⊎ (n ≡ b) ⊎ (n ≡ c)
one_of n a b c p =
    ⊎_elim (λ q. inl (eqb-true n a q)) (λ q. inr (⊎_elim (λ r. inl (eqb-true n b r)) (λ r. inr (eqb-true n c r)) (one_holds q))) (one_holds p)

pub rows_listed : (rows : ℕ) → listed_rows rows ≡ true → (rows ≡ 24) ⊎ (rows ≡ 27) ⊎ (rows ≡ 48)
unfolding listed_rows
rows_listed rows p = one_of rows 24 27 48 p

pub columns_listed : (columns : ℕ) → listed_columns columns ≡ true → (columns ≡ 80) ⊎ (columns ≡ 132) ⊎ (columns ≡ 160)
unfolding listed_columns
columns_listed columns p = one_of columns 80 132 160 p

pub record SizeBounds (size : Size) : Type 0 where
  pub some_rows : 0 < size.rows
  pub rows_most : size.rows ≤ 48
  pub some_columns : 0 < size.columns
  pub columns_most : size.columns ≤ 160

pub size_bounds : (size : Size) → listed_size size ≡ true → SizeBounds size
unfolding listed_size
size_bounds size p =
    let rows : OneTo 48 size.rows =
    ⊎_elim (λ e. (omega arith, omega arith)) (⊎_elim (λ e. (omega arith, omega arith)) (λ e. (omega arith, omega arith))) (rows_listed size.rows (both p).0) in
    let columns : OneTo 160 size.columns =
    ⊎_elim (λ e. (omega arith, omega arith)) (⊎_elim (λ e. (omega arith, omega arith)) (λ e. (omega arith, omega arith))) (columns_listed size.columns (both p).1) in
    record { some_rows = rows.0; rows_most = rows.1; some_columns = columns.0; columns_most = columns.1 }

-- No message has no byte, and every reason has a message.
no_message : valid_message no_locks ≡ true
unfolding valid_message If◌then◌else◌
no_message = refl

reason_has_message : (reason : Reason) (manual : Bool) (byte : ℕ) → valid_message (record { manual = manual; soft = true; message = message_of reason; byte = byte }) ≡ true
unfolding valid_message message_of If◌then◌else◌
reason_has_message UnknownCommand manual byte = refl
reason_has_message WrongArguments manual byte = refl
reason_has_message BrokenSequence manual byte = refl
reason_has_message HighByte manual byte = refl

-- The five tests of a valid state.
pub record Parts (s : State) : Type 0 where
  pub cursor : cursor_fits s.size s.cursor ≡ true
  pub stops : stops_fit s.size.columns s.stops ≡ true
  pub pen : valid_pen s.modes.pen ≡ true
  pub message : valid_message s.locks ≡ true
  pub half : valid_half_read s.half ≡ true

module _ (s : State) where
  pub parts : valid_state s ≡ true → Parts s
  unfolding valid_state
  parts p =
      let after-cursor = both p in
      let after-stops = both after-cursor.1 in
      let after-pen = both after-stops.1 in
      let last = both after-pen.1 in
      record { cursor = after-cursor.0; stops = after-stops.0; pen = after-pen.0; message = last.0; half = last.1 }

  whole : cursor_fits s.size s.cursor ≡ true → stops_fit s.size.columns s.stops ≡ true → valid_pen s.modes.pen ≡ true → valid_message s.locks ≡ true → valid_half_read s.half ≡ true → valid_state s ≡ true
  unfolding valid_state
  whole cursor stops pen message half = both_hold _ _ cursor (both_hold _ _ stops (both_hold _ _ pen (both_hold _ _ message half)))

-- The cursor's row and column.
module _ (size : Size) (cursor : Cursor) where
  pub row_range : cursor_fits size cursor ≡ true → OneTo size.rows cursor.row
  unfolding cursor_fits
  row_range p = range_holds _ _ _ (both p).0

  pub column_range : cursor_fits size cursor ≡ true → OneTo size.columns cursor.column
  unfolding cursor_fits
  column_range p = range_holds _ _ _ (both p).1

  in_range : OneTo size.rows cursor.row → OneTo size.columns cursor.column → cursor_fits size cursor ≡ true
  unfolding cursor_fits
  in_range row column = both_hold _ _ (range_is _ _ _ row.0 row.1) (range_is _ _ _ column.0 column.1)

pub on_page : (s : State) → listed_size s.size ≡ true → valid_state s ≡ true → OnPage s
on_page s listed valid =
    let size = size_bounds s.size listed in
    let fits = (parts s valid).cursor in
    let row = row_range s.size s.cursor fits in
    let column = column_range s.size s.cursor fits in
    record {
      row_least = row.0;
      row_most = row.1;
      rows_most = size.rows_most;
      column_least = column.0;
      column_most = column.1;
      columns_most = size.columns_most;
    }

-- Where moves end.
back_within : (n last at : ℕ) → OneTo last at → OneTo last (back_by at n)
unfolding back_by
back_within n last at h = either_line (OneTo last) _ _ _ (λ t. let less = ltb-true n at t in (omega arith, omega arith)) (λ _. (omega arith, omega arith))

on_within : (n last at : ℕ) → OneTo last at → OneTo last (on_by at n last)
unfolding on_by
on_within n last at h = either_line (OneTo last) _ _ _ (λ t. let room = leb-true n (last - at) t in (omega arith, omega arith)) (λ _. (omega arith, omega arith))

module _ (stops : List Bool) (last : ℕ) where
  stops_on_within : (n column : ℕ) → OneTo last column → OneTo last (stops_on stops last column n)
  unfolding stops_on
  stops_on_within zero column h = h
  stops_on_within (suc n) column h = stops_on_within n _ (right_within stops last (last - column) column h.0 (omega arith))

  stops_back_within : (n column : ℕ) → OneTo last column → OneTo last (stops_back stops column n)
  unfolding stops_back
  stops_back_within zero column h = h
  stops_back_within (suc n) column h = stops_back_within n _ (left_within stops last column h)

-- A page with no stops has none past the last column.
no_stops_fit : (columns n : ℕ) → stops_fit columns (replicate n false) ≡ true
unfolding stops_fit every ◌and◌
no_stops_fit zero zero = refl
no_stops_fit zero (suc n) = no_stops_fit zero n
no_stops_fit (suc columns) zero = refl
no_stops_fit (suc columns) (suc n) = no_stops_fit columns n

-- A pen in range, and what each command makes of it.
pub pen_range : (pen : ℕ) → valid_pen pen ≡ true → (valid_mark pen ≡ true) × (is_modified pen ≡ false)
unfolding valid_pen
pen_range pen p = let h = both p in (h.0, not-true _ h.1)

pen_in_range : (pen : ℕ) → valid_mark pen ≡ true → is_modified pen ≡ false → valid_pen pen ≡ true
unfolding valid_pen
pen_in_range pen h k = both_hold _ _ h (ap not k)

module _ (pen : ℕ) (valid : valid_pen pen ≡ true) where
  -- a pen may have any visual mark changed
  stays_in_range : {n m new : ℕ} → StayOutside n m pen new → 1 < n → m ≤ 7 → valid_pen new ≡ true
  stays_in_range stay low high =
      let range = pen_range pen valid in
      pen_in_range _ (mark_stays_valid stay (omega arith) high range.0) (lower_bit stay 1 low ∙ range.1)

  pub bold_keeps_pen : valid_pen (pen_bold pen) ≡ true
  bold_keeps_pen = stays_in_range (set_others 2 pen) (omega arith) (omega arith)

  pub underlined_keeps_pen : valid_pen (pen_underlined pen) ≡ true
  underlined_keeps_pen = stays_in_range (set_others 3 pen) (omega arith) (omega arith)

  pub blinking_keeps_pen : valid_pen (pen_blinking pen) ≡ true
  blinking_keeps_pen = stays_in_range (set_others 4 pen) (omega arith) (omega arith)

  pub reversed_keeps_pen : valid_pen (pen_reversed pen) ≡ true
  reversed_keeps_pen = stays_in_range (set_others 5 pen) (omega arith) (omega arith)

  pub concealed_keeps_pen : valid_pen (pen_concealed pen) ≡ true
  concealed_keeps_pen = stays_in_range (set_others 6 pen) (omega arith) (omega arith)

  pub plain_keeps_pen : valid_pen (pen_plain pen) ≡ true
  plain_keeps_pen = stays_in_range (plain_outside pen) (omega arith) (omega arith)

  -- and any kind in place of its own
  small : pen < 0x400
  small = (valid_mark_lem pen (pen_range pen valid).0).0

  kind_keeps_pen : {protected numeric alphabetic required : Bool} (new : ℕ) → HasKind protected numeric alphabetic required (is_modified pen) new → kinds_fit protected numeric alphabetic required ≡ true → valid_pen new ≡ true
  kind_keeps_pen new has fit =
      pen_in_range new
      (valid_from new has.less has.is_protected has.is_numeric has.is_alphabetic has.is_required fit)
      (has.is_modified ∙ (pen_range pen valid).1)

  pub unprotected_keeps_pen : valid_pen (pen_unprotected pen) ≡ true
  unprotected_keeps_pen = kind_keeps_pen _ (unprotected_kind pen small) (plain_fits _)

  pub protected_keeps_pen : valid_pen (pen_protected pen) ≡ true
  protected_keeps_pen = kind_keeps_pen _ (protected_kind pen small) protected_fits

  pub numeric_keeps_pen : valid_pen (pen_numeric pen) ≡ true
  numeric_keeps_pen = kind_keeps_pen _ (numeric_kind pen small) (numeric_fits _)

  pub alphabetic_keeps_pen : valid_pen (pen_alphabetic pen) ≡ true
  alphabetic_keeps_pen = kind_keeps_pen _ (alphabetic_kind pen small) (alphabetic_fits _)

  -- and required, if it is not protected
  pub required_keeps_pen : is_protected pen ≡ false → valid_pen (pen_required pen) ≡ true
  required_keeps_pen open_pen =
      kind_keeps_pen _ (required_kind pen small) (required_fits (is_protected pen) _ _ _ open_pen (valid_mark_lem pen (pen_range pen valid).0).1)

-- A change of the state that leaves it valid, and the page's size as it was.
pub record KeepsValid (before after : State) : Type 0 where
  pub size : after.size ≡ before.size
  pub valid : valid_state after ≡ true

module _ (s : State) (valid : valid_state s ≡ true) where
  was : Parts s
  was = parts s valid

  row_was : OneTo s.size.rows s.cursor.row
  row_was = row_range s.size s.cursor was.cursor

  column_was : OneTo s.size.columns s.cursor.column
  column_was = column_range s.size s.cursor was.cursor

  -- moves
  pub cursor_keeps_valid : (row column : ℕ) → OneTo s.size.rows row → OneTo s.size.columns column → KeepsValid s (with_cursor s (cursor_at row column))
  cursor_keeps_valid row column h k = record {
    size = refl;
    valid = whole (with_cursor s (cursor_at row column)) (in_range s.size (record { row = row; column = column }) h k) was.stops was.pen was.message was.half;
  }

  pub up_keeps_valid : (n : ℕ) → KeepsValid s (up_by n s)
  unfolding up_by
  up_keeps_valid n = cursor_keeps_valid _ _ (back_within n s.size.rows s.cursor.row row_was) column_was

  pub down_keeps_valid : (n : ℕ) → KeepsValid s (down_by n s)
  unfolding down_by
  down_keeps_valid n = cursor_keeps_valid _ _ (on_within n s.size.rows s.cursor.row row_was) column_was

  pub right_keeps_valid : (n : ℕ) → KeepsValid s (right_by n s)
  unfolding right_by
  right_keeps_valid n = cursor_keeps_valid _ _ row_was (on_within n s.size.columns s.cursor.column column_was)

  pub left_keeps_valid : (n : ℕ) → KeepsValid s (left_by n s)
  unfolding left_by
  left_keeps_valid n = cursor_keeps_valid _ _ row_was (back_within n s.size.columns s.cursor.column column_was)

  pub margin_keeps_valid : KeepsValid s (to_margin s)
  unfolding to_margin
  margin_keeps_valid = let here = column_was in cursor_keeps_valid _ 1 row_was (omega arith, omega arith)

  pub next_cell_keeps_valid : KeepsValid s (to_next_cell s)
  unfolding to_next_cell
  next_cell_keeps_valid =
      let row = row_was in
      let column = column_was in
      either_line (KeepsValid s) _ _ _
      (λ t. let less = ltb-true s.cursor.column s.size.columns t in cursor_keeps_valid _ _ row (omega arith, omega arith))
      (λ _. either_line (KeepsValid s) _ _ _
      (λ t. let less = ltb-true s.cursor.row s.size.rows t in cursor_keeps_valid _ 1 (omega arith, omega arith) (omega arith, omega arith))
      (λ _. cursor_keeps_valid 1 1 (omega arith, omega arith) (omega arith, omega arith)))

  pub tab_on_keeps_valid : (n : ℕ) → KeepsValid s (tabbed_on n s)
  unfolding tabbed_on
  tab_on_keeps_valid n = cursor_keeps_valid _ _ row_was (stops_on_within s.stops s.size.columns n s.cursor.column column_was)

  pub tab_back_keeps_valid : (n : ℕ) → KeepsValid s (tabbed_back n s)
  unfolding tabbed_back
  tab_back_keeps_valid n = cursor_keeps_valid _ _ row_was (stops_back_within s.stops s.size.columns n s.cursor.column column_was)

  -- tab stops
  stops_keep_valid : (stops : List Bool) → stops_fit s.size.columns stops ≡ true → KeepsValid s (with_stops s stops)
  stops_keep_valid stops p = record {
    size = refl;
    valid = whole (with_stops s stops) was.cursor p was.pen was.message was.half;
  }

  stop_keeps_valid : (stop : Bool) → KeepsValid s (with_stops s (set s.stops (s.cursor.column - 1) stop))
  unfolding stops_fit
  stop_keeps_valid stop =
      let here = column_was in
      let before : s.cursor.column - 1 < s.size.columns = omega arith in
      stops_keep_valid (set s.stops (s.cursor.column - 1) stop) (rw (drop-set-lt s.size.columns s.stops (s.cursor.column - 1) stop before) was.stops)

  pub stop_set_keeps_valid : KeepsValid s (stop_set s)
  unfolding stop_set
  stop_set_keeps_valid = stop_keeps_valid true

  pub stop_cleared_keeps_valid : KeepsValid s (stop_cleared s)
  unfolding stop_cleared
  stop_cleared_keeps_valid = stop_keeps_valid false

  pub stops_cleared_keeps_valid : KeepsValid s (stops_cleared s)
  unfolding stops_cleared
  stops_cleared_keeps_valid = stops_keep_valid (replicate 160 false) (no_stops_fit s.size.columns 160)

  -- pen and modes
  pub pen_keeps_valid : (pen : ℕ) → valid_pen pen ≡ true → KeepsValid s (with_pen s pen)
  pen_keeps_valid pen p = record {
    size = refl;
    valid = whole (with_pen s pen) was.cursor was.stops p was.message was.half;
  }

  pub erasure_keeps_valid : (erasure : Bool) → KeepsValid s (with_erasure s erasure)
  unfolding valid_state
  erasure_keeps_valid erasure = record { size = refl; valid = valid }

  pub full_keeps_valid : (full : Bool) → KeepsValid s (with_full s full)
  unfolding valid_state
  full_keeps_valid full = record { size = refl; valid = valid }

  -- locks and message
  locks_keep_valid : (locks : Locks) → valid_message locks ≡ true → KeepsValid s (with_locks s locks)
  locks_keep_valid locks p = record { size = refl; valid = whole (with_locks s locks) was.cursor was.stops was.pen p was.half }

  pub refused_keeps_valid : (reason : Reason) (byte : ℕ) → KeepsValid s (refused reason byte s)
  unfolding refused
  refused_keeps_valid reason byte = locks_keep_valid _ (reason_has_message reason s.locks.manual byte)

  pub disabled_keeps_valid : KeepsValid s (input_disabled s)
  unfolding input_disabled valid_message
  disabled_keeps_valid = locks_keep_valid _ was.message

  pub enabled_keeps_valid : KeepsValid s (input_enabled s)
  unfolding input_enabled
  enabled_keeps_valid = locks_keep_valid no_locks no_message

  pub unlocked_keeps_valid : KeepsValid s (unlocked s)
  unfolding unlocked valid_message If◌then◌else◌
  unlocked_keeps_valid = locks_keep_valid _ no_message

  -- the half-read record
  pub half_keeps_valid : (half : HalfRead) → valid_half_read half ≡ true → KeepsValid s (with_half s half)
  half_keeps_valid half p = record {
    size = refl;
    valid = whole (with_half s half) was.cursor was.stops was.pen was.message p;
  }

-- A fresh page's state.
pub fresh_valid : (size : Size) → listed_size size ≡ true → valid_state (fresh_state size) ≡ true
fresh_valid size listed =
    let bounds = size_bounds size listed in
    whole (fresh_state size)
    (in_range size (record { row = 1; column = 1 }) (omega arith, bounds.some_rows) (omega arith, bounds.some_columns))
    (no_stops_fit size.columns 160) (pen_in_range 0 no_mark_valid refl) no_message nothing_valid
