-- Lines 1 and 2 of the table hold exactly where the tests that the code runs fail.
use mathlib.Core.Path.{◌≡◌, refl, sym, ◌∙◌}
use mathlib.Core.Bool.{Bool, true, false, not}
use mathlib.Core.List.{List, [], ◌∷◌}
use mathlib.Core.Logic.{⊎_elim, ◌↔◌}
use Prim.Native.Nat.{ℕ, zero, suc, ◌+◌, ◌-◌, ◌<◌, ◌≤◌}
use native.Mathlib.Omega.{arith}
use borrow.Author.Tests.{ltb-false, leb-true, leb-false, eqb-true, eqb-false, not-true, not-false}
use lib.Dec.{eqb}
use lib.ListN.{length, get_or, drop}
use lib.Seq.{get_or-drop}
use Rattle.words.specs.Choice.{◌and◌, ◌or◌}
use Rattle.words.specs.Lists.{every}
use Rattle.words.proofs.Choosing.{true_is_not_false, both, neither, one_fails, one_holds, range_holds, range_fails, refuted, either_way, then_case, else_case}
use Rattle.words.proofs.Passing.{passes}
use Rattle.sequence.specs.Record.{valid_half_read}
use Rattle.sequence.proofs.Range.{out_of_range}
use Rattle.page.specs.Marks.{is_modified, valid_character, valid_mark}
use Rattle.page.specs.Page.{Page, valid_page}
use Rattle.page.proofs.Valid.{protected_alone, numeric_alone, valid_mark_lem}
use Rattle.state.specs.declared.Size.{Size}
use Rattle.state.specs.declared.Locks.{Locks}
use Rattle.state.specs.declared.State.{State}
use Rattle.state.specs.Pen.{valid_pen}
use Rattle.state.specs.Tests.{listed_rows, listed_columns, listed_size, size_fits, cursor_fits, stops_fit, valid_message, valid_state}
use Rattle.state.specs.Lines.{MarkOutOfRange, above_bit_9, numeric_and_alphabetic, numeric_and_protected, alphabetic_and_protected, required_and_protected, Line1, rows_not_listed, columns_not_listed, characters_not_as_long, marks_not_as_long, Line2, above_first_row, below_last_row, before_first_column, past_last_column, cell_too_low, cell_too_high, marks_out_of_range, stop_past_last_column, pen_out_of_range, pen_modified, message_above_4, byte_without_message, half_read_out_of_range}
use Rattle.state.proofs.Laws.{OneTo}
use Rattle.state.proofs.Keeping.{rows_listed, columns_listed, parts, row_range, column_range, pen_range}

-- What a test that fails tells.
none_of : (n a b c : ℕ) → (eqb n a or eqb n b or eqb n c) ≡ false → (n ≡ a → ⊥) × (n ≡ b → ⊥) × (n ≡ c → ⊥)
none_of n a b c p =
    let later = neither (neither p).1 in
    (eqb-false n a (neither p).0, eqb-false n b later.0, eqb-false n c later.1)

pub some_fails : {A : Type 0} (test : A → Bool) (other : A) (list : List A) → every test list ≡ false → (k : ℕ) × (k < length list) × (test (get_or list k other) ≡ false)
unfolding every
some_fails test other [] p = absurd (true_is_not_false p)
some_fails test other (x ∷ rest) p =
    ⊎_elim (λ q. (0, omega arith, q)) (λ q. let later = some_fails test other rest q in (suc later.0, omega arith, later.2)) (one_fails p)

no_stop_past : (columns : ℕ) (stops : List Bool) → stops_fit columns stops ≡ true → (k : ℕ) → columns ≤ k → get_or stops k false ≡ false
unfolding stops_fit every
no_stop_past columns stops p k h =
    let there : columns + (k - columns) ≡ k = omega arith in
    rw (get_or-drop columns stops (k - columns) false, there) at (not-true (get_or (drop columns stops) (k - columns) false) (every_stop (drop columns stops) p (k - columns)))
  where
    every_stop : (list : List Bool) → every not list ≡ true → (k : ℕ) → not (get_or list k false) ≡ true
    every_stop [] p k = refl
    every_stop (x ∷ rest) p zero = (both p).0
    every_stop (x ∷ rest) p (suc k) = every_stop rest (both p).1 k

-- A mark is out of range where its test fails.
mark_out : (mark : ℕ) → valid_mark mark ≡ false → MarkOutOfRange mark
unfolding valid_mark
mark_out mark p =
    ⊎_elim (λ q. above_bit_9 (ltb-false mark 0x400 q))
    (λ q. ⊎_elim
    (λ r. let together = both (not-false _ r) in numeric_and_alphabetic together.0 together.1)
    (λ r.
    let together = both (not-false _ r) in
    ⊎_elim
    (λ n. numeric_and_protected n together.0)
    (λ other. ⊎_elim (λ a. alphabetic_and_protected a together.0) (λ r. required_and_protected r together.0) (one_holds other))
    (one_holds together.1))
    (one_fails q))
    (one_fails p)

mark_not_out : (mark : ℕ) → valid_mark mark ≡ true → MarkOutOfRange mark → ⊥
mark_not_out mark p (above_bit_9 high) = omega (arith, high, (valid_mark_lem mark p).0)
mark_not_out mark p (numeric_and_alphabetic n a) = true_is_not_false (sym a ∙ numeric_alone _ _ _ _ n (valid_mark_lem mark p).1)
mark_not_out mark p (numeric_and_protected n q) = true_is_not_false (sym n ∙ (protected_alone _ _ _ _ q (valid_mark_lem mark p).1).0)
mark_not_out mark p (alphabetic_and_protected a q) = true_is_not_false (sym a ∙ (protected_alone _ _ _ _ q (valid_mark_lem mark p).1).1)
mark_not_out mark p (required_and_protected r q) = true_is_not_false (sym r ∙ (protected_alone _ _ _ _ q (valid_mark_lem mark p).1).2)

-- Line 1.
module _ (size : Size) (page : Page) where
  line_1_holds : size_fits size page ≡ false → Line1 size page
  unfolding size_fits listed_size listed_rows listed_columns
  line_1_holds p =
      ⊎_elim
      (λ q. ⊎_elim
      (λ r. let none = none_of size.rows 24 27 48 r in rows_not_listed none.0 none.1 none.2)
      (λ r. let none = none_of size.columns 80 132 160 r in columns_not_listed none.0 none.1 none.2)
      (one_fails q))
      (λ q. ⊎_elim (λ r. characters_not_as_long (eqb-false _ _ r)) (λ r. marks_not_as_long (eqb-false _ _ r)) (one_fails q))
      (one_fails p)

  not_line_1 : size_fits size page ≡ true → Line1 size page → ⊥
  unfolding size_fits listed_size
  not_line_1 p (rows_not_listed a b c) = ⊎_elim a (⊎_elim b c) (rows_listed size.rows (both (both p).0).0)
  not_line_1 p (columns_not_listed a b c) = ⊎_elim a (⊎_elim b c) (columns_listed size.columns (both (both p).0).1)
  not_line_1 p (characters_not_as_long a) = a (eqb-true _ _ (both (both p).1).0)
  not_line_1 p (marks_not_as_long a) = a (eqb-true _ _ (both (both p).1).1)

  pub line_1 : (size_fits size page ≡ false) ↔ Line1 size page
  line_1 = (line_1_holds, λ line. refuted _ (λ p. not_line_1 p line))

-- What a valid message is.
message_range : (locks : Locks) → valid_message locks ≡ true → (locks.message ≤ 4) × (locks.message ≡ 0 → locks.byte ≡ 0)
unfolding valid_message
message_range locks p =
    either_way (eqb locks.message 0)
    (λ none. let zero = eqb-true locks.message 0 none in (omega arith, λ _. eqb-true _ _ (sym (then_case _ _ _ none) ∙ p)))
    (λ some. (leb-true _ _ (sym (else_case _ _ _ some) ∙ p), λ none. absurd (eqb-false _ _ some none)))

-- Line 2, clause by clause.
module _ (s : State) (page : Page) where
  cursor_off : cursor_fits s.size s.cursor ≡ false → Line2 s page
  unfolding cursor_fits
  cursor_off p =
      ⊎_elim
      (λ q. ⊎_elim above_first_row below_last_row (range_fails _ _ _ q))
      (λ q. ⊎_elim before_first_column past_last_column (range_fails _ _ _ q))
      (one_fails p)

  stop_past : stops_fit s.size.columns s.stops ≡ false → Line2 s page
  unfolding stops_fit
  stop_past p =
      let found = some_fails not false (drop s.size.columns s.stops) p in
      let place : s.size.columns + found.0 + 1 - 1 ≡ s.size.columns + found.0 = omega arith in
      stop_past_last_column (s.size.columns + found.0 + 1) (omega arith)
      (rw (place, ← get_or-drop s.size.columns s.stops found.0 false) (not-false _ found.2))

  pen_out : valid_pen s.modes.pen ≡ false → Line2 s page
  unfolding valid_pen
  pen_out p = ⊎_elim (λ q. pen_out_of_range (mark_out _ q)) (λ q. pen_modified (not-false _ q)) (one_fails p)

  message_out : valid_message s.locks ≡ false → Line2 s page
  unfolding valid_message
  message_out p =
      either_way (eqb s.locks.message 0)
      (λ none. byte_without_message (eqb-true _ _ none) (eqb-false _ _ (sym (then_case _ _ _ none) ∙ p)))
      (λ some. message_above_4 (leb-false _ _ (sym (else_case _ _ _ some) ∙ p)))

  cell_out : every valid_character page.characters ≡ false → Line2 s page
  cell_out p =
      let found = some_fails valid_character 0 page.characters p in
      ⊎_elim (cell_too_low found.0 found.1) (cell_too_high found.0 found.1) (range_fails _ _ _ found.2)

  marks_out : every valid_mark page.marks ≡ false → Line2 s page
  marks_out p = let found = some_fails valid_mark 0 page.marks p in marks_out_of_range found.0 found.1 (mark_out _ found.2)

  half_out : valid_half_read s.half ≡ false → Line2 s page
  half_out p = half_read_out_of_range ((out_of_range s.half).0 p)

  line_2_holds : (valid_state s and valid_page page) ≡ false → Line2 s page
  unfolding valid_state valid_page
  line_2_holds p =
      ⊎_elim
      (λ q. ⊎_elim cursor_off
      (λ r. ⊎_elim stop_past
      (λ t. ⊎_elim pen_out
      (λ u. ⊎_elim message_out half_out (one_fails u))
      (one_fails t))
      (one_fails r))
      (one_fails q))
      (λ q. ⊎_elim cell_out marks_out (one_fails q))
      (one_fails p)

-- No clause of line 2 holds of a valid state and a valid page.
module _ (s : State) (page : Page) (valid : valid_state s ≡ true) (fine : valid_page page ≡ true) where
  row_is : OneTo s.size.rows s.cursor.row
  row_is = row_range s.size s.cursor (parts s valid).cursor

  column_is : OneTo s.size.columns s.cursor.column
  column_is = column_range s.size s.cursor (parts s valid).cursor

  character_is : (cell : ℕ) → cell < length page.characters → (0x20 ≤ get_or page.characters cell 0) × (get_or page.characters cell 0 ≤ 0x7E)
  unfolding valid_page
  character_is cell here = range_holds _ _ _ (passes valid_character page.characters (both fine).0 cell here)

  mark_is : (cell : ℕ) → cell < length page.marks → valid_mark (get_or page.marks cell 0) ≡ true
  unfolding valid_page
  mark_is cell here = passes valid_mark page.marks (both fine).1 cell here

  pen_is : (valid_mark s.modes.pen ≡ true) × (is_modified s.modes.pen ≡ false)
  pen_is = pen_range s.modes.pen (parts s valid).pen

  message_is : (s.locks.message ≤ 4) × (s.locks.message ≡ 0 → s.locks.byte ≡ 0)
  message_is = message_range s.locks (parts s valid).message

  not_line_2 : Line2 s page → ⊥
  not_line_2 (above_first_row off) = omega (arith, row_is.0)
  not_line_2 (below_last_row off) = omega (arith, row_is.1)
  not_line_2 (before_first_column off) = omega (arith, column_is.0)
  not_line_2 (past_last_column off) = omega (arith, column_is.1)
  not_line_2 (cell_too_low cell here low) = omega (arith, (character_is cell here).0)
  not_line_2 (cell_too_high cell here high) = omega (arith, (character_is cell here).1)
  not_line_2 (marks_out_of_range cell here out) = mark_not_out _ (mark_is cell here) out
  not_line_2 (stop_past_last_column column past set) = true_is_not_false (sym set ∙ no_stop_past s.size.columns s.stops (parts s valid).stops (column - 1) (omega arith))
  not_line_2 (pen_out_of_range out) = mark_not_out _ pen_is.0 out
  not_line_2 (pen_modified set) = true_is_not_false (sym set ∙ pen_is.1)
  not_line_2 (message_above_4 high) = omega (arith, message_is.0)
  not_line_2 (byte_without_message none some) = some (message_is.1 none)
  not_line_2 (half_read_out_of_range out) = true_is_not_false (sym (parts s valid).half ∙ (out_of_range s.half).1 out)

pub line_2 : (s : State) (page : Page) → ((valid_state s and valid_page page) ≡ false) ↔ Line2 s page
line_2 s page = (line_2_holds s page, λ line. refuted _ (λ p. not_line_2 s page (both p).0 (both p).1 line))
