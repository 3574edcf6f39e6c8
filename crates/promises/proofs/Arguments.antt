-- A command that the table lists, with no more arguments than it may have: it is refused exactly where the value of one
-- is not allowed.
use mathlib.Core.Path.{◌≡◌, refl, sym, ap, ◌∙◌, subst}
use mathlib.Core.Bool.{Bool, true, false, not}
use mathlib.Core.List.{[], ◌∷◌}
use mathlib.Core.Logic.{◌⊎◌, inl, inr, ⊎_elim}
use Prim.Native.Nat.{ℕ, ◌+◌, ◌<◌, ◌≤◌}
use native.Mathlib.Omega.{arith}
use borrow.Author.Tests.{eqb-true, eqb-false, leb-true, leb-false, not-false}
use lib.Dec.{eqb}
use lib.ListN.{length, get_or}
use Rattle.words.specs.Choice.{If◌then◌else◌, ◌and◌, ◌or◌, ◌is◌to◌}
use Rattle.words.specs.Lists.{every}
use Rattle.words.proofs.Choosing.{not_both, either_line, either_way, both, neither, first_decides, one_fails, one_holds, range_holds, range_fails}
use Rattle.words.proofs.Passing.{passes}
use Rattle.sequence.specs.declared.HalfRead.{HalfRead}
use Rattle.sequence.specs.declared.Reason.TheVariants.{WrongArguments}
use Rattle.sequence.specs.Record.{nothing_read}
use Rattle.sequence.specs.Range.{argument_of}
use Rattle.page.specs.Marks.{is_protected}
use Rattle.state.specs.State.{message_of, refused}
use Rattle.state.proofs.Keeping.{size_bounds, on_page}
use Rattle.state.proofs.Lines.{some_fails}
use Rattle.steps.specs.Steps.{Terminal, Stepped, Valid, refusing}
use Rattle.steps.proofs.Soundness.{sized}
use Rattle.table.specs.Table.{Allowed, allowed, value_of}
use Rattle.table.specs.Moves.{to_column, to_row, to_place, kept_column, is_move, move_step}
use Rattle.table.specs.Settings.{tab_control, is_area, area_set, area_qualified, is_visual, rendition, set_mode}
use Rattle.sending.specs.Sending.{ready_report, cursor_report, status_report}
use Rattle.commands.specs.Commands.{erasing, erase_part, listed_step}
use Rattle.commands.proofs.Values.{zero_is_one}
use Rattle.promises.specs.Reasons.{NoneOf, arguments_read, NotAllowed, too_many, d_off_page, H_row_off_page, H_column_off_page, f_row_off_page, f_column_off_page, W_value, J_value, K_value, m_value, h_value, l_value, o_value, o_20_protected, n_value, Shows}
use Rattle.promises.proofs.FeedingRuns.{reading}

pub data Weighed (t : Terminal) (final : ℕ) (step : Stepped) : Type 0 where
  not_allowed : NotAllowed t final → step.was_refused ≡ true → Shows 2 final step → Weighed t final step
  is_allowed : (NotAllowed t final → ⊥) → step.was_refused ≡ false → Weighed t final step

-- One that is no less, and another one, is more.
past : (n least : ℕ) → least ≤ n → (n ≡ least → ⊥) → least + 1 ≤ n
past n least h other = omega arith

-- The values listed for m.
not_visual : (value : ℕ) → is_visual value ≡ false → NoneOf (0 ∷ 1 ∷ 4 ∷ 5 ∷ 7 ∷ 8 ∷ []) value
unfolding is_visual NoneOf
not_visual value p =
    let after-0 = neither p in
    let after-1 = neither after-0.1 in
    let after-4 = neither after-1.1 in
    let after-5 = neither after-4.1 in
    let after-7 = neither after-5.1 in
    (eqb-false value 0 after-0.0, (eqb-false value 1 after-1.0, (eqb-false value 4 after-4.0, (eqb-false value 5 after-5.0, (eqb-false value 7 after-7.0, (eqb-false value 8 after-7.1, tt))))))

visual_listed : (value : ℕ) → is_visual value ≡ true → NoneOf (0 ∷ 1 ∷ 4 ∷ 5 ∷ 7 ∷ 8 ∷ []) value → ⊥
unfolding is_visual NoneOf
visual_listed value p none =
    ⊎_elim (λ e. none.0 (eqb-true value 0 e))
    (λ p. ⊎_elim (λ e. none.1.0 (eqb-true value 1 e))
    (λ p. ⊎_elim (λ e. none.1.1.0 (eqb-true value 4 e))
    (λ p. ⊎_elim (λ e. none.1.1.1.0 (eqb-true value 5 e))
    (λ p. ⊎_elim (λ e. none.1.1.1.1.0 (eqb-true value 7 e)) (λ e. none.1.1.1.1.1.0 (eqb-true value 8 e)) (one_holds p))
    (one_holds p)) (one_holds p)) (one_holds p)) (one_holds p)

-- The values of o that a pen doesn't take: one not listed, and 20 where it is protected.
abbrev NoArea : ℕ → ℕ → Type 0
NoArea pen value = NoneOf (0 ∷ 1 ∷ 3 ∷ 4 ∷ 20 ∷ []) value ⊎ ((value ≡ 20) × (is_protected pen ≡ true))

not_area : (pen value : ℕ) → is_area pen value ≡ false → NoArea pen value
unfolding is_area NoneOf
not_area pen value p =
    let after-0 = neither p in
    let after-1 = neither after-0.1 in
    let after-3 = neither after-1.1 in
    let after-4 = neither after-3.1 in
    either_way (eqb value 20)
    (λ e. inr (eqb-true value 20 e, not-false _ (sym (first_decides _ _ e) ∙ after-4.1)))
    (λ e. inl (eqb-false value 0 after-0.0, (eqb-false value 1 after-1.0, (eqb-false value 3 after-3.0, (eqb-false value 4 after-4.0, (eqb-false value 20 e, tt))))))

protected_not_20 : (pen : ℕ) → is_protected pen ≡ true → is_area pen 20 ≡ false
unfolding is_area ◌or◌ ◌and◌
protected_not_20 pen protected = ap not protected

area_listed : (pen value : ℕ) → is_area pen value ≡ true → NoArea pen value → ⊥
unfolding is_area NoneOf
area_listed pen value p (inl none) =
    ⊎_elim (λ e. none.0 (eqb-true value 0 e))
    (λ p. ⊎_elim (λ e. none.1.0 (eqb-true value 1 e))
    (λ p. ⊎_elim (λ e. none.1.1.0 (eqb-true value 3 e))
    (λ p. ⊎_elim (λ e. none.1.1.1.0 (eqb-true value 4 e)) (λ e. none.1.1.1.1.0 (eqb-true value 20 (both e).0)) (one_holds p))
    (one_holds p)) (one_holds p)) (one_holds p)
area_listed pen value p (inr (twenty, protected)) = not_both p (ap (is_area pen) twenty ∙ protected_not_20 pen protected)

-- By letter: what is left that could not be allowed, where the arguments are few enough.
module _ (t : Terminal) where
  abbrev half : HalfRead
  half = t.state.half

  abbrev Few : ℕ → Type 0
  Few letter = half.count ≤ (allowed letter).most

  A_takes : Few 0x41 → NotAllowed t 0x41 → ⊥
  A_takes few (too_many _ some more) = omega arith

  B_takes : Few 0x42 → NotAllowed t 0x42 → ⊥
  B_takes few (too_many _ some more) = omega arith

  C_takes : Few 0x43 → NotAllowed t 0x43 → ⊥
  C_takes few (too_many _ some more) = omega arith

  D_takes : Few 0x44 → NotAllowed t 0x44 → ⊥
  D_takes few (too_many _ some more) = omega arith

  E_takes : Few 0x45 → NotAllowed t 0x45 → ⊥
  E_takes few (too_many _ some more) = omega arith

  F_takes : Few 0x46 → NotAllowed t 0x46 → ⊥
  F_takes few (too_many _ some more) = omega arith

  G_takes : Few 0x47 → NotAllowed t 0x47 → ⊥
  G_takes few (too_many _ some more) = omega arith

  I_takes : Few 0x49 → NotAllowed t 0x49 → ⊥
  I_takes few (too_many _ some more) = omega arith

  Z_takes : Few 0x5A → NotAllowed t 0x5A → ⊥
  Z_takes few (too_many _ some more) = omega arith

  d_takes : argument_of half 0 ≤ t.state.size.rows → Few 0x64 → NotAllowed t 0x64 → ⊥
  d_takes row few (too_many _ some more) = omega arith
  d_takes row few (d_off_page off) = omega arith

  H_takes : argument_of half 0 ≤ t.state.size.rows → argument_of half 1 ≤ t.state.size.columns → Few 0x48 → NotAllowed t 0x48 → ⊥
  H_takes row column few (too_many _ some more) = omega arith
  H_takes row column few (H_row_off_page off) = omega arith
  H_takes row column few (H_column_off_page off) = omega arith

  f_takes : argument_of half 0 ≤ t.state.size.rows → argument_of half 1 ≤ t.state.size.columns → Few 0x66 → NotAllowed t 0x66 → ⊥
  f_takes row column few (too_many _ some more) = omega arith
  f_takes row column few (f_row_off_page off) = omega arith
  f_takes row column few (f_column_off_page off) = omega arith

  W_takes : (NoneOf (0 ∷ 2 ∷ 5 ∷ []) (argument_of half 0) → ⊥) → Few 0x57 → NotAllowed t 0x57 → ⊥
  W_takes listed few (too_many _ some more) = omega arith
  W_takes listed few (W_value none) = listed none

  J_takes : (NoneOf (0 ∷ 1 ∷ 2 ∷ []) (argument_of half 0) → ⊥) → Few 0x4A → NotAllowed t 0x4A → ⊥
  J_takes listed few (too_many _ some more) = omega arith
  J_takes listed few (J_value none) = listed none

  K_takes : (NoneOf (0 ∷ 1 ∷ 2 ∷ []) (argument_of half 0) → ⊥) → Few 0x4B → NotAllowed t 0x4B → ⊥
  K_takes listed few (too_many _ some more) = omega arith
  K_takes listed few (K_value none) = listed none

  m_takes : every is_visual (arguments_read half) ≡ true → Few 0x6D → NotAllowed t 0x6D → ⊥
  m_takes all few (too_many _ some more) = omega arith
  m_takes all few (m_value i here none) = visual_listed _ (passes is_visual (arguments_read half) all i here) none

  h_takes : every (λ value. eqb value 6) (arguments_read half) ≡ true → Few 0x68 → NotAllowed t 0x68 → ⊥
  h_takes all few (too_many _ some more) = omega arith
  h_takes all few (h_value i here other) = other (eqb-true _ 6 (passes (λ value. eqb value 6) (arguments_read half) all i here))

  l_takes : every (λ value. eqb value 6) (arguments_read half) ≡ true → Few 0x6C → NotAllowed t 0x6C → ⊥
  l_takes all few (too_many _ some more) = omega arith
  l_takes all few (l_value i here other) = other (eqb-true _ 6 (passes (λ value. eqb value 6) (arguments_read half) all i here))

  o_takes : (NoArea t.state.modes.pen (argument_of half 0) → ⊥) → Few 0x6F → NotAllowed t 0x6F → ⊥
  o_takes listed few (too_many _ some more) = omega arith
  o_takes listed few (o_value none) = listed (inl none)
  o_takes listed few (o_20_protected twenty protected) = listed (inr (twenty, protected))

  n_takes : (NoneOf (5 ∷ 6 ∷ []) (argument_of half 0) → ⊥) → Few 0x6E → NotAllowed t 0x6E → ⊥
  n_takes listed few (too_many _ some more) = omega arith
  n_takes listed few (n_value none) = listed none

  -- The command of a final byte, on the terminal with nothing half read.
  module _ (final : ℕ) (few : Few final) where
    abbrev there : Terminal
    there = reading t nothing_read

    line : {test : Bool} {a b : Stepped} → (test ≡ true → Weighed t final a) → (test ≡ false → Weighed t final b) → Weighed t final (If test then a else b)
    line {test} {a} {b} first rest = either_line (Weighed t final) test a b first rest

    -- What is known of the letter is known of the final byte that is that letter.
    takes : (letter : ℕ) → eqb final letter ≡ true → (Few letter → NotAllowed t letter → ⊥) → NotAllowed t final → ⊥
    takes letter named only wrong =
        let same = eqb-true final letter named in
        only (subst Few same few) (subst (NotAllowed t) same wrong)

    refuses : (letter : ℕ) → eqb final letter ≡ true → NotAllowed t letter → Weighed t final (refusing WrongArguments final there)
    unfolding refused message_of
    refuses letter named wrong =
        not_allowed (subst (NotAllowed t) (sym (eqb-true final letter named)) wrong)
        refl (record { message_shown = refl; byte_shown = refl })

    goes : (letter : ℕ) → eqb final letter ≡ true → (Few letter → NotAllowed t letter → ⊥) → {step : Stepped} → step.was_refused ≡ false → Weighed t final step
    goes letter named only accepted = is_allowed (takes letter named only) accepted

    -- A value is the argument, or what an argument of 0 stands for.
    value_least : (i : ℕ) → argument_of half i ≤ value_of final half.arguments i
    unfolding value_of
    value_least i =
        either_line (λ (n : ℕ). argument_of half i ≤ n) _ _ _
        (λ e. let zero = eqb-true (argument_of half i) 0 e in omega arith)
        (λ _. omega arith)

    value_off : (i bound : ℕ) → (allowed final).zero_is ≤ bound → bound < value_of final half.arguments i → bound < argument_of half i
    unfolding value_of
    value_off i bound fits =
        either_line (λ (n : ℕ). bound < n → bound < argument_of half i) _ _ _ (λ _ off. absurd (omega arith)) (λ _ off. off)

    value_plain : (i : ℕ) → (allowed final).zero_is ≡ 0 → value_of final half.arguments i ≡ argument_of half i
    unfolding value_of
    value_plain i plain =
        either_line (λ (n : ℕ). n ≡ argument_of half i) _ _ _ (λ e. plain ∙ sym (eqb-true (argument_of half i) 0 e)) (λ _. refl)

    zero_is : (letter stands : ℕ) → eqb final letter ≡ true → (allowed letter).zero_is ≡ stands → (allowed final).zero_is ≡ stands
    zero_is letter stands named e = ap (λ (n : ℕ). (allowed n).zero_is) (eqb-true final letter named) ∙ e

    -- W, J, K and n: the first argument is one of those listed, or it is not.
    tab_weighed : (what : ℕ) → what ≡ argument_of half 0 → eqb final 0x57 ≡ true → Weighed t final (tab_control final what there)
    unfolding tab_control NoneOf
    tab_weighed what given named =
        line (λ e. goes 0x57 named (W_takes (λ none. none.0 (sym given ∙ eqb-true what 0 e))) refl)
        (λ a. line (λ e. goes 0x57 named (W_takes (λ none. none.1.0 (sym given ∙ eqb-true what 2 e))) refl)
        (λ b. line (λ e. goes 0x57 named (W_takes (λ none. none.1.1.0 (sym given ∙ eqb-true what 5 e))) refl)
        (λ c. refuses 0x57 named (W_value (λ e. eqb-false what 0 a (given ∙ e), (λ e. eqb-false what 2 b (given ∙ e), (λ e. eqb-false what 5 c (given ∙ e), tt)))))))

    module _ (letter : ℕ) (named : eqb final letter ≡ true)
        (only : (NoneOf (0 ∷ 1 ∷ 2 ∷ []) (argument_of half 0) → ⊥) → Few letter → NotAllowed t letter → ⊥)
        (other : NoneOf (0 ∷ 1 ∷ 2 ∷ []) (argument_of half 0) → NotAllowed t letter) where
      erase_weighed : (what first end : ℕ) → what ≡ argument_of half 0 → Weighed t final (erase_part final what first end there)
      unfolding erase_part erasing NoneOf
      erase_weighed what first end given =
          line (λ e. goes letter named (only (λ none. none.0 (sym given ∙ eqb-true what 0 e))) refl)
          (λ a. line (λ e. goes letter named (only (λ none. none.1.0 (sym given ∙ eqb-true what 1 e))) refl)
          (λ b. line (λ e. goes letter named (only (λ none. none.1.1.0 (sym given ∙ eqb-true what 2 e))) refl)
          (λ c. refuses letter named (other (λ e. eqb-false what 0 a (given ∙ e), (λ e. eqb-false what 1 b (given ∙ e), (λ e. eqb-false what 2 c (given ∙ e), tt)))))))

    area_weighed : (what : ℕ) → what ≡ argument_of half 0 → eqb final 0x6F ≡ true → Weighed t final (area_qualified final what there)
    unfolding area_qualified area_set
    area_weighed what given named =
        let pen = t.state.modes.pen in
        line (λ listed. goes 0x6F named (o_takes (λ none. area_listed pen what listed (subst (NoArea pen) (sym given) none))) refl)
        (λ other.
        ⊎_elim
        (λ none. refuses 0x6F named (o_value none))
        (λ both. refuses 0x6F named (o_20_protected both.0 both.1))
        (subst (NoArea pen) given (not_area pen what other)))

    status_weighed : (what : ℕ) → what ≡ argument_of half 0 → eqb final 0x6E ≡ true → Weighed t final (status_report final what there)
    unfolding status_report ready_report cursor_report NoneOf
    status_weighed what given named =
        line (λ e. goes 0x6E named (n_takes (λ none. none.0 (sym given ∙ eqb-true what 5 e))) refl)
        (λ a. line (λ e. goes 0x6E named (n_takes (λ none. none.1.0 (sym given ∙ eqb-true what 6 e))) refl)
        (λ b. refuses 0x6E named (n_value (λ e. eqb-false what 5 a (given ∙ e), (λ e. eqb-false what 6 b (given ∙ e), tt)))))

    -- m, h and l: all arguments.
    rendition_weighed : eqb final 0x6D ≡ true → Weighed t final (rendition final (arguments_read half) there)
    unfolding rendition
    rendition_weighed named =
        line (λ all. goes 0x6D named (m_takes all) refl)
        (λ not-all.
        let found = some_fails is_visual 0 (arguments_read half) not-all in
        refuses 0x6D named (m_value found.0 found.1 (not_visual _ found.2)))

    module _ (letter : ℕ) (named : eqb final letter ≡ true)
        (only : every (λ value. eqb value 6) (arguments_read half) ≡ true → Few letter → NotAllowed t letter → ⊥)
        (other : (i : ℕ) → i < length (arguments_read half) → (get_or (arguments_read half) i 0 ≡ 6 → ⊥) → NotAllowed t letter) where
      mode_weighed : (on : Bool) → Weighed t final (set_mode final on (arguments_read half) there)
      unfolding set_mode
      mode_weighed on =
          line (λ all. goes letter named (only all) refl)
          (λ not-all.
          let found = some_fails (λ value. eqb value 6) 0 (arguments_read half) not-all in
          refuses letter named (other found.0 found.1 (eqb-false _ 6 found.2)))

    -- The moves: d, H and f may be off the page.
    column_accepted : (column : ℕ) → (to_column column there).was_refused ≡ false
    unfolding to_column
    column_accepted column = either_line (λ (s : Stepped). s.was_refused ≡ false) _ _ _ (λ _. refl) (λ _. refl)

    module _ (valid : Valid t) where
      some_rows : 1 ≤ t.state.size.rows
      some_rows = (size_bounds t.state.size (sized t.state.size t.page valid.size).listed).some_rows

      some_columns : 1 ≤ t.state.size.columns
      some_columns = (size_bounds t.state.size (sized t.state.size t.page valid.size).listed).some_columns

      row_weighed : eqb final 0x64 ≡ true → Weighed t final (to_row final (value_of final half.arguments 0) there)
      unfolding to_row
      row_weighed named =
          let stands = zero_is 0x64 1 named zero_is_one.1 in
          let rows = some_rows in
          line
          (λ fits. let row = leb-true (value_of final half.arguments 0) t.state.size.rows fits in let least = value_least 0 in goes 0x64 named (d_takes (omega arith)) refl)
          (λ off. refuses 0x64 named (d_off_page (value_off 0 t.state.size.rows (omega arith) (leb-false _ _ off))))

      place_weighed : eqb final 0x48 ≡ true → Weighed t final (to_place final (value_of final half.arguments 0) (value_of final half.arguments 1) there)
      unfolding to_place
      place_weighed named =
          let stands = zero_is 0x48 1 named zero_is_one.2 in
          let rows = some_rows in
          let columns = some_columns in
          line
          (λ fits.
          let row = leb-true (value_of final half.arguments 0) t.state.size.rows (both fits).0 in
          let column = leb-true (value_of final half.arguments 1) t.state.size.columns (both fits).1 in
          let first = value_least 0 in
          let second = value_least 1 in
          goes 0x48 named (H_takes (omega arith) (omega arith)) refl)
          (λ off. ⊎_elim
          (λ row. refuses 0x48 named (H_row_off_page (value_off 0 t.state.size.rows (omega arith) (leb-false _ _ row))))
          (λ column. refuses 0x48 named (H_column_off_page (value_off 1 t.state.size.columns (omega arith) (leb-false _ _ column))))
          (one_fails off))

      abbrev kept : ℕ
      kept = kept_column (argument_of half 0) (argument_of half 1) (value_of final half.arguments 1) t.state.cursor.column

      kept_least : argument_of half 1 ≤ kept
      unfolding kept_column
      kept_least =
          either_line (λ (n : ℕ). argument_of half 1 ≤ n) _ _ _
          (λ e. let zero = eqb-true (argument_of half 1) 0 (both e).0 in omega arith)
          (λ _. value_least 1)

      kept_off : (allowed final).zero_is ≤ t.state.size.columns → t.state.size.columns < kept → t.state.size.columns < argument_of half 1
      unfolding kept_column
      kept_off fits =
          let here = (on_page t.state (sized t.state.size t.page valid.size).listed valid.state).column_most in
          either_line (λ (n : ℕ). t.state.size.columns < n → t.state.size.columns < argument_of half 1) _ _ _
          (λ _ off. absurd (omega arith))
          (λ _. value_off 1 t.state.size.columns fits)

      kept_weighed : eqb final 0x66 ≡ true → Weighed t final (to_place final (value_of final half.arguments 0) kept there)
      unfolding to_place
      kept_weighed named =
          let stands = zero_is 0x66 1 named zero_is_one.3 in
          let rows = some_rows in
          let columns = some_columns in
          line
          (λ fits.
          let row = leb-true (value_of final half.arguments 0) t.state.size.rows (both fits).0 in
          let column = leb-true kept t.state.size.columns (both fits).1 in
          let first = value_least 0 in
          let second = kept_least in
          goes 0x66 named (f_takes (omega arith) (omega arith)) refl)
          (λ off. ⊎_elim
          (λ row. refuses 0x66 named (f_row_off_page (value_off 0 t.state.size.rows (omega arith) (leb-false _ _ row))))
          (λ column. refuses 0x66 named (f_column_off_page (kept_off (omega arith) (leb-false _ _ column))))
          (one_fails off))

      -- A move that is none of the others is Z.
      is_Z : is_move final ≡ true → eqb final 0x41 ≡ false → eqb final 0x42 ≡ false → eqb final 0x43 ≡ false → eqb final 0x44 ≡ false → eqb final 0x45 ≡ false → eqb final 0x46 ≡ false → eqb final 0x47 ≡ false → eqb final 0x64 ≡ false → eqb final 0x48 ≡ false → eqb final 0x66 ≡ false → eqb final 0x49 ≡ false → eqb final 0x5A ≡ true
      unfolding is_move
      is_Z move a b c d e f g vpa h hvp i =
          ⊎_elim
          (λ range.
          let between = range_holds final 0x41 0x49 range in
          let from-B = past final 0x41 between.0 (eqb-false final 0x41 a) in
          let from-C = past final 0x42 from-B (eqb-false final 0x42 b) in
          let from-D = past final 0x43 from-C (eqb-false final 0x43 c) in
          let from-E = past final 0x44 from-D (eqb-false final 0x44 d) in
          let from-F = past final 0x45 from-E (eqb-false final 0x45 e) in
          let from-G = past final 0x46 from-F (eqb-false final 0x46 f) in
          let from-H = past final 0x47 from-G (eqb-false final 0x47 g) in
          let from-I = past final 0x48 from-H (eqb-false final 0x48 h) in
          let from-J = past final 0x49 from-I (eqb-false final 0x49 i) in
          absurd (omega arith))
          (λ others. ⊎_elim (λ z. z) (λ later. ⊎_elim (λ named. absurd (not_both named vpa)) (λ named. absurd (not_both named hvp)) (one_holds later)) (one_holds others))
          (one_holds move)

      move_weighed : is_move final ≡ true → Weighed t final (move_step final half.arguments there)
      unfolding move_step
      move_weighed move =
          line (λ e. goes 0x41 e A_takes refl)
          (λ a. line (λ e. goes 0x42 e B_takes refl)
          (λ b. line (λ e. goes 0x43 e C_takes refl)
          (λ c. line (λ e. goes 0x44 e D_takes refl)
          (λ d. line (λ e. goes 0x45 e E_takes refl)
          (λ e. line (λ f. goes 0x46 f F_takes refl)
          (λ f. line (λ e. goes 0x47 e G_takes (column_accepted _))
          (λ g. line row_weighed
          (λ vpa. line place_weighed
          (λ h. line kept_weighed
          (λ hvp. line (λ e. goes 0x49 e I_takes refl)
          (λ i. goes 0x5A (is_Z move a b c d e f g vpa h hvp i) Z_takes refl)))))))))))

      -- What is listed and none of the others is n.
      is_n : 1 ≤ (allowed final).most → is_move final ≡ false → eqb final 0x57 ≡ false → eqb final 0x4A ≡ false → eqb final 0x4B ≡ false → eqb final 0x6F ≡ false → eqb final 0x6D ≡ false → eqb final 0x68 ≡ false → eqb final 0x6C ≡ false → eqb final 0x6E ≡ true
      unfolding allowed is_move
      is_n some other w j k o m h l =
          let letters = neither other in
          let after-z = neither letters.1 in
          let vpa-hvp = neither after-z.1 in
          let IsN : Allowed → Type 0 = λ a. 1 ≤ a.most → eqb final 0x6E ≡ true in
          let outside : (low high : ℕ) → 0x41 ≤ low → high ≤ 0x49 → (final is low to high) ≡ true → ⊥ = λ low high from most range.
          let between = range_holds final low high range in
          ⊎_elim (λ less. omega arith) (λ more. omega arith) (range_fails final 0x41 0x49 letters.0) in
          let single : (letter : ℕ) → 0x41 ≤ letter → letter ≤ 0x49 → eqb final letter ≡ true → ⊥ = λ letter from most named.
          let same = eqb-true final letter named in
          ⊎_elim (λ less. omega arith) (λ more. omega arith) (range_fails final 0x41 0x49 letters.0) in
          either_line IsN _ _ _ (λ e _. absurd (outside 0x41 0x44 (omega arith) (omega arith) e))
          (λ _. either_line IsN _ _ _ (λ e _. absurd (outside 0x45 0x46 (omega arith) (omega arith) e))
          (λ _. either_line IsN _ _ _ (λ e _. absurd (single 0x47 (omega arith) (omega arith) e))
          (λ _. either_line IsN _ _ _ (λ e _. absurd (not_both e vpa-hvp.0))
          (λ _. either_line IsN _ _ _ (λ e _. absurd (single 0x48 (omega arith) (omega arith) e))
          (λ _. either_line IsN _ _ _ (λ e _. absurd (not_both e vpa-hvp.1))
          (λ _. either_line IsN _ _ _ (λ e _. absurd (⊎_elim (λ i. single 0x49 (omega arith) (omega arith) i) (λ z. not_both z after-z.0) (one_holds e)))
          (λ _. either_line IsN _ _ _ (λ e _. absurd (not_both e w))
          (λ _. either_line IsN _ _ _ (λ e _. absurd (⊎_elim (λ named. not_both named j) (λ named. not_both named k) (one_holds e)))
          (λ _. either_line IsN _ _ _ (λ e _. absurd (not_both e m))
          (λ _. either_line IsN _ _ _ (λ e _. absurd (⊎_elim (λ named. not_both named h) (λ named. not_both named l) (one_holds e)))
          (λ _. either_line IsN _ _ _ (λ e _. e)
          (λ _. either_line IsN _ _ _ (λ e _. absurd (not_both e o)) (λ _ none. absurd (omega arith)))))))))))))) some

      plain_letters : ((allowed 0x57).zero_is ≡ 0) × ((allowed 0x4A).zero_is ≡ 0) × ((allowed 0x4B).zero_is ≡ 0) × ((allowed 0x6F).zero_is ≡ 0) × ((allowed 0x6E).zero_is ≡ 0)
      unfolding allowed If◌then◌else◌ ◌and◌ ◌or◌ ◌is◌to◌
      plain_letters = (refl, refl, refl, refl, refl)

      first_plain : (letter : ℕ) → eqb final letter ≡ true → (allowed letter).zero_is ≡ 0 → value_of final half.arguments 0 ≡ argument_of half 0
      first_plain letter named plain = value_plain 0 (zero_is letter 0 named plain)

      pub listed_weighed : 1 ≤ (allowed final).most → Weighed t final (listed_step final half.arguments half.count there)
      unfolding listed_step
      listed_weighed some =
          line move_weighed
          (λ other. line (λ e. tab_weighed _ (first_plain 0x57 e plain_letters.0) e)
          (λ w. line (λ e. erase_weighed 0x4A e J_takes J_value _ _ _ (first_plain 0x4A e plain_letters.1))
          (λ j. line (λ e. erase_weighed 0x4B e K_takes K_value _ _ _ (first_plain 0x4B e plain_letters.2))
          (λ k. line (λ e. area_weighed _ (first_plain 0x6F e plain_letters.3) e)
          (λ o. line rendition_weighed
          (λ m. line (λ e. mode_weighed 0x68 e h_takes h_value true)
          (λ h. line (λ e. mode_weighed 0x6C e l_takes l_value false)
          (λ l. let n = is_n some other w j k o m h l in status_weighed _ (first_plain 0x6E n plain_letters.4) n))))))))
