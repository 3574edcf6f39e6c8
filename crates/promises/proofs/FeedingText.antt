-- The text of a field: its characters are stored from the cursor on, cell by cell.
use mathlib.Core.Path.{◌≡◌, refl, sym, ap, ◌∙◌}
use mathlib.Core.Bool.{true, not}
use mathlib.Core.List.{List, [], ◌∷◌}
use mathlib.Core.Logic.{inl, inr, ⊎_elim}
use Prim.Native.Nat.{ℕ, zero, suc, ◌+◌, ◌-◌, ◌*◌, ◌<◌, ◌≤◌}
use native.Mathlib.Nat.{eq-or-lt_of_le}
use native.Mathlib.Omega.{arith}
use borrow.Author.Tests.{ltb-false, eqb-true, eqb-false}
use lib.Dec.{eqb}
use lib.ListN.{length, take, drop, get_or, set}
use lib.Seq.{get_or-set_same, get_or-set_other}
use Rattle.words.proofs.Choosing.{then_case, either_line, either_way, both}
use Rattle.words.proofs.Passing.{passes}
use Rattle.words.proofs.Walking.{next_element, once_more}
use Rattle.sequence.specs.declared.HalfRead.{HalfRead}
use Rattle.sequence.specs.declared.Event.TheVariants.{Text}
use Rattle.sequence.specs.Record.{nothing_read}
use Rattle.sequence.specs.Reading.{ends, outside_sequence, advance_of}
use Rattle.page.specs.Marks.{is_protected, valid_character, unprotected}
use Rattle.page.specs.Page.{cells, valid_page, text_stored}
use Rattle.state.specs.declared.State.{State}
use Rattle.steps.specs.Steps.{Terminal, cursor_cell, Valid}
use Rattle.state.specs.Moves.{to_next_cell}
use Rattle.commands.specs.Text.{text_step}
use Rattle.commands.specs.Host.{event_step, host_step}
use Rattle.steps.proofs.Measuring.{measured}
use Rattle.promises.proofs.FeedingRuns.{reading, step_is, arrived, leads_on}
use Rattle.promises.proofs.FeedingCells.{Filled, Ready, Feeds, ready_again, same_lengths, feeds_none, feeds_then}

-- A character 20 to 7E outside a sequence is text.
text_event : (character : ℕ) → valid_character character ≡ true → advance_of nothing_read character ≡ ends (Text character)
unfolding advance_of outside_sequence
text_event character printable = then_case _ _ _ refl ∙ then_case _ _ _ printable

text_step_lem : (t : Terminal) (character : ℕ) → t.state.half ≡ nothing_read → valid_character character ≡ true → host_step character t ≡ text_step character t
unfolding event_step text_step
text_step_lem t character nothing printable =
    step_is t character (ap (λ (half : HalfRead). advance_of half character) nothing ∙ text_event character printable)
    (ap (λ (half : HalfRead). text_step character (reading t half)) (sym nothing))

-- After text: half-read record and modes stay, and the cursor goes on by one cell, but from the last.
next_keeps : (s : State) → ((to_next_cell s).half ≡ s.half) × ((to_next_cell s).modes ≡ s.modes)
unfolding to_next_cell
next_keeps s =
    let Same : State → Type 0 = λ next. (next.half ≡ s.half) × (next.modes ≡ s.modes) in
    either_line Same _ _ _ (λ _. (refl, refl)) (λ _. either_line Same _ _ _ (λ _. (refl, refl)) (λ _. (refl, refl)))

next_cell : {t : Terminal} → Valid t → cursor_cell t.state + 1 < cells t.page → cursor_cell (to_next_cell t.state) ≡ cursor_cell t.state + 1
unfolding to_next_cell
next_cell {t} valid more =
    let s = t.state in
    let known = measured valid in
    let on = known.on_page in
    let row-end = once_more (s.cursor.row - 1) s.size.columns in
    let Next : State → Type 0 = λ next. cursor_cell next ≡ cursor_cell s + 1 in
    either_line Next _ _ _ (λ _. omega arith)
    (λ not_before.
    let last-column = ltb-false s.cursor.column s.size.columns not_before in
    either_line Next _ _ _
    (λ _. let below : s.cursor.row + 1 - 1 ≡ s.cursor.row - 1 + 1 = omega arith in rw below (omega arith))
    (λ not-above.
    let last_row = ltb-false s.cursor.row s.size.rows not-above in
    let rows : s.size.rows ≡ s.cursor.row - 1 + 1 = omega arith in
    absurd (omega (arith, ap (λ (n : ℕ). n * s.size.columns) rows))))

module _ (sender : Terminal) (valid : Valid sender) where
  abbrev character_at : ℕ → ℕ
  character_at cell = get_or sender.page.characters cell 0

  sender_character : (cell : ℕ) → cell < length sender.page.characters → valid_character (character_at cell) ≡ true
  unfolding valid_page
  sender_character = passes valid_character sender.page.characters (both valid.page).0

  -- One character, at the cursor's cell.
  module _ (t : Terminal) (cell : ℕ) (ready : Ready sender t) (here : cursor_cell t.state ≡ cell) (inside : cell < length sender.page.characters) where
    abbrev next : Terminal
    next = (text_step (character_at cell) t).terminal

    set_here : (list : List ℕ) (value k : ℕ) → cell < length list → k ≡ cell → get_or (set list (cursor_cell t.state) value) k 0 ≡ value
    set_here list value k on same =
        ap (λ (at : ℕ). get_or (set list (cursor_cell t.state) value) at 0) (same ∙ sym here)
        ∙ get_or-set_same list (cursor_cell t.state) value 0 (omega arith)

    set_elsewhere : (list : List ℕ) (value k : ℕ) → (k ≡ cell → ⊥) → get_or (set list (cursor_cell t.state) value) k 0 ≡ get_or list k 0
    set_elsewhere list value k other = get_or-set_other list (cursor_cell t.state) k value 0 (λ same. other (same ∙ here))

    filled_here : (k : ℕ) → k ≡ cell → Filled sender.page next.page k
    unfolding text_step text_stored unprotected
    filled_here k same =
        let lengths = same_lengths valid ready in
        record {
          character = set_here t.page.characters (character_at cell) k (omega arith) same ∙ ap character_at (sym same);
          cell_unprotected =
              ap (λ (mark : ℕ). not (is_protected mark)) (set_here t.page.marks t.state.modes.pen k (omega (arith, (measured ready.valid).as_many)) same)
              ∙ ap not ready.unprotected_pen;
        }

    filled_elsewhere : (k : ℕ) → (k ≡ cell → ⊥) → Filled sender.page t.page k → Filled sender.page next.page k
    unfolding text_step text_stored unprotected
    filled_elsewhere k other filled =
        record {
          character = set_elsewhere t.page.characters (character_at cell) k other ∙ filled.character;
          cell_unprotected = ap (λ (mark : ℕ). not (is_protected mark)) (set_elsewhere t.page.marks t.state.modes.pen k other) ∙ filled.cell_unprotected;
        }

    character_feeds : Feeds sender t (character_at cell ∷ []) next (λ k. k ≡ cell)
    unfolding text_step text_stored
    character_feeds = record {
      leads =
          leads_on (character_at cell) (text_step_lem t (character_at cell) ready.nothing_half_read (sender_character cell inside)) refl refl (arrived refl);
      nothing_half_read = (next_keeps t.state).0 ∙ ready.nothing_half_read;
      same_pen = λ i. ((next_keeps t.state).1 i).pen;
      fills = filled_here;
      stays_filled = λ k filled. either_way (eqb k cell) (λ same. filled_here k (eqb-true k cell same)) (λ other. filled_elsewhere k (eqb-false k cell other) filled);
      keeps = λ k other. record { character = set_elsewhere t.page.characters (character_at cell) k other; mark = set_elsewhere t.page.marks t.state.modes.pen k other };
    }

    next_cursor : cell + 1 < length sender.page.characters → cursor_cell next.state ≡ cell + 1
    unfolding text_step
    next_cursor more =
        let more-cells : cursor_cell t.state + 1 < cells t.page = omega (arith, (same_lengths valid ready).1) in
        next_cell ready.valid more-cells ∙ ap (λ (k : ℕ). k + 1) here

  first_character : (n cell : ℕ) → cell < length sender.page.characters → take (suc n) (drop cell sender.page.characters) ≡ character_at cell ∷ take n (drop (cell + 1) sender.page.characters)
  first_character n cell inside = ap (take (suc n)) (next_element sender.page.characters cell 0 inside)

  -- The characters of n cells. After the last of them the cursor may stand anywhere.
  pub text_feeds : (n cell : ℕ) (t : Terminal) → Ready sender t → (0 < n → cursor_cell t.state ≡ cell) → cell + n ≤ length sender.page.characters
      → (end : Terminal) × Feeds sender t (take n (drop cell sender.page.characters)) end (λ k. (cell ≤ k) × (k < cell + n))
  text_feeds zero cell t ready here fits = (t, feeds_none (arrived refl) ready.nothing_half_read refl refl (λ k fed. omega arith))
  text_feeds (suc n) cell t ready here fits =
      let inside : cell < length sender.page.characters = omega arith in
      let at : cursor_cell t.state ≡ cell = here (omega arith) in
      let one = character_feeds t cell ready at inside in
      let rest = text_feeds n (cell + 1) (next t cell ready at inside) (ready_again ready one) (λ some. next_cursor t cell ready at inside (omega arith)) (omega arith) in (
        rest.0,
        rw (first_character n cell inside)
            (feeds_then one rest.1
            (λ k fed. ⊎_elim (λ same. inl (sym same)) (λ later. inr (omega arith, omega arith)) (eq-or-lt_of_le fed.0))
            (λ k same. (omega arith, omega arith))
            (λ k fed. (omega arith, omega arith))),
      )
