-- Every line of the keys' table keeps what is claimed of a key in any state. The proofs follow the definitions line by
-- line.
use mathlib.Core.Path.{◌≡◌, refl, sym, ap, ◌∙◌}
use mathlib.Core.Bool.{Bool, true, false}
use mathlib.Core.List.{List}
use mathlib.Core.Logic.{◌⊎◌, inl, inr}
use Prim.Native.Nat.{ℕ, ◌<◌, ◌≤◌}
use native.Mathlib.Omega.{arith}
use borrow.Author.Tests.{eqb-true, eq-eqb}
use lib.ListN.{get_or}
use lib.Seq.{get_or-set_other}
use Rattle.words.specs.Choice.{If◌then◌else◌}
use Rattle.words.proofs.Choosing.{not_both, either_line, first_decides}
use Rattle.words.proofs.Writing.{outside_part}
use Rattle.page.specs.Marks.{has_bit}
use Rattle.page.specs.Page.{Page, typed, part_stored}
use Rattle.page.proofs.Keeping.{KeepsPart, blanked_keeps, closed_up_keeps, moved_right_keeps}
use Rattle.page.proofs.Protecting.{typed_bit, untagged, tagged_bit, cleared_marks_bit, protected_uncleared}
use Rattle.places.specs.declared.Place.{Place}
use Rattle.std.specs.Prelude.{Option, Some, None}
use Rattle.fields.specs.Required.{some_left_blank}
use Rattle.fields.proofs.Claims.{UnprotectedAround}
use Rattle.fields.proofs.Theorems.{unprotected_around}
use Rattle.state.specs.declared.State.{State}
use Rattle.state.specs.State.{unlocked}
use Rattle.state.specs.Moves.{up_by, down_by, right_by, left_by}
use Rattle.blocks.specs.Blocks.{block}
use Rattle.steps.specs.Steps.{Terminal, Stepped, goes_to, stores, cursor_cell}
use Rattle.sending.specs.Sending.{sends_full, send_block}
use Rattle.keys.specs.Keys.{is_typing, is_held_back, cells_from, gone_to, typed_step, to_next_field, to_previous_field, to_first_unprotected, field_blanked, rest_shifted, taken_step, key_step}
use Rattle.steps.specs.Seen.{seen, cells_here, unprotected_at, start_here, end_here}
use Rattle.steps.proofs.Transmissions.{silent_is_no_full, silent_is_no_changed, silent_is_no_report, told_full, told_changed, block_is_no_report}
use Rattle.keys.proofs.Claims.{KeyStores, no_cell, typed_cell, whole_field, rest_of_field, KeyAlways}
use Rattle.steps.specs.Claims.{ProtectedKept}

-- A move to what was found leaves the locks, pen and modes.
gone_keeps_locks : (sought : Option Place) (s : State) → (gone_to sought s).locks ≡ s.locks
unfolding gone_to
gone_keeps_locks (Some place) s = refl
gone_keeps_locks None s = refl

gone_keeps_modes : (sought : Option Place) (s : State) → (gone_to sought s).modes ≡ s.modes
unfolding gone_to
gone_keeps_modes (Some place) s = refl
gone_keeps_modes None s = refl

-- The cursor's field, in any state.
pub field_unprotected : (t : Terminal) → unprotected_at t (cursor_cell t.state) ≡ true → UnprotectedAround (unprotected_at t) (cells_here t) (cursor_cell t.state)
field_unprotected t = unprotected_around (unprotected_at t) (cells_here t) (cursor_cell t.state)

module _ (key : ℕ) (t : Terminal) where
  abbrev Always : Stepped → Type 0
  Always step = KeyAlways key t step

  line : {test : Bool} {a b : Stepped} → (test ≡ true → Always a) → Always b → Always (If test then a else b)
  line {test} {a} {b} first rest = either_line Always test a b first (λ _. rest)

  -- The kinds of steps.
  puts : {cells : List ℕ} (s : State) (page : Page) → KeyStores key t cells → ((key ≡ 268 → ⊥) → s.locks ≡ t.state.locks) → s.modes ≡ t.state.modes → ((cell : ℕ) → unprotected_at t cell ≡ false → ProtectedKept t.page page cell) → ((k : ℕ) → (k ≡ 1 → ⊥) → (cell : ℕ) → has_bit k (get_or page.marks cell 0) ≡ has_bit k (get_or t.page.marks cell 0)) → Always (stores cells false s page)
  puts s page names locks modes protected bits = record {
    stored = names;
    by_full_block = λ bytes e. absurd (silent_is_no_full bytes e);
    by_changed_block = λ bytes e. absurd (silent_is_no_changed bytes e);
    no_report = λ bytes e. silent_is_no_report bytes e;
    not_refused = refl;
    locks = locks;
    modes = modes;
    protected = protected;
    bits = bits;
  }

  goes : (s : State) → ((key ≡ 268 → ⊥) → s.locks ≡ t.state.locks) → s.modes ≡ t.state.modes → Always (goes_to s t)
  goes s locks modes = puts s t.page no_cell locks modes (λ cell p. record { character = λ _. refl; mark = refl }) (λ k other cell. refl)

  goes_to_lem : (sought : Option Place) → Always (goes_to (gone_to sought t.state) t)
  goes_to_lem sought = goes (gone_to sought t.state) (λ _. gone_keeps_locks sought t.state) (gone_keeps_modes sought t.state)

  stays : Always (goes_to t.state t)
  stays = goes t.state (λ _. refl) refl

  sends_filled : key ≡ 266 → is_held_back key t ≡ false → some_left_blank (seen t) ≡ false
  unfolding is_held_back
  sends_filled asked free = sym (first_decides _ _ (eq-eqb key 266 asked)) ∙ free

  clears : key ≡ 266 → is_held_back key t ≡ false → Always (send_block (sends_full t.state) t)
  unfolding send_block
  clears asked free =
      let full = sends_full t.state in
      let columns = t.state.size.columns in
      let said = block full columns t.page in
      let filled = sends_filled asked free in
      record {
        stored = no_cell;
        by_full_block = λ bytes e.
            let told = told_full said bytes full e in
            record { asked = record { key_266 = asked; by_mode = told.0; none_blank = filled }; of_page = told.1 ∙ ap (λ (f : Bool). block f columns t.page) told.0; no_cell = refl };
        by_changed_block = λ bytes e.
            let told = told_changed said bytes full e in
            record { asked = record { key_266 = asked; by_mode = told.0; none_blank = filled }; of_page = told.1 ∙ ap (λ (f : Bool). block f columns t.page) told.0; no_cell = refl };
        no_report = λ bytes e. block_is_no_report said bytes full e;
        not_refused = refl;
        locks = λ _. refl;
        modes = refl;
        protected = λ cell p. record { character = λ _. refl; mark = protected_uncleared t.page.marks cell p };
        bits = λ k other cell. cleared_marks_bit k other t.page.marks cell;
      }

  -- Storing: no cell that is stored is protected.
  puts_part : {change : List ℕ → List ℕ} → KeepsPart change → (from to : ℕ) → from < to → ((cell : ℕ) → from ≤ cell → cell < to → unprotected_at t cell ≡ true) → KeyStores key t (cells_from from to) → (s : State) → s.locks ≡ t.state.locks → s.modes ≡ t.state.modes → Always (stores (cells_from from to) false s (part_stored change from to t.page))
  puts_part {change} keeps from to some all_unprotected names s locks modes =
      puts s (part_stored change from to t.page) names (λ _. locks) modes
      (λ cell p.
      let outside : from ≤ cell → cell < to → ⊥ = λ low high. not_both (all_unprotected cell low high) p in
      record {
        character = λ here. outside_part from to change t.page.characters some keeps.size cell here outside;
        mark = untagged from to t.page.marks cell outside;
      })
      (λ k other cell. tagged_bit k other from to t.page.marks cell)

  typed_always : is_typing key ≡ true → Always (typed_step key t)
  unfolding typed_step typed
  typed_always typing =
      line (λ here.
      let cursor = cursor_cell t.state in
      puts _ (typed cursor key t.page) (typed_cell here typing) (λ _. gone_keeps_locks _ t.state) (gone_keeps_modes _ t.state)
      (λ cell p.
      let other : cell ≡ cursor → ⊥ = λ e. not_both here (rw e at p) in
      record { character = λ _. get_or-set_other t.page.characters cursor cell key 0 other; mark = get_or-set_other t.page.marks cursor cell _ 0 other })
      (λ k different cell. typed_bit k different t.page cursor key cell))
      stays

  blanked_always : key ≡ 263 → Always (field_blanked t)
  unfolding field_blanked
  blanked_always asked =
      line (λ here.
      let field = field_unprotected t here in
      puts_part blanked_keeps (start_here t) (end_here t) (omega arith) field.all_unprotected (whole_field here asked) _ (gone_keeps_locks _ t.state) (gone_keeps_modes _ t.state))
      stays

  shifted_always : {change : List ℕ → List ℕ} → KeepsPart change → (key ≡ 264) ⊎ (key ≡ 265) → Always (rest_shifted change t)
  unfolding rest_shifted
  shifted_always keeps asked =
      line (λ here.
      let field = field_unprotected t here in
      puts_part keeps (cursor_cell t.state) (end_here t) field.high (λ cell low high. field.all_unprotected cell (omega arith) high) (rest_of_field here asked) t.state refl refl)
      stays

  pub key_always : KeyAlways key t (key_step key t)
  unfolding key_step taken_step up_by down_by left_by right_by unlocked to_next_field to_previous_field to_first_unprotected
  key_always =
      line (λ _. stays)
      (either_line Always (is_held_back key t) _ _ (λ _. stays) (λ free.
      line typed_always
      (line (λ _. goes _ (λ _. refl) refl)
      (line (λ _. goes _ (λ _. refl) refl)
      (line (λ _. goes _ (λ _. refl) refl)
      (line (λ _. goes _ (λ _. refl) refl)
      (line (λ _. goes_to_lem _)
      (line (λ _. goes_to_lem _)
      (line (λ _. goes_to_lem _)
      (line (λ e. blanked_always (eqb-true key 263 e))
      (line (λ e. shifted_always closed_up_keeps (inl (eqb-true key 264 e)))
      (line (λ e. shifted_always moved_right_keeps (inr (eqb-true key 265 e)))
      (line (λ e. clears (eqb-true key 266 e) free)
      (line (λ e. goes (unlocked t.state) (λ other. absurd (other (eqb-true key 268 e))) refl) stays))))))))))))))
