-- Every line of the keys' table is sound, from a valid terminal. The proofs follow the definitions line by line.
use mathlib.Core.Path.{◌≡◌, refl}
use mathlib.Core.Bool.{Bool, true, false}
use mathlib.Core.List.Memᴰ
use mathlib.Core.List.{List}
use Prim.Native.Nat.{ℕ, ◌-◌, ◌<◌, ◌≤◌}
use native.Mathlib.Omega.{arith}
use lib.ListN.{length}
use Rattle.words.specs.Choice.{If◌then◌else◌}
use Rattle.words.proofs.Choosing.{either_line}
use Rattle.page.specs.Page.{part_stored, mark_after_block}
use Rattle.page.proofs.Keeping.{KeepsPart, blanked_keeps, closed_up_keeps, moved_right_keeps}
use Rattle.page.proofs.Protecting.{typed_modified, tagged_modified}
use Rattle.places.specs.Places.{place_of}
use Rattle.places.proofs.Counting.{on_rows}
use Rattle.places.specs.declared.Place.{Place}
use Rattle.std.specs.Prelude.{Option}
use Rattle.fields.proofs.Claims.{Lands, on_cell, not_found}
use Rattle.fields.proofs.Bounds.{end_of_lem}
use Rattle.fields.proofs.Searching.{either_lands}
use Rattle.fields.proofs.Theorems.{next_field_lands, previous_field_lands, first_unprotected_lands, next_unprotected_lands}
use Rattle.state.specs.declared.State.{State}
use Rattle.state.proofs.Keeping.{KeepsValid, up_keeps_valid, down_keeps_valid, right_keeps_valid, left_keeps_valid, cursor_keeps_valid, unlocked_keeps_valid}
use Rattle.steps.specs.Steps.{Terminal, block_transmission, Stepped, goes_to, stores, cursor_cell, Valid}
use Rattle.steps.specs.Claims.{mark_left}
use Rattle.sending.specs.Sending.{sends_full, send_block}
use Rattle.keys.specs.Keys.{is_typing, cells_from, gone_to, typed_step, to_next_field, to_previous_field, to_first_unprotected, field_blanked, rest_shifted, taken_step, key_step}
use Rattle.steps.specs.Seen.{cells_here, unprotected_at, start_here, end_here}
use Rattle.steps.proofs.Naming.{named_between, places_rise}
use Rattle.steps.proofs.Storing.{typed_stored, part_stored_lem}
use Rattle.steps.proofs.Soundness.{Sound, cursor_on_page, goes_soundly, stores_soundly, clears_soundly}
use Rattle.steps.proofs.Measuring.{Measured, measured}
use Rattle.keys.proofs.Claims.{Tags, KeySound}
use Rattle.keys.proofs.Always.{field_unprotected, key_always}
use Rattle.keys.proofs.Taking.{stored_taken}

-- Both blocks clear modified.
block_clears : (full : Bool) (bytes : List ℕ) (mark : ℕ) → mark_left (block_transmission full bytes) mark ≡ mark_after_block mark
unfolding mark_left block_transmission
block_clears true bytes mark = refl
block_clears false bytes mark = refl

module _ (t : Terminal) (valid : Valid t) where
  abbrev Holds : Stepped → Type 0
  Holds step = Sound t step × Tags t.page step.cells step.terminal.page

  line : {test : Bool} {a b : Stepped} → (test ≡ true → Holds a) → Holds b → Holds (If test then a else b)
  line {test} {a} {b} first rest = either_line Holds test a b first (λ _. rest)

  -- What is known of a valid terminal.
  size : Measured t
  size = measured valid

  on_page : cursor_cell t.state < length t.page.marks
  on_page = cursor_on_page t valid

  end_on_page : end_here t ≤ length t.page.marks
  end_on_page = rw size.as_many (end_of_lem (unprotected_at t) (cells_here t) (cursor_cell t.state) size.cursor_inside).on_page

  -- The cursor stays on the page.
  stays : KeepsValid t.state t.state
  stays = record { size = refl; valid = valid.state }

  gone_keeps_valid : {sought : Option Place} → Lands t.state.size.columns (cells_here t) sought → KeepsValid t.state (gone_to sought t.state)
  unfolding gone_to place_of
  gone_keeps_valid (on_cell cell here) =
      let known = size in
      let place = on_rows (place_of t.state.size.columns cell) t.state.size.rows known.some_columns (omega arith) in
      cursor_keeps_valid t.state valid.state _ _ (omega arith, place.0) (omega arith, place.1)
  gone_keeps_valid not_found = stays

  -- The kinds of steps.
  goes : (s : State) → KeepsValid t.state s → Holds (goes_to s t)
  goes s keeps = (goes_soundly t valid s keeps, λ cell named. absurd (Memᴰ.not-nil named))

  goes_to_lem : {sought : Option Place} → Lands t.state.size.columns (cells_here t) sought → Holds (goes_to (gone_to sought t.state) t)
  goes_to_lem {sought} lands = goes (gone_to sought t.state) (gone_keeps_valid lands)

  clears : (full : Bool) → Holds (send_block full t)
  unfolding send_block
  clears full = (clears_soundly t valid (block_transmission full _) (block_clears full _), λ cell named. absurd (Memᴰ.not-nil named))

  typed_holds : (key : ℕ) → is_typing key ≡ true → Holds (typed_step key t)
  unfolding typed_step is_typing
  typed_holds key typing =
      line (λ here.
      let cursor = cursor_cell t.state in (
        stores_soundly t valid _ false _ _ (gone_keeps_valid (next_unprotected_lands (unprotected_at t) t.state.size.columns (cells_here t) cursor size.cursor_inside)) (typed_stored t.page valid.page cursor key on_page typing),
        λ cell named. let same = Memᴰ.eq_of_singleton named in (rw same here, rw same (typed_modified t.page cursor key on_page)),
      ))
      (goes t.state stays)

  part_holds : {change : List ℕ → List ℕ} → KeepsPart change → (from to : ℕ) → from < to → to ≤ length t.page.marks → ((cell : ℕ) → from ≤ cell → cell < to → unprotected_at t cell ≡ true) → (s : State) → KeepsValid t.state s → Holds (stores (cells_from from to) false s (part_stored change from to t.page))
  part_holds keeps from to some fits all_unprotected s kept = (
    stores_soundly t valid (cells_from from to) false s _ kept (part_stored_lem t.page valid.page size.as_many keeps from to some fits),
    λ cell named.
        let between = named_between (places_rise (λ _. true) to from (to - from) (omega arith)) cell named in
        (all_unprotected cell between.0 between.1, tagged_modified from to t.page.marks cell between.0 between.1 (omega arith)),
  )

  blanked_holds : Holds (field_blanked t)
  unfolding field_blanked
  blanked_holds =
      line (λ here.
      let field = field_unprotected t here in
      let end = end_on_page in
      let known = size in
      part_holds blanked_keeps (start_here t) (end_here t) (omega arith) end field.all_unprotected _ (gone_keeps_valid (on_cell (start_here t) (omega arith))))
      (goes t.state stays)

  shifted_holds : {change : List ℕ → List ℕ} → KeepsPart change → Holds (rest_shifted change t)
  unfolding rest_shifted
  shifted_holds keeps =
      line (λ here.
      let field = field_unprotected t here in
      part_holds keeps (cursor_cell t.state) (end_here t) field.high end_on_page (λ cell low high. field.all_unprotected cell (omega arith) high) t.state stays)
      (goes t.state stays)

  table_holds : (key : ℕ) → Holds (key_step key t)
  unfolding key_step taken_step to_next_field to_previous_field to_first_unprotected
  table_holds key =
      let s = t.state in
      let ok = valid.state in
      let columns = s.size.columns in
      let cells = cells_here t in
      let here = size.cursor_inside in
      line (λ _. goes s stays)
      (line (λ _. goes s stays)
      (line (typed_holds key)
      (line (λ _. goes _ (up_keeps_valid s ok 1))
      (line (λ _. goes _ (down_keeps_valid s ok 1))
      (line (λ _. goes _ (left_keeps_valid s ok 1))
      (line (λ _. goes _ (right_keeps_valid s ok 1))
      (line (λ _. goes_to_lem (next_field_lands (unprotected_at t) columns cells (cursor_cell s)))
      (line (λ _. goes_to_lem (previous_field_lands (unprotected_at t) columns cells (cursor_cell s)))
      (line (λ _. goes_to_lem (either_lands columns (first_unprotected_lands (unprotected_at t) columns cells) (on_cell 0 (omega arith))))
      (line (λ _. blanked_holds)
      (line (λ _. shifted_holds closed_up_keeps)
      (line (λ _. shifted_holds moved_right_keeps)
      (line (λ _. clears (sends_full t.state))
      (line (λ _. goes _ (unlocked_keeps_valid s ok)) (goes s stays)))))))))))))))

pub key_holds : (key : ℕ) (t : Terminal) → Valid t → KeySound key t (key_step key t)
key_holds key t valid = let holds = table_holds t valid key in record { always = key_always key t; sound = holds.0; tags = holds.1; takes = stored_taken t valid key }
