-- M-103: every cell that a key stores holds a character that it takes. The proofs follow the definitions line by line.
use mathlib.Core.Path.{◌≡◌, sym, ap, ◌∙◌}
use mathlib.Core.Bool.{Bool, true, false}
use mathlib.Core.List.Memᴰ
use mathlib.Core.List.{List, []}
use Prim.Native.Nat.{ℕ, ◌+◌, ◌-◌, ◌<◌, ◌≤◌}
use native.Mathlib.Omega.{arith}
use borrow.Author.Tests.{eqb-true, not-false}
use lib.ListN.{get_or}
use lib.Seq.{get_or-set_same}
use Rattle.words.specs.Choice.{If◌then◌else◌, ◌and◌, ◌is◌to◌}
use Rattle.words.proofs.Choosing.{then_case, either_line, less_or_not}
use Rattle.words.proofs.Ranges.{in_range}
use Rattle.page.specs.Marks.{takes}
use Rattle.page.specs.Page.{typed, part_stored, takes_from_right, takes_from_left, blanked, closed_up, moved_right}
use Rattle.page.proofs.Carrying.{blanked_at, closed_up_at, closed_up_last, moved_right_first, moved_right_at}
use Rattle.steps.specs.Steps.{Terminal, Stepped, Valid, cursor_cell}
use Rattle.sending.specs.Sending.{sends_full, send_block}
use Rattle.keys.specs.Keys.{is_typing, cells_from, carried, is_not_taken, typed_step, to_next_field, to_previous_field, to_first_unprotected, field_blanked, rest_shifted, taken_step, key_step}
use Rattle.steps.specs.Seen.{character_at, takes_at, start_here, end_here}
use Rattle.steps.proofs.Naming.{named_between, places_rise}
use Rattle.steps.proofs.Measuring.{measured}
use Rattle.keys.proofs.Laws.{rest_on_page}
use Rattle.keys.proofs.Claims.{Takes}
use Rattle.keys.proofs.Always.{field_unprotected}

-- A 20 is taken everywhere.
takes_blank : (mark character : ℕ) → character ≡ 0x20 → takes mark character ≡ true
unfolding takes If◌then◌else◌
takes_blank mark character blank = ap (takes mark) blank

-- What line 8 asks of each cell that a character comes into.
module _ (t : Terminal) where
  abbrev cursor : ℕ
  cursor = cursor_cell t.state

  typed_taken : (key : ℕ) → is_typing key ≡ true → is_not_taken key t ≡ false → takes_at t cursor key ≡ true
  unfolding is_not_taken
  typed_taken key typing taken = not-false _ (sym (then_case _ _ _ typing) ∙ taken)

  taken_on_the_left : is_not_taken 264 t ≡ false → (cell : ℕ) → cursor ≤ cell → cell + 1 < end_here t → takes_at t cell (character_at t (cell + 1)) ≡ true
  unfolding is_not_taken is_typing ◌is◌to◌ ◌and◌ If◌then◌else◌ takes_from_right
  taken_on_the_left taken cell low high = in_range _ cursor (carried t) cell (not-false _ taken) low (omega arith)

  taken_on_the_right : is_not_taken 265 t ≡ false → (cell : ℕ) → cursor < cell → cell < end_here t → takes_at t cell (character_at t (cell - 1)) ≡ true
  unfolding is_not_taken is_typing ◌is◌to◌ ◌and◌ If◌then◌else◌ takes_from_left
  taken_on_the_right taken cell low high =
      let next : cell - 1 + 1 ≡ cell = omega arith in
      rw next at (in_range _ cursor (carried t) (cell - 1) (not-false _ taken) (omega arith) (omega arith))

module _ (t : Terminal) (valid : Valid t) where
  abbrev Taken : Stepped → Type 0
  Taken step = Takes t.page step.cells step.terminal.page

  line : (test : Bool) (a b : Stepped) → (test ≡ true → Taken a) → Taken b → Taken (If test then a else b)
  line test a b first rest = either_line Taken test a b first (λ _. rest)

  -- A step that stores no cell.
  stays : Takes t.page [] t.page
  stays cell named = absurd (Memᴰ.not-nil named)

  clears : (full : Bool) → Taken (send_block full t)
  unfolding send_block
  clears full cell named = absurd (Memᴰ.not-nil named)

  typed-takes : (key : ℕ) → is_not_taken key t ≡ false → is_typing key ≡ true → Taken (typed_step key t)
  unfolding typed_step typed
  typed-takes key taken typing =
      line _ _ _ (λ here cell named.
      let stored = get_or-set_same t.page.characters (cursor t) key 0 (measured valid).cursor_inside in
      rw (Memᴰ.eq_of_singleton named, stored) (typed_taken t key typing taken))
      stays

  -- The cells from one to before another.
  part_takes : (change : List ℕ → List ℕ) (from end : ℕ) → from < end → ((cell : ℕ) → from ≤ cell → cell < end → takes_at t cell (get_or (part_stored change from end t.page).characters cell 0) ≡ true) → Takes t.page (cells_from from end) (part_stored change from end t.page)
  part_takes change from end some all cell named =
      let between = named_between (places_rise (λ _. true) end from (end - from) (omega arith)) cell named in
      all cell between.0 between.1

  blanked-takes : Taken (field_blanked t)
  unfolding field_blanked
  blanked-takes =
      line _ _ _ (λ here.
      let field = field_unprotected t here in
      let some : start_here t < end_here t = omega arith in
      part_takes blanked (start_here t) (end_here t) some
      (λ cell low high. takes_blank _ _ (blanked_at (start_here t) (end_here t) t.page.characters some (rest_on_page valid).on_page cell low high)))
      stays

  closed_up_takes : is_not_taken 264 t ≡ false → Taken (rest_shifted closed_up t)
  unfolding rest_shifted
  closed_up_takes taken =
      let rest = rest_on_page valid in
      line _ _ _ (λ here.
      part_takes closed_up (cursor t) (end_here t) rest.some
      (λ cell low high.
      less_or_not (cell + 1) (end_here t)
      (λ more. rw (closed_up_at (cursor t) (end_here t) t.page.characters rest.some rest.on_page cell low more) (taken_on_the_left t taken cell low more))
      (λ last. takes_blank _ _ (closed_up_last (cursor t) (end_here t) t.page.characters rest.some rest.on_page cell (omega arith)))))
      stays

  moved_right_takes : is_not_taken 265 t ≡ false → Taken (rest_shifted moved_right t)
  unfolding rest_shifted
  moved_right_takes taken =
      let rest = rest_on_page valid in
      line _ _ _ (λ here.
      part_takes moved_right (cursor t) (end_here t) rest.some
      (λ cell low high.
      less_or_not (cursor t) cell
      (λ later. rw (moved_right_at (cursor t) (end_here t) t.page.characters rest.some rest.on_page cell later high) (taken_on_the_right t taken cell later high))
      (λ first.
      let same : cell ≡ cursor t = omega arith in
      rw same (takes_blank _ _ (moved_right_first (cursor t) (end_here t) t.page.characters rest.some rest.on_page)))))
      stays

  taken_takes : (key : ℕ) → is_not_taken key t ≡ false → Taken (taken_step key t)
  unfolding taken_step to_next_field to_previous_field to_first_unprotected
  taken_takes key taken =
      line _ _ _ (typed-takes key taken)
      (line _ _ _ (λ _. stays)
      (line _ _ _ (λ _. stays)
      (line _ _ _ (λ _. stays)
      (line _ _ _ (λ _. stays)
      (line _ _ _ (λ _. stays)
      (line _ _ _ (λ _. stays)
      (line _ _ _ (λ _. stays)
      (line _ _ _ (λ _. blanked-takes)
      (line _ _ _ (λ e. closed_up_takes (rw (eqb-true key 264 e) at taken))
      (line _ _ _ (λ e. moved_right_takes (rw (eqb-true key 265 e) at taken))
      (line _ _ _ (λ _. clears (sends_full t.state))
      (line _ _ _ (λ _. stays) stays))))))))))))

  pub stored_taken : (key : ℕ) → Takes t.page (key_step key t).cells (key_step key t).terminal.page
  unfolding key_step
  stored_taken key = either_line Taken _ _ _ (λ _. stays) (λ taken. line _ _ _ (λ _. stays) (taken_takes key taken))
