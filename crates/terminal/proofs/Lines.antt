-- Lines 4, 5, 7, 8 and 9, clause by clause: the tests that run hold exactly when the lines do.
use mathlib.Core.Path.{◌≡◌, refl, sym, ap, ◌∙◌}
use mathlib.Core.Bool.{true, false, not}
use mathlib.Core.List.{List, [], ◌∷◌, Memᴰ}
use mathlib.Core.Logic.{◌↔◌, ⊎_elim}
use Prim.Native.Nat.{ℕ, ◌+◌, ◌-◌, ◌<◌, ◌≤◌}
use native.Mathlib.Omega.{arith}
use borrow.Author.Tests.{eqb-true, eqb-false, not-true, eq-eqb, ne_eqb}
use lib.Dec.{eqb}
use Rattle.words.specs.Choice.{If◌then◌else◌, ◌and◌, ◌or◌, ◌is◌to◌}
use Rattle.words.proofs.Choosing.{true_is_not_false, not_both, either_way, then_case, else_case, both, both_hold, neither, one_fails, one_holds, first_holds, second_decides, range_holds, range_is, refuted}
use Rattle.words.proofs.Elements.{some_passes, none_passes}
use Rattle.words.proofs.Ranges.{in_range, all_places_hold, some_place_fails, some_place_holds, at_no_place}
use Rattle.page.specs.Page.{takes_from_right, takes_from_left, some_required}
use Rattle.fields.specs.Fields.{Field}
use Rattle.fields.specs.Required.{is_left_blank, some_left_blank}
use Rattle.fields.proofs.Blank.{not_required}
use Rattle.state.specs.declared.State.{State}
use Rattle.steps.specs.Steps.{Terminal, cursor_cell}
use Rattle.steps.specs.Seen.{seen, character_at, unprotected_at, takes_at, required_at, fields_here, end_here}
use Rattle.keys.specs.Keys.{is_typing, is_editing, is_field_move, is_known, is_locked, is_locked_out, no_field, lacks_cell, carried, is_not_taken, is_held_back}
use Rattle.terminal.specs.Lines.{Line4, Line5, manual_lock, soft_lock, Line7, typed_on_protected, edited_on_protected, has_no_field, Line8, typed_not_taken, not_taken_on_the_left, not_taken_on_the_right, HasRequired, LeftBlank, Line9, required_blank}

pub line_4 : (key : ℕ) → (not (is_known key) ≡ true) ↔ Line4 key
unfolding is_known is_typing
line_4 key = (
  λ holds.
      let unlisted = neither (not-true _ holds) in
      record {
        no_character = λ low high. not_both (range_is key 32 126 low high) unlisted.0;
        no_other_key = λ low high. not_both (range_is key 256 266 low high) (neither unlisted.1).0;
        not_268 = eqb-false key 268 (neither unlisted.1).1;
      },
  λ line.
      either_way (is_known key)
      (λ known.
      ⊎_elim
      (λ typing. let range = range_holds key 32 126 typing in absurd (line.no_character range.0 range.1))
      (λ other.
      ⊎_elim
      (λ between. let range = range_holds key 256 266 between in absurd (line.no_other_key range.0 range.1))
      (λ is-268. absurd (line.not_268 (eqb-true key 268 is-268)))
      (one_holds other))
      (one_holds known))
      (λ unknown. ap not unknown),
)

pub line_5 : (key : ℕ) (s : State) → (is_locked_out key s ≡ true) ↔ Line5 key s
unfolding is_locked_out is_locked
line_5 key s = (
  λ holds.
      let other : key ≡ 268 → ⊥ = eqb-false key 268 (not-true _ (both holds).1) in
      ⊎_elim (λ manual. manual_lock manual other) (λ soft. soft_lock soft other) (one_holds (both holds).0),
  λ line. locked line,
)
  where
    locked : Line5 key s → is_locked_out key s ≡ true
    locked (manual_lock manual other) = both_hold _ _ (first_holds _ _ manual) (ap not (ne_eqb key 268 other))
    locked (soft_lock soft other) =
        both_hold _ _
        (either_way s.locks.manual (λ manual. first_holds _ _ manual) (λ free. second_decides _ _ free ∙ soft))
        (ap not (ne_eqb key 268 other))

none_listed : (fields : List Field) → no_field fields ≡ true → fields ≡ []
unfolding no_field
none_listed [] none = refl
none_listed (field ∷ later) none = absurd (true_is_not_false (sym none))

pub line_7 : (key : ℕ) (t : Terminal) → (lacks_cell key t ≡ true) ↔ Line7 key t
unfolding lacks_cell is_typing is_editing is_field_move no_field
line_7 key t = (holds, λ line. lacks line)
  where
    storing : (key is 32 to 126 or key is 263 to 265) ≡ true → lacks_cell key t ≡ not (unprotected_at t (cursor_cell t.state))
    storing stores = then_case _ _ _ stores

    holds : lacks_cell key t ≡ true → Line7 key t
    holds lacks =
        either_way (key is 32 to 126 or key is 263 to 265)
        (λ stores.
        let protected = not-true _ (sym (storing stores) ∙ lacks) in
        ⊎_elim
        (λ typing. let range = range_holds key 32 126 typing in typed_on_protected range.0 range.1 protected)
        (λ editing. let range = range_holds key 263 265 editing in edited_on_protected range.0 range.1 protected)
        (one_holds stores))
        (λ other.
        either_way (key is 260 to 261)
        (λ moves.
        let range = range_holds key 260 261 moves in
        has_no_field range.0 range.1 (none_listed (fields_here t) (sym (else_case _ _ _ other ∙ then_case _ _ _ moves) ∙ lacks)))
        (λ neither. absurd (true_is_not_false (sym lacks ∙ else_case _ _ _ other ∙ else_case _ _ _ neither))))

    -- The ranges of the keys have no number in common.
    outside : (low high : ℕ) → ((low ≤ key) × (key ≤ high) → ⊥) → (key is low to high) ≡ false
    outside low high out = either_way (key is low to high) (λ inside. absurd (out (range_holds key low high inside))) (λ f. f)

    lacks : Line7 key t → lacks_cell key t ≡ true
    lacks (typed_on_protected low high protected) = storing (first_holds _ _ (range_is key 32 126 low high)) ∙ ap not protected
    lacks (edited_on_protected low high protected) =
        storing (second_decides _ _ (outside 32 126 (λ range. omega (arith, range.1))) ∙ range_is key 263 265 low high) ∙ ap not protected
    lacks (has_no_field low high none) =
        else_case _ _ _ (second_decides _ _ (outside 32 126 (λ range. omega (arith, range.1))) ∙ outside 263 265 (λ range. omega (arith, range.0)))
        ∙ then_case _ _ _ (range_is key 260 261 low high)
        ∙ ap no_field none

-- Line 8 for 264 and 265: some cell doesn't take what comes to it.
module _ (t : Terminal) where
  abbrev cursor : ℕ
  cursor = cursor_cell t.state

  on_the_left : is_not_taken 264 t ≡ not (takes_from_right (seen t) cursor (carried t))
  unfolding is_not_taken is_typing ◌is◌to◌ ◌and◌ If◌then◌else◌
  on_the_left = refl

  on_the_right : is_not_taken 265 t ≡ not (takes_from_left (seen t) cursor (carried t))
  unfolding is_not_taken is_typing ◌is◌to◌ ◌and◌ If◌then◌else◌
  on_the_right = refl

  some_on_the_left : takes_from_right (seen t) cursor (carried t) ≡ false → (cell : ℕ) × (cursor < cell) × (cell < end_here t) × (takes_at t (cell - 1) (character_at t cell) ≡ false)
  unfolding takes_from_right
  some_on_the_left fails =
      let found = some_place_fails _ cursor (carried t) fails in
      let left : found.0 + 1 - 1 ≡ found.0 = omega arith in
      (found.0 + 1, omega arith, omega arith, ap (λ (cell : ℕ). takes_at t cell (character_at t (found.0 + 1))) left ∙ found.3)

  left_fails : (cell : ℕ) → cursor < cell → cell < end_here t → takes_at t (cell - 1) (character_at t cell) ≡ false → takes_from_right (seen t) cursor (carried t) ≡ false
  unfolding takes_from_right
  left_fails cell low high fails =
      let right : cell - 1 + 1 ≡ cell = omega arith in
      refuted _ (λ all. not_both (in_range _ cursor (carried t) (cell - 1) all (omega arith) (omega arith)) (ap (λ (from : ℕ). takes_at t (cell - 1) (character_at t from)) right ∙ fails))

  some_on_the_right : takes_from_left (seen t) cursor (carried t) ≡ false → (cell : ℕ) × (cursor ≤ cell) × (cell + 1 < end_here t) × (takes_at t (cell + 1) (character_at t cell) ≡ false)
  unfolding takes_from_left
  some_on_the_right fails =
      let found = some_place_fails _ cursor (carried t) fails in
      (found.0, found.1, omega arith, found.3)

  right_fails : (cell : ℕ) → cursor ≤ cell → cell + 1 < end_here t → takes_at t (cell + 1) (character_at t cell) ≡ false → takes_from_left (seen t) cursor (carried t) ≡ false
  unfolding takes_from_left
  right_fails cell low high fails = refuted _ (λ all. not_both (in_range _ cursor (carried t) cell all low (omega arith)) fails)

pub line_8 : (key : ℕ) (t : Terminal) → (is_not_taken key t ≡ true) ↔ Line8 key t
unfolding is_not_taken is_typing
line_8 key t = (holds, λ line. not_taken line)
  where
    same : {other : ℕ} → key ≡ other → is_not_taken key t ≡ is_not_taken other t
    same asked = ap (λ (k : ℕ). is_not_taken k t) asked

    holds : is_not_taken key t ≡ true → Line8 key t
    holds refused =
        either_way (key is 32 to 126)
        (λ typing.
        let range = range_holds key 32 126 typing in
        typed_not_taken range.0 range.1 (not-true _ (sym (then_case _ _ _ typing) ∙ refused)))
        (λ other.
        either_way (eqb key 264)
        (λ deletes.
        let asked = eqb-true key 264 deletes in
        let found = some_on_the_left t (not-true _ (sym (same asked ∙ on_the_left t) ∙ refused)) in
        not_taken_on_the_left asked found.0 found.1 found.2 found.3)
        (λ no-264.
        either_way (eqb key 265)
        (λ inserts.
        let asked = eqb-true key 265 inserts in
        let found = some_on_the_right t (not-true _ (sym (same asked ∙ on_the_right t) ∙ refused)) in
        not_taken_on_the_right asked found.0 found.1 found.2 found.3)
        (λ no-265. absurd (true_is_not_false (sym refused ∙ else_case _ _ _ other ∙ else_case _ _ _ no-264 ∙ else_case _ _ _ no-265)))))

    not_taken : Line8 key t → is_not_taken key t ≡ true
    not_taken (typed_not_taken low high fails) = then_case _ _ _ (range_is key 32 126 low high) ∙ ap not fails
    not_taken (not_taken_on_the_left asked cell low high fails) = same asked ∙ on_the_left t ∙ ap not (left_fails t cell low high fails)
    not_taken (not_taken_on_the_right asked cell low high fails) = same asked ∙ on_the_right t ∙ ap not (right_fails t cell low high fails)

-- Line 9: a field of the page is left blank where its test holds, and only there.
module _ (t : Terminal) (field : Field) (listed : Memᴰ field (fields_here t)) where
  pub left_blank : is_left_blank (seen t) field ≡ true → LeftBlank t field
  unfolding is_left_blank
  left_blank holds =
      let cell = some_place_holds (required_at t) field.start field.length (both holds).0 in
      record {
        on_page = listed;
        has_required = record { cell = cell.0; from_start = cell.1; before_end = cell.2; is_required = cell.3 };
        only_20s = λ any low high. eqb-true _ 0x20 (in_range (λ k. eqb (character_at t k) 0x20) field.start field.length any (both holds).1 low high);
      }

pub some_required_lem : (t : Terminal) (field : Field) → HasRequired t field → some_required (seen t).marks field.start field.length ≡ true
some_required_lem t field has =
    either_way _ (λ required. required)
    (λ none. absurd (not_both has.is_required (at_no_place (required_at t) field.start field.length has.cell none has.from_start has.before_end)))

pub is_left_blank_lem : (t : Terminal) (field : Field) → LeftBlank t field → is_left_blank (seen t) field ≡ true
unfolding is_left_blank
is_left_blank_lem t field blank =
    both_hold _ _ (some_required_lem t field blank.has_required)
    (all_places_hold (λ k. eqb (character_at t k) 0x20) field.start field.length (λ cell low high. eq-eqb _ 0x20 (blank.only_20s cell low high)))

-- Where no cell is required, or no field's test holds, none is.
pub none_left_blank : (t : Terminal) → some_left_blank (seen t) ≡ false → (field : Field) → LeftBlank t field → ⊥
unfolding some_left_blank
none_left_blank t none field blank =
    ⊎_elim
    (λ no_cell. not_both blank.has_required.is_required (not_required (seen t).marks no_cell blank.has_required.cell))
    (λ has_no_field. not_both (is_left_blank_lem t field blank) (none_passes (is_left_blank (seen t)) field (fields_here t) has_no_field blank.on_page))
    (one_fails none)

pub line_9 : (key : ℕ) (t : Terminal) → (is_held_back key t ≡ true) ↔ Line9 key t
unfolding is_held_back some_left_blank
line_9 key t = (holds, λ line. held_back line)
  where
    holds : is_held_back key t ≡ true → Line9 key t
    holds held =
        let found = some_passes (is_left_blank (seen t)) (fields_here t) (both (both held).1).1 in
        required_blank (eqb-true key 266 (both held).0) found.0 (left_blank t found.0 found.1 found.2)

    held_back : Line9 key t → is_held_back key t ≡ true
    held_back (required_blank asked field blank) =
        both_hold _ _ (eq-eqb key 266 asked)
        (either_way (some_left_blank (seen t)) (λ some. some) (λ none. absurd (none_left_blank t none field blank)))
