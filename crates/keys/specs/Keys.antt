-- Document 01, "Fields, keys and blocks", and document 02, M-103, M-106 and M-107: what the keys do. A key that finds
-- no cell or field does nothing, nor one that brings a character where it isn't taken, nor 266 where a required field
-- is blank: line 7, 8 or 9 is then given.
use Rattle.std.specs.Prelude.{Bool, true, false, not, List, [], ◌∷◌, ℕ, ◌-◌, eqb}
use Rattle.words.specs.Choice.{If◌then◌else◌, ◌and◌, ◌or◌, ◌is◌to◌}
use Rattle.words.specs.Lists.{numbers_from}
use Rattle.page.specs.Page.{typed, takes_from_right, takes_from_left, blanked, closed_up, moved_right, part_stored}
use Rattle.places.specs.declared.Place.{Place}
use Rattle.std.specs.Prelude.{Option, Some, None}
use Rattle.fields.specs.Fields.{Field}
use Rattle.fields.specs.Searches.{or_else}
use Rattle.fields.specs.Required.{some_left_blank}
use Rattle.state.specs.declared.State.{State}
use Rattle.state.specs.State.{with_cursor, cursor_at, unlocked}
use Rattle.state.specs.Moves.{up_by, down_by, right_by, left_by}
use Rattle.steps.specs.Steps.{Terminal, Stepped, goes_to, stores, cursor_cell}
use Rattle.steps.specs.Seen.{seen, unprotected_at, takes_at, place_here, fields_here, start_here, end_here}
use Rattle.steps.specs.Seen.{next_field_here, previous_field_here, first_unprotected_here, next_unprotected_here}
use Rattle.sending.specs.Sending.{sends_full, send_block}

-- The keys that type a character, those that store in the cursor's field, and those that look for a field.
unfoldable pub is_typing : ℕ → Bool
is_typing key = key is 32 to 126

unfoldable pub is_editing : ℕ → Bool
is_editing key = key is 263 to 265

unfoldable pub is_field_move : ℕ → Bool
is_field_move key = key is 260 to 261

-- Line 4 is given to every other number.
unfoldable pub is_known : ℕ → Bool
is_known key = is_typing key or key is 256 to 266 or eqb key 268

-- Line 5: under either lock all known keys but 268.
unfoldable pub is_locked : State → Bool
is_locked s = s.locks.manual or s.locks.soft

unfoldable pub is_locked_out : ℕ → State → Bool
is_locked_out key s = is_locked s and not (eqb key 268)

unfoldable pub no_field : List Field → Bool
no_field [] = true
no_field (field ∷ later) = false

-- Line 7: a key that stores, on a protected cell; a move to a field, where there is none.
unfoldable pub lacks_cell : ℕ → Terminal → Bool
lacks_cell key t =
    If is_typing key or is_editing key then not (unprotected_at t (cursor_cell t.state))
    else If is_field_move key then no_field (fields_here t)
    else false

-- How many characters 264 and 265 carry into the next cell: those from the cursor's to its field's end, but one.
abbrev pub carried : Terminal → ℕ
carried t = end_here t - cursor_cell t.state - 1

-- Line 8: a character would come into a cell that doesn't take it. The one that 264 deletes comes into none, nor the
-- one that 265 loses.
unfoldable pub is_not_taken : ℕ → Terminal → Bool
is_not_taken key t =
    If is_typing key then not (takes_at t (cursor_cell t.state) key)
    else If eqb key 264 then not (takes_from_right (seen t) (cursor_cell t.state) (carried t))
    else If eqb key 265 then not (takes_from_left (seen t) (cursor_cell t.state) (carried t))
    else false

-- Line 9: 266, in either mode, while some field has a required cell and holds nothing but 20s. (ESC S is never held
-- back.)
unfoldable pub is_held_back : ℕ → Terminal → Bool
is_held_back key t = eqb key 266 and some_left_blank (seen t)

-- The cursor goes to what was found, and stays where nothing was.
unfoldable pub gone_to : Option Place → State → State
gone_to (Some place) s = with_cursor s (cursor_at place.row place.column)
gone_to None s = s

-- The cells from `from` to before `end`.
abbrev pub cells_from : ℕ → ℕ → List ℕ
cells_from from end = numbers_from (λ _. true) from (end - from)

-- A key that stores does so on an unprotected cell only.
abbrev pub if_unprotected : Terminal → Stepped → Stepped
if_unprotected t stepped =
    If unprotected_at t (cursor_cell t.state) then stepped
    else goes_to t.state t

-- A typed character goes into the cursor's cell, and the cursor on to where the next one can go.
unfoldable pub typed_step : ℕ → Terminal → Stepped
typed_step character t =
    if_unprotected t
    (stores (cursor_cell t.state ∷ []) false
    (gone_to (next_unprotected_here t) t.state)
    (typed (cursor_cell t.state) character t.page))

-- 260 and 261; 262: the first unprotected cell, else 1;1.
unfoldable pub to_next_field : Terminal → Stepped
to_next_field t = goes_to (gone_to (next_field_here t) t.state) t

unfoldable pub to_previous_field : Terminal → Stepped
to_previous_field t = goes_to (gone_to (previous_field_here t) t.state) t

unfoldable pub to_first_unprotected : Terminal → Stepped
to_first_unprotected t =
    goes_to (gone_to (or_else (first_unprotected_here t) (Some (place_here t 0))) t.state) t

-- 263: the cursor's field becomes 20s, and the cursor goes to its start.
unfoldable pub field_blanked : Terminal → Stepped
field_blanked t =
    if_unprotected t
    (stores (cells_from (start_here t) (end_here t)) false
    (gone_to (Some (place_here t (start_here t))) t.state)
    (part_stored blanked (start_here t) (end_here t) t.page))

-- 264 and 265: the rest of the field from the cursor on; the cursor stays.
unfoldable pub rest_shifted : (List ℕ → List ℕ) → Terminal → Stepped
rest_shifted change t =
    if_unprotected t
    (stores (cells_from (cursor_cell t.state) (end_here t)) false t.state
    (part_stored change (cursor_cell t.state) (end_here t) t.page))

-- What a key does that lines 8 and 9 let pass. A number that is no key does nothing.
unfoldable pub taken_step : ℕ → Terminal → Stepped
taken_step key t =
    If is_typing key then typed_step key t
    else If eqb key 256 then goes_to (up_by 1 t.state) t
    else If eqb key 257 then goes_to (down_by 1 t.state) t
    else If eqb key 258 then goes_to (left_by 1 t.state) t
    else If eqb key 259 then goes_to (right_by 1 t.state) t
    else If eqb key 260 then to_next_field t
    else If eqb key 261 then to_previous_field t
    else If eqb key 262 then to_first_unprotected t
    else If eqb key 263 then field_blanked t
    else If eqb key 264 then rest_shifted closed_up t
    else If eqb key 265 then rest_shifted moved_right t
    else If eqb key 266 then send_block (sends_full t.state) t
    else If eqb key 268 then goes_to (unlocked t.state) t
    else goes_to t.state t

-- The step of a key.
unfoldable pub key_step : ℕ → Terminal → Stepped
key_step key t =
    If is_not_taken key t then goes_to t.state t
    else If is_held_back key t then goes_to t.state t
    else taken_step key t
