-- What is claimed of a key's step beside what is claimed of every step.
use mathlib.Core.Bool.{Bool, true, false}
use mathlib.Core.List.{List, [], ◌∷◌, Memᴰ}
use mathlib.Core.Logic.{◌⊎◌}
use mathlib.Core.Path.{◌≡◌}
use Prim.Native.Nat.{ℕ}
use lib.ListN.{get_or}
use Rattle.page.specs.Marks.{has_bit, is_modified, takes, unprotected}
use Rattle.page.specs.Page.{Page}
use Rattle.fields.specs.Required.{some_left_blank}
use Rattle.steps.specs.Steps.{Terminal, report, full_block, changed_block, Stepped, cursor_cell}
use Rattle.steps.specs.Claims.{SendsBlock, ProtectedKept}
use Rattle.steps.proofs.Soundness.{Sound}
use Rattle.steps.specs.Seen.{seen, unprotected_at}
use Rattle.sending.specs.Sending.{sends_full}
use Rattle.keys.specs.Keys.{is_typing, cells_from}
use Rattle.steps.specs.Seen.{start_here, end_here}

-- The cells that a key may store: none; and where the cursor's cell is unprotected, that cell, for a typed character;
-- its field, for 263; from the cursor to its field's end, for 264 and 265.
pub data KeyStores (key : ℕ) (t : Terminal) : List ℕ → Type 0 where
  no_cell : KeyStores key t []
  typed_cell : unprotected_at t (cursor_cell t.state) ≡ true → is_typing key ≡ true → KeyStores key t (cursor_cell t.state ∷ [])
  whole_field : unprotected_at t (cursor_cell t.state) ≡ true → key ≡ 263 → KeyStores key t (cells_from (start_here t) (end_here t))
  rest_of_field : unprotected_at t (cursor_cell t.state) ≡ true → (key ≡ 264) ⊎ (key ≡ 265) → KeyStores key t (cells_from (cursor_cell t.state) (end_here t))

-- The key is 266, its mode has it send a full block, or a changed one, and no required field is blank.
pub record IsSendKey (key : ℕ) (t : Terminal) (full : Bool) : Type 0 where
  pub key_266 : key ≡ 266
  pub by_mode : sends_full t.state ≡ full
  pub none_blank : some_left_blank (seen t) ≡ false

-- In any state, valid or not, whatever the lengths of the two slices. Every cell keeps all its marks but modified.
pub record KeyAlways (key : ℕ) (t : Terminal) (step : Stepped) : Type 0 where
  pub stored : KeyStores key t step.cells
  pub by_full_block : (bytes : List ℕ) → step.transmission ≡ full_block bytes → SendsBlock true (IsSendKey key t true) t step bytes
  pub by_changed_block : (bytes : List ℕ) → step.transmission ≡ changed_block bytes → SendsBlock false (IsSendKey key t false) t step bytes
  pub no_report : (bytes : List ℕ) → step.transmission ≡ report bytes → ⊥
  pub not_refused : step.was_refused ≡ false
  pub locks : (key ≡ 268 → ⊥) → step.terminal.state.locks ≡ t.state.locks
  pub modes : step.terminal.state.modes ≡ t.state.modes
  pub protected : (cell : ℕ) → unprotected t.page.marks cell ≡ false → ProtectedKept t.page step.terminal.page cell
  pub bits : (k : ℕ) → (k ≡ 1 → ⊥) → (cell : ℕ) → has_bit k (get_or step.terminal.page.marks cell 0) ≡ has_bit k (get_or t.page.marks cell 0)

-- Every cell named was unprotected and is modified.
abbrev pub Tags : Page → List ℕ → Page → Type 0
Tags before cells after = (cell : ℕ) → Memᴰ cell cells → (unprotected before.marks cell ≡ true) × (is_modified (get_or after.marks cell 0) ≡ true)

-- M-103: what every cell named holds is a character that it takes.
abbrev pub Takes : Page → List ℕ → Page → Type 0
Takes before cells after = (cell : ℕ) → Memᴰ cell cells → takes (get_or before.marks cell 0) (get_or after.characters cell 0) ≡ true

-- All of it, for a key's step from a valid terminal.
pub record KeySound (key : ℕ) (t : Terminal) (step : Stepped) : Type 0 where
  pub always : KeyAlways key t step
  pub sound : Sound t step
  pub tags : Tags t.page step.cells step.terminal.page
  pub takes : Takes t.page step.cells step.terminal.page
