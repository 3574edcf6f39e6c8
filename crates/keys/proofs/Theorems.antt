-- What holds of the step of every key.
use mathlib.Core.Path.{◌≡◌, refl, ap, ◌∙◌}
use mathlib.Core.Bool.{true, false, not}
use mathlib.Core.List.{List, [], Memᴰ}
use mathlib.Core.Logic.{◌⊎◌, inl, inr, ⊎_elim}
use Prim.Native.Nat.{ℕ, ◌-◌, ◌<◌}
use native.Mathlib.Omega.{arith}
use lib.ListN.{length, get_or}
use Rattle.words.specs.Choice.{If◌then◌else◌, ◌and◌, ◌or◌, ◌is◌to◌}
use Rattle.words.proofs.Choosing.{not_both, then_case, else_case, either_way, first_holds}
use Rattle.words.proofs.Elements.{run_length}
use Rattle.page.specs.Marks.{has_bit, is_modified, takes, unprotected}
use Rattle.state.specs.State.{with_locks, unlocked}
use Rattle.steps.specs.Steps.{Terminal, report, full_block, changed_block, goes_to, cursor_cell, Valid}
use Rattle.steps.specs.Claims.{Rising, TouchesOnly, KeepsProtection, KeepsText, SendsBlock, ProtectedKept, counted}
use Rattle.steps.specs.Seen.{unprotected_at}
use Rattle.keys.specs.Keys.{is_typing, is_editing, is_not_taken, is_held_back, typed_step, field_blanked, rest_shifted, taken_step, key_step}
use Rattle.steps.specs.Seen.{start_here, end_here}
use Rattle.steps.proofs.Naming.{named_between}
use Rattle.steps.proofs.Soundness.{names_none}
use Rattle.keys.proofs.Claims.{KeyStores, no_cell, typed_cell, whole_field, rest_of_field, IsSendKey}
use Rattle.keys.proofs.Silent.{taken_step_lem, not_held_back, typing_not_held_back}
use Rattle.keys.proofs.Always.{key_always}
use Rattle.keys.proofs.Tables.{key_holds}

-- From every valid terminal.
module _ (key : ℕ) (t : Terminal) (valid : Valid t) where
  -- The terminal stays valid, and its size the same.
  pub key_keeps_valid : Valid (key_step key t).terminal
  key_keeps_valid = (key_holds key t valid).sound.valid

  pub key_keeps_size : (key_step key t).terminal.state.size ≡ t.state.size
  key_keeps_size = (key_holds key t valid).sound.size

  -- No character and no mark changes outside the cells named, but for modified where a block is sent.
  pub key_touches_only : TouchesOnly (key_step key t).cells (key_step key t).transmission t.page (key_step key t).terminal.page
  key_touches_only = (key_holds key t valid).sound.touches

  -- Each cell is named once, and is on the page.
  pub key_names_once : Rising (length t.page.marks) 0 (key_step key t).cells
  key_names_once = (key_holds key t valid).sound.once

  pub key_names_on_page : (cell : ℕ) → Memᴰ cell (key_step key t).cells → cell < length t.page.marks
  key_names_on_page cell named = (named_between key_names_once cell named).1

  -- Each cell named was unprotected, and is modified, also where it had the character that was stored.
  pub key_tags : (cell : ℕ) → Memᴰ cell (key_step key t).cells → (unprotected t.page.marks cell ≡ true) × (is_modified (get_or (key_step key t).terminal.page.marks cell 0) ≡ true)
  key_tags = (key_holds key t valid).tags

  -- Each cell named holds a character that it takes.
  pub key_takes : (cell : ℕ) → Memᴰ cell (key_step key t).cells → takes (get_or t.page.marks cell 0) (get_or (key_step key t).terminal.page.characters cell 0) ≡ true
  key_takes = (key_holds key t valid).takes

  -- Where no cell is named, all characters stay, and all protection.
  pub key_names_none : (key_step key t).cells ≡ [] → KeepsText t.page (key_step key t).terminal.page
  key_names_none none = names_none t (key_step key t) valid (key_holds key t valid).sound none

-- In any state, valid or not, whatever the lengths of the two slices.
module _ (key : ℕ) (t : Terminal) where
  -- The cells named are none, the cursor's, its field's, or those from the cursor to its field's end; their counts
  -- stand below.
  pub key_stores : KeyStores key t (key_step key t).cells
  key_stores = (key_always key t).stored

  -- Only 266 sends a block, full or changed by its mode; either is that of the page as it was.
  pub key_sends_full : (bytes : List ℕ) → (key_step key t).transmission ≡ full_block bytes → SendsBlock true (IsSendKey key t true) t (key_step key t) bytes
  key_sends_full = (key_always key t).by_full_block

  pub key_sends_changed : (bytes : List ℕ) → (key_step key t).transmission ≡ changed_block bytes → SendsBlock false (IsSendKey key t false) t (key_step key t) bytes
  key_sends_changed = (key_always key t).by_changed_block

  -- No key sends a report.
  pub key_sends_no_report : (bytes : List ℕ) → (key_step key t).transmission ≡ report bytes → ⊥
  key_sends_no_report = (key_always key t).no_report

  -- No key refuses a command.
  pub key_never_refuses : (key_step key t).was_refused ≡ false
  key_never_refuses = (key_always key t).not_refused

  -- No key changes a mark but modified.
  pub no_key_changes_bits : (k : ℕ) → (k ≡ 1 → ⊥) → (cell : ℕ) → has_bit k (get_or (key_step key t).terminal.page.marks cell 0) ≡ has_bit k (get_or t.page.marks cell 0)
  no_key_changes_bits = (key_always key t).bits

  -- No key changes what a protected cell has, nor which cells are protected.
  pub no_key_changes_protected : (cell : ℕ) → unprotected t.page.marks cell ≡ false → ProtectedKept t.page (key_step key t).terminal.page cell
  no_key_changes_protected = (key_always key t).protected

  pub no_key_changes_protection : (cell : ℕ) → unprotected (key_step key t).terminal.page.marks cell ≡ unprotected t.page.marks cell
  unfolding unprotected
  no_key_changes_protection cell = ap not (no_key_changes_bits 0 (λ same. omega arith) cell)

  pub key_keeps_protection : KeepsProtection t.page (key_step key t).terminal.page
  key_keeps_protection cell _ = no_key_changes_protection cell

  -- Only 268 changes a lock, the message or its byte.
  pub only_268_unlocks : (key ≡ 268 → ⊥) → (key_step key t).terminal.state.locks ≡ t.state.locks
  only_268_unlocks = (key_always key t).locks

  -- No key changes the pen or a mode.
  pub no_key_changes_modes : (key_step key t).terminal.state.modes ≡ t.state.modes
  no_key_changes_modes = (key_always key t).modes

-- 268 clears the soft lock, the message and its byte, and does nothing else.
pub unlocked_step : (t : Terminal) → key_step 268 t ≡ goes_to (with_locks t.state (record { manual = t.state.locks.manual; soft = false; message = 0; byte = 0 })) t
unfolding key_step is_not_taken is_held_back taken_step is_typing ◌is◌to◌ ◌and◌ If◌then◌else◌ unlocked
unlocked_step t = refl

-- A key that would bring a character where it isn't taken does nothing.
pub not_taken_step : (key : ℕ) (t : Terminal) → is_not_taken key t ≡ true → key_step key t ≡ goes_to t.state t
unfolding key_step
not_taken_step key t not_taken = then_case _ _ _ not_taken

-- Nor does 266 while a required field is blank.
pub held_back_step : (key : ℕ) (t : Terminal) → is_held_back key t ≡ true → key_step key t ≡ goes_to t.state t
unfolding key_step
held_back_step key t held = either_way (is_not_taken key t) (λ first. then_case _ _ _ first) (λ taken. else_case _ _ _ taken ∙ then_case _ _ _ held)

-- A key that stores types or edits, on an unprotected cell.
stores_where : (key : ℕ) (t : Terminal) {cells : List ℕ} → KeyStores key t cells → (cells ≡ []) ⊎ ((unprotected_at t (cursor_cell t.state) ≡ true) × ((is_typing key or is_editing key) ≡ true))
unfolding is_typing is_editing ◌is◌to◌ ◌and◌ ◌or◌
stores_where key t no_cell = inl refl
stores_where key t (typed_cell here typing) = inr (here, first_holds _ _ typing)
stores_where key t (whole_field here asked) = inr (here, ap (λ (k : ℕ). is_typing k or is_editing k) asked)
stores_where key t (rest_of_field here (inl asked)) = inr (here, ap (λ (k : ℕ). is_typing k or is_editing k) asked)
stores_where key t (rest_of_field here (inr asked)) = inr (here, ap (λ (k : ℕ). is_typing k or is_editing k) asked)

-- The count of cells stored is the number of cells named, in any state.
module _ (t : Terminal) where
  module _ (here : unprotected_at t (cursor_cell t.state) ≡ true) where
    -- 1 for a typed character.
    pub typed_count : (key : ℕ) → is_typing key ≡ true → is_not_taken key t ≡ false → counted (key_step key t) ≡ 1
    unfolding taken_step typed_step
    typed_count key typing taken = ap counted (taken_step_lem key t taken (typing_not_held_back key t typing) ∙ then_case _ _ _ typing ∙ then_case _ _ _ here)

    -- The whole field for 263.
    pub blanked_count : counted (key_step 263 t) ≡ end_here t - start_here t
    unfolding key_step is_not_taken is_held_back taken_step is_typing ◌is◌to◌ ◌and◌ If◌then◌else◌ field_blanked
    blanked_count = ap counted (then_case _ _ _ here) ∙ run_length (start_here t) (end_here t - start_here t)

    -- Cursor to field end for 264 and 265.
    pub closed_up_count : is_not_taken 264 t ≡ false → counted (key_step 264 t) ≡ end_here t - cursor_cell t.state
    unfolding taken_step is_typing ◌is◌to◌ ◌and◌ If◌then◌else◌ rest_shifted
    closed_up_count taken = ap counted (taken_step_lem 264 t taken (not_held_back 264 t (λ e. omega arith)) ∙ then_case _ _ _ here) ∙ run_length (cursor_cell t.state) (end_here t - cursor_cell t.state)

    pub moved_right_count : is_not_taken 265 t ≡ false → counted (key_step 265 t) ≡ end_here t - cursor_cell t.state
    unfolding taken_step is_typing ◌is◌to◌ ◌and◌ If◌then◌else◌ rest_shifted
    moved_right_count taken = ap counted (taken_step_lem 265 t taken (not_held_back 265 t (λ e. omega arith)) ∙ then_case _ _ _ here) ∙ run_length (cursor_cell t.state) (end_here t - cursor_cell t.state)

  -- 0 for the others, for every key where the cursor's cell is protected, and for one whose character isn't taken.
  pub other_count : (key : ℕ) → (is_typing key or is_editing key) ≡ false → counted (key_step key t) ≡ 0
  other_count key other = ⊎_elim (ap length) (λ stores. absurd (not_both stores.1 other)) (stores_where key t (key_stores key t))

  pub protected_count : (key : ℕ) → unprotected_at t (cursor_cell t.state) ≡ false → counted (key_step key t) ≡ 0
  protected_count key protected = ⊎_elim (ap length) (λ stores. absurd (not_both stores.0 protected)) (stores_where key t (key_stores key t))

  pub not_taken_count : (key : ℕ) → is_not_taken key t ≡ true → counted (key_step key t) ≡ 0
  not_taken_count key not_taken = ap counted (not_taken_step key t not_taken)
