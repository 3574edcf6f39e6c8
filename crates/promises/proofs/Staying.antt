-- Validity through calls, the field that a start leaves, and that no key changes a protected cell: by the laws alone.
use mathlib.Core.Path.{◌≡◌, refl, sym, ap, ◌∙◌, subst}
use mathlib.Core.Bool.{true, false, not}
use mathlib.Core.List.{List, [], ◌∷◌}
use Prim.Native.Nat.{ℕ, ◌*◌, ◌<◌}
use native.Mathlib.Nat.{mul-le-mul}
use native.Mathlib.Omega.{arith}
use borrow.Author.Tests.{eqb-true, eqb-false}
use lib.Dec.{eqb}
use lib.ListN.{length, replicate, length-replicate, get_or-replicate}
use Rattle.words.proofs.Choosing.{not_both, either_way, less_or_not}
use Rattle.page.specs.Marks.{is_protected, unprotected}
use Rattle.page.specs.Page.{Page, page_of}
use Rattle.fields.specs.Fields.{fields_of}
use Rattle.fields.proofs.Theorems.{all_one_field}
use Rattle.state.specs.declared.Size.{Size}
use Rattle.state.specs.State.{fresh_state}
use Rattle.state.specs.Tests.{size_fits}
use Rattle.state.proofs.Lines.{line_1}
use Rattle.state.proofs.Keeping.{size_bounds, fresh_valid}
use Rattle.steps.specs.Steps.{Terminal, Valid}
use Rattle.steps.specs.Seen.{unprotected_at}
use Rattle.steps.specs.Claims.{CellKept}
use Rattle.steps.proofs.Soundness.{sized, still_fits}
use Rattle.steps.proofs.Storing.{blank_page_valid}
use Rattle.terminal.specs.Runs.{after}
use Rattle.terminal.specs.Lines.{start_table, Decides, this_holds, not_this}
use Rattle.promises.specs.Rules.{Rules, press, step_of, Total}
use Rattle.promises.specs.Entries.{Entries, Call, outcome_of, outcomes, total, inputs_done}
use Rattle.promises.specs.Demands.{KeysKeep}
use Rattle.promises.specs.Further.{StaysValid, StartsWithOneField}
use Rattle.promises.proofs.Laws.{StepLaws, Keeps}
use Rattle.promises.proofs.Keeping.{same_size, protected_kept, past_unprotected}
use Rattle.promises.proofs.Doing.{key_valid}
use Rattle.promises.proofs.Calling.{steps_keep_valid, steps_keep_size, calls_are_steps_of}

-- Where line 1 doesn't decide a start, the page has the size asked for.
pub start_fits : {size : Size} {page : Page} {n : ℕ} → Decides (start_table size page) n → n ≡ 0 → size_fits size page ≡ true
start_fits (this_holds _ _ holds) zero = absurd (omega (arith, zero))
start_fits {size} {page} (not_this _ _ _ no_1 rest) zero =
    either_way (size_fits size page) (λ fits. fits) (λ wrong. absurd (no_1 ((line_1 size page).0 wrong)))

-- A fresh page of a listed size is valid.
fresh_page_valid : (size : Size) (page blank : Page) → size_fits size page ≡ true → blank ≡ page_of (replicate (length page.characters) 0x20) (replicate (length page.marks) 0) → Valid (record { state = fresh_state size; page = blank })
fresh_page_valid size page blank fits is = subst (λ (blank : Page). Valid (record { state = fresh_state size; page = blank })) (sym is) (record {
  size = still_fits size size page (page_of (replicate (length page.characters) 0x20) (replicate (length page.marks) 0)) fits refl (record { characters = length-replicate (length page.characters) 0x20; marks = length-replicate (length page.marks) 0 });
  state = fresh_valid size (sized size page fits).listed;
  page = blank_page_valid (length page.characters) (length page.marks);
})

fresh_unprotected : (all cell : ℕ) → cell < all → unprotected (replicate all 0) cell ≡ true
unfolding unprotected
fresh_unprotected all cell here = ap (λ (mark : ℕ). not (is_protected mark)) (get_or-replicate all cell 0 0 here)

-- A call leaves a valid terminal of the same size.
abbrev pub KeepsSize : Entries → Type 0
KeepsSize entries = (call : Call) (t : Terminal) → Valid t → (outcome_of entries call t).terminal.state.size ≡ t.state.size

-- A call leaves a valid terminal valid.
pub call_stays_valid : (entries : Entries) → StaysValid entries → (call : Call) (t : Terminal) → Valid t → Valid (outcome_of entries call t).terminal
unfolding outcomes total
call_stays_valid entries stays call t valid = stays.through_calls t valid (call ∷ [])

module _ (rules : Rules) (laws : StepLaws rules) (entries : Entries) (kept : Keeps rules entries) where
  started_valid : (size : Size) (page : Page) → (entries.start size page).number ≡ 0 → Valid (entries.start size page).terminal
  started_valid size page zero =
      let fits = start_fits ((kept.numbers.of_start size page _).0 refl) zero in
      let lengths = sized size page fits in
      let started = kept.follows.of_start size page zero in
      let blank : (entries.start size page).terminal.page ≡ page_of (replicate (length page.characters) 0x20) (replicate (length page.marks) 0)
      = (λ i. page_of ((started.characters ∙ ap (λ (n : ℕ). replicate n 0x20) (sym lengths.characters)) i) ((started.marks ∙ ap (λ (n : ℕ). replicate n 0) (sym lengths.marks)) i)) in
      subst Valid (λ i. record { state = sym started.state i; page = (entries.start size page).terminal.page })
      (fresh_page_valid size page (entries.start size page).terminal.page fits blank)

  pub stays_valid_of : StaysValid entries
  stays_valid_of = record {
    from_start = started_valid;
    through_calls = λ t valid calls.
        subst Valid (sym (ap (λ (all : Total). all.terminal) (calls_are_steps_of rules entries kept t calls)))
        (steps_keep_valid rules laws t valid (inputs_done entries t calls));
  }

  pub keeps_size_of : KeepsSize entries
  unfolding outcomes total
  keeps_size_of call t valid =
      ap (λ (all : Total). all.terminal.state.size) (calls_are_steps_of rules entries kept t (call ∷ []))
      ∙ steps_keep_size rules laws t valid (inputs_done entries t (call ∷ []))

  -- On a fresh page every cell is unprotected.
  pub starts_with_one_field_of : StartsWithOneField entries
  starts_with_one_field_of size page zero =
      let fits = start_fits ((kept.numbers.of_start size page _).0 refl) zero in
      let bounds = size_bounds size (sized size page fits).listed in
      let some : 0 < size.rows * size.columns = omega (arith, mul-le-mul bounds.some_rows bounds.some_columns) in
      let started = kept.follows.of_start size page zero in
      (λ i. fields_of (unprotected (started.marks i)) (length (started.characters i)))
      ∙ ap (fields_of (unprotected (replicate (size.rows * size.columns) 0))) (length-replicate (size.rows * size.columns) 0x20)
      ∙ all_one_field _ _ some (fresh_unprotected (size.rows * size.columns))

  -- A key call leaves the terminal as it was, or as its step leaves it.
  module _ (t : Terminal) (key : ℕ) (lent : List ℕ) where
    key_left : (P : Terminal → Type 0) → P t → (Valid t → P (rules.on_key key t).terminal) → P (entries.key t key lent).terminal
    unfolding after
    key_left P as_it_was as-stepped =
        either_way (eqb (entries.key t key lent).number 0)
        (λ done.
        let is = eqb-true _ _ done in
        subst P (sym (kept.follows.of_key t key lent is).terminal) (as-stepped (key_valid rules entries kept t key lent is)))
        (λ other. subst P (sym (kept.refusals.of_key t key lent (eqb-false _ _ other)).terminal) as_it_was)

    protected_stay : (cell : ℕ) → unprotected_at t cell ≡ false → CellKept t.page (entries.key t key lent).terminal.page cell
    unfolding step_of
    protected_stay cell protected =
        key_left (λ (left : Terminal). CellKept t.page left.page cell) (record { character = refl; mark = refl })
        (λ valid.
        protected_kept t valid (rules.on_key key t) (laws.every_step (press key) t valid) cell protected
        (λ named. not_both ((laws.every_key key t valid).names_unprotected cell named) protected))

    protection_stays : (cell : ℕ) → unprotected_at (entries.key t key lent).terminal cell ≡ unprotected_at t cell
    unfolding step_of
    protection_stays cell =
        key_left (λ (left : Terminal). unprotected_at left cell ≡ unprotected_at t cell) refl
        (λ valid.
        let step = rules.on_key key t in
        let same = (same_size t valid step (laws.every_step (press key) t valid)).marks in
        less_or_not cell (length t.page.marks)
        (λ here. (laws.every_key key t valid).tag_law.protection cell here)
        (λ past. past_unprotected step.terminal.page.marks cell (omega (arith, same)) ∙ sym (past_unprotected t.page.marks cell past)))

  pub keys_keep_of : KeysKeep entries
  keys_keep_of = record { protected_cells = protected_stay; protection = protection_stays }
