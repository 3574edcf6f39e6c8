-- What follows from the laws for one step: what it keeps of the page's form, and what a block leaves.
use mathlib.Core.Path.{◌≡◌, refl, sym, ap, ◌∙◌, subst}
use mathlib.Core.Bool.{true, false, not}
use mathlib.Core.List.Memᴰ
use mathlib.Core.List.{List, [], map, Memᴰ}
use Prim.Native.Nat.{ℕ, ◌*◌, ◌/◌, ◌%◌, ◌+◌, ◌<◌, ◌≤◌}
use native.Mathlib.Nat.{mul-le-mul_right}
use native.Mathlib.Omega.{arith}
use borrow.Author.Tests.{ne_eqb, not-true, not-false}
use lib.ListN.{length, get_or, get_or-eq_default}
use Rattle.words.proofs.Choosing.{not_both, less_or_not, both, then_case, else_case}
use Rattle.page.specs.Marks.{is_protected, is_modified, unprotected}
use Rattle.page.specs.Page.{Page, cells, valid_page, mark_after_block}
use Rattle.page.proofs.Keeping.{SameSize}
use Rattle.blocks.specs.Blocks.{encode, entry_of, block}
use Rattle.blocks.proofs.Claims.{Sendable, SameForm, NothingModified}
use Rattle.blocks.proofs.Pages.{all_sent}
use Rattle.blocks.proofs.Laying.{same_fields}
use Rattle.state.proofs.Keeping.{size_bounds}
use Rattle.steps.specs.Steps.{Terminal, Transmission, silent, report, full_block, changed_block, Stepped, Valid}
use Rattle.steps.specs.Seen.{unprotected_at, block_here}
use Rattle.steps.specs.Claims.{mark_left, TouchesOnly, CellKept, KeepsProtection}
use Rattle.steps.proofs.Naming.{all_stay_protected, same_characters}
use Rattle.steps.proofs.Soundness.{Sized, sized}
use Rattle.promises.proofs.Laws.{StepLaw, TagLaw}

-- A valid terminal's page can be sent.
pub sendable : {t : Terminal} → Valid t → Sendable t.state.size.columns t.page
unfolding valid_page
sendable {t} valid =
    let size = sized t.state.size t.page valid.size in
    let bounds = size_bounds t.state.size size.listed in
    let most : t.state.size.rows * t.state.size.columns ≤ 48 * t.state.size.columns = mul-le-mul_right t.state.size.columns bounds.rows_most in
    record {
      some_columns = bounds.some_columns;
      columns_fit = bounds.columns_most;
      rows_fit = omega (arith, size.characters);
      characters_valid = (both valid.page).0;
    }

-- Two pages of one form with the same characters have the same full block.
same_copy : (columns : ℕ) (p q : Page) → SameForm p q → q.characters ≡ p.characters → block true columns p ≡ block true columns q
unfolding block
same_copy columns p q form characters =
    ap encode (all_sent columns p ∙ (λ i. map (entry_of columns (sym characters i)) (same_fields p q form i)) ∙ sym (all_sent columns q))

-- What a step leaves of marks goes by its transmission.
pub leaves : (step : Stepped) {transmission : Transmission} → step.transmission ≡ transmission → (mark : ℕ) → mark_left step.transmission mark ≡ mark_left transmission mark
leaves step is mark = ap (λ (transmission : Transmission). mark_left transmission mark) is

-- Sending clears modified on an unprotected cell.
sent_unmodified : (mark : ℕ) → is_protected mark ≡ false → is_modified (mark_after_block mark) ≡ false
unfolding mark_after_block
sent_unmodified mark cell_unprotected = ap is_modified (else_case _ _ _ cell_unprotected) ∙ ne_eqb ((mark / 4 * 4 + mark % 2) / 2 % 2) 1 (λ bit. omega arith)

-- A protected cell is on the page, past which nothing is; and no transmission changes its mark.
pub past_unprotected : (marks : List ℕ) (cell : ℕ) → length marks ≤ cell → unprotected marks cell ≡ true
unfolding unprotected
past_unprotected marks cell past = ap (λ (mark : ℕ). not (is_protected mark)) (get_or-eq_default marks 0 past)

protected_on_page : (marks : List ℕ) (cell : ℕ) → unprotected marks cell ≡ false → cell < length marks
protected_on_page marks cell protected = less_or_not cell (length marks) (λ here. here) (λ past. absurd (not_both (past_unprotected marks cell past) protected))

protected_stays : (marks : List ℕ) (cell : ℕ) → unprotected marks cell ≡ false → mark_after_block (get_or marks cell 0) ≡ get_or marks cell 0
unfolding unprotected mark_after_block
protected_stays marks cell protected = then_case _ _ _ (not-false _ protected)

left_protected : (transmission : Transmission) (marks : List ℕ) (cell : ℕ) → unprotected marks cell ≡ false → mark_left transmission (get_or marks cell 0) ≡ get_or marks cell 0
unfolding mark_left
left_protected silent marks cell protected = refl
left_protected (report bytes) marks cell protected = refl
left_protected (full_block bytes) marks cell protected = protected_stays marks cell protected
left_protected (changed_block bytes) marks cell protected = protected_stays marks cell protected

module _ (t : Terminal) (valid : Valid t) (step : Stepped) (law : StepLaw t step) where
  was : Sized t.state.size t.page
  was = sized t.state.size t.page valid.size

  -- No step takes a cell away or adds one.
  pub same_size : SameSize t.page step.terminal.page
  same_size =
      let is = sized t.state.size step.terminal.page (rw law.size at law.valid.size) in
      record { characters = is.characters ∙ sym was.characters; marks = is.marks ∙ sym was.marks }

  pub was_on_page : (cell : ℕ) → cell < cells step.terminal.page → cell < cells t.page
  was_on_page cell here = omega (arith, same_size.characters)

  -- Each had its mark.
  pub had_mark : (cell : ℕ) → cell < cells step.terminal.page → cell < length t.page.marks
  had_mark cell here = omega (arith, was_on_page cell here, was.characters, was.marks)

  -- A protected cell that isn't named is kept.
  pub protected_kept : (cell : ℕ) → unprotected_at t cell ≡ false → (Memᴰ cell step.cells → ⊥) → CellKept t.page step.terminal.page cell
  protected_kept cell protected unnamed =
      let stays = law.touches cell (protected_on_page t.page.marks cell protected) unnamed in
      record { character = stays.character; mark = stays.mark ∙ left_protected step.transmission t.page.marks cell protected }

  pub same_form : KeepsProtection t.page step.terminal.page → SameForm t.page step.terminal.page
  same_form protection = record { size = same_size; unprotected-cells = λ cell here. sym (protection cell (omega (arith, same_size.marks))) }

  -- A step that names no cell.
  module _ (no_cell : step.cells ≡ []) where
    all_stay : TouchesOnly [] step.transmission t.page step.terminal.page
    all_stay = rw no_cell at law.touches

    pub names_none : TagLaw t step
    names_none = record {
      protection = all_stay_protected step.transmission t.page step.terminal.page all_stay;
      tags = λ cell named. absurd (Memᴰ.not-nil (subst (λ (cells : List ℕ). Memᴰ cell cells) no_cell named));
    }

    pub same_full_block : block_here true t ≡ block_here true step.terminal
    same_full_block =
        rw law.size (same_copy t.state.size.columns t.page step.terminal.page (same_form names_none.protection)
        (same_characters step.transmission t.page step.terminal.page all_stay same_size (was.characters ∙ sym was.marks)))

    -- If it sends a block, nothing is modified any more.
    pub nothing_modified : ((mark : ℕ) → mark_left step.transmission mark ≡ mark_after_block mark) → NothingModified step.terminal.page
    unfolding unprotected
    nothing_modified clears cell here cell_unprotected =
        let on_page = had_mark cell here in
        ap is_modified ((all_stay cell on_page Memᴰ.not-nil).mark ∙ clears _)
        ∙ sent_unmodified (get_or t.page.marks cell 0) (not-true _ (sym (names_none.protection cell on_page) ∙ cell_unprotected))
