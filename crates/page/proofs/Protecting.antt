-- Protection, and what it keeps from changing, on any page, valid or not, and at any cell, on the page or past it.
use mathlib.Core.Path.{◌≡◌, refl, ap, ◌∙◌}
use mathlib.Core.Bool.{true, false, not}
use mathlib.Core.List.{List}
use Prim.Native.Nat.{ℕ, ◌<◌, ◌≤◌}
use native.Mathlib.Omega.{arith}
use lib.ListN.{length, get_or}
use lib.Seq.{get_or-set_same}
use Rattle.words.specs.Lists.{within}
use Rattle.words.proofs.Choosing.{then_case, else_case, either_line}
use Rattle.words.proofs.Writing.{each_at, each_keeps, set_keeps, inside, outside_range}
use Rattle.page.specs.Marks.{has_bit, is_protected, is_modified, with_modified, unprotected}
use Rattle.page.specs.Page.{Page, typed, tagged, mark_after_block, modified_cleared}
use Rattle.page.proofs.Laws.{sent_protected}
use Rattle.page.proofs.Bits.{other_bit, set_others, set_bit, cleared_others}

-- Tagging and sending leave every bit of a mark but modified.
module _ (k : ℕ) (other : k ≡ 1 → ⊥) where
  modified_bit : (mark : ℕ) → has_bit k (with_modified mark) ≡ has_bit k mark
  modified_bit mark = other_bit (set_others 1 mark) k other

  pub sent_bit : (mark : ℕ) → has_bit k (mark_after_block mark) ≡ has_bit k mark
  unfolding mark_after_block
  sent_bit mark =
      either_line (λ (m : ℕ). has_bit k m ≡ has_bit k mark) _ _ _ (λ _. refl) (λ _. other_bit (cleared_others 1 mark) k other)

  pub typed_bit : (page : Page) (cell character place : ℕ) → has_bit k (get_or (typed cell character page).marks place 0) ≡ has_bit k (get_or page.marks place 0)
  unfolding typed
  typed_bit page cell character place = set_keeps (has_bit k) page.marks cell _ place (modified_bit (get_or page.marks cell 0))

  pub tagged_bit : (from to : ℕ) (marks : List ℕ) (cell : ℕ) → has_bit k (get_or (tagged from to marks) cell 0) ≡ has_bit k (get_or marks cell 0)
  unfolding tagged
  tagged_bit from to marks cell =
      let mark = get_or marks cell 0 in
      each_keeps _ marks cell (has_bit k)
      (either_line (λ (m : ℕ). has_bit k m ≡ has_bit k mark) (within from to cell) _ _ (λ _. modified_bit mark) (λ _. refl))

  pub cleared_marks_bit : (marks : List ℕ) (cell : ℕ) → has_bit k (get_or (modified_cleared marks) cell 0) ≡ has_bit k (get_or marks cell 0)
  unfolding modified_cleared
  cleared_marks_bit marks cell = each_keeps _ marks cell (has_bit k) (sent_bit (get_or marks cell 0))

pub sent_protection : (mark : ℕ) → is_protected (mark_after_block mark) ≡ is_protected mark
sent_protection = sent_bit 0 (λ same. omega arith)

-- A typed character.
module _ (page : Page) (cell character : ℕ) where
  pub typed_protection : (other : ℕ) → unprotected (typed cell character page).marks other ≡ unprotected page.marks other
  unfolding unprotected
  typed_protection other = ap not (typed_bit 0 (λ same. omega arith) page cell character other)

  pub typed_modified : cell < length page.marks → is_modified (get_or (typed cell character page).marks cell 0) ≡ true
  unfolding typed
  typed_modified here = ap is_modified (get_or-set_same page.marks cell _ 0 here) ∙ set_bit 1 (get_or page.marks cell 0)

-- Cells that were tagged.
module _ (from to : ℕ) (marks : List ℕ) (cell : ℕ) where
  pub tagged_protection : unprotected (tagged from to marks) cell ≡ unprotected marks cell
  unfolding unprotected
  tagged_protection = ap not (tagged_bit 0 (λ same. omega arith) from to marks cell)

  pub untagged : (from ≤ cell → cell < to → ⊥) → get_or (tagged from to marks) cell 0 ≡ get_or marks cell 0
  unfolding tagged
  untagged outside = each_keeps _ marks cell (λ (mark : ℕ). mark) (else_case _ _ _ (outside_range from to cell outside))

  pub tagged_modified : from ≤ cell → cell < to → cell < length marks → is_modified (get_or (tagged from to marks) cell 0) ≡ true
  unfolding tagged
  tagged_modified low high here =
      ap is_modified (each_at _ marks cell here ∙ then_case _ _ _ (inside from to cell low high)) ∙ set_bit 1 (get_or marks cell 0)

-- Marks that were sent.
module _ (marks : List ℕ) (cell : ℕ) where
  pub protected_uncleared : unprotected marks cell ≡ false → get_or (modified_cleared marks) cell 0 ≡ get_or marks cell 0
  unfolding modified_cleared
  protected_uncleared protected = each_keeps _ marks cell (λ (mark : ℕ). mark) (sent_protected marks cell protected)
