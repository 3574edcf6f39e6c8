-- Cells that are named: in page order, each once, all on the page; and what follows where none is named.
use mathlib.Core.Path.{◌≡◌, refl, ap, ◌∙◌}
use mathlib.Core.Bool.{Bool, not}
use mathlib.Core.List.Memᴰ
use mathlib.Core.List.{List, [], Memᴰ}
use mathlib.Core.Logic.{⊎_elim}
use Prim.Native.Nat.{ℕ, zero, suc, ◌+◌, ◌-◌, ◌<◌, ◌≤◌}
use native.Mathlib.Omega.{arith}
use lib.ListN.{length, get_or}
use lib.Seq.{ext_get_or}
use Rattle.words.specs.Lists.{numbers_from}
use Rattle.words.proofs.Choosing.{either_line}
use Rattle.page.specs.Marks.{is_protected, unprotected}
use Rattle.page.specs.Page.{Page}
use Rattle.page.proofs.Keeping.{SameSize}
use Rattle.page.proofs.Protecting.{sent_protection}
use Rattle.steps.specs.Steps.{Transmission, silent, report, full_block, changed_block}
use Rattle.steps.specs.Claims.{Rising, none, next, mark_left, Stays, TouchesOnly, KeepsProtection}

pub from_earlier : {end first earlier : ℕ} {cells : List ℕ} → earlier ≤ first → Rising end first cells → Rising end earlier cells
from_earlier l none = none
from_earlier {earlier} l (next cell h k rest) = next {first = earlier} cell (omega arith) k rest

-- The places that pass a test.
module _ (test : ℕ → Bool) (end : ℕ) where
  pub places_rise : (i n : ℕ) → i + n ≤ end → Rising end i (numbers_from test i n)
  unfolding numbers_from
  places_rise i zero h = none
  places_rise i (suc n) h =
      let later = places_rise (i + 1) n (omega arith) in
      either_line (Rising end i) (test i) _ _ (λ _. next i (omega arith) (omega arith) later) (λ _. from_earlier (omega arith) later)

-- Cells named once are no more than there are.
pub named_count : {end first : ℕ} {cells : List ℕ} → Rising end first cells → length cells ≤ end - first
named_count none = omega arith
named_count (next cell low high later) = let rest = named_count later in omega arith

pub named_between : {end first : ℕ} {cells : List ℕ} → Rising end first cells → (cell : ℕ) → Memᴰ cell cells → (first ≤ cell) × (cell < end)
named_between none cell m = absurd (Memᴰ.not-nil m)
named_between {first} (next named h k rest) cell m =
    ⊎_elim (λ same. (rw same h, rw same k)) (λ found. let later = named_between rest cell found in (omega arith, later.1)) (Memᴰ.cases_cons m)

-- A transmission leaves a cell as protected as it was.
left_protection : (transmission : Transmission) (mark : ℕ) → is_protected (mark_left transmission mark) ≡ is_protected mark
unfolding mark_left
left_protection silent mark = refl
left_protection (report bytes) mark = refl
left_protection (full_block bytes) mark = sent_protection mark
left_protection (changed_block bytes) mark = sent_protection mark

-- A cell that stays is as protected as it was.
stays_protected : (transmission : Transmission) (before after : Page) (cell : ℕ) → Stays transmission before after cell → unprotected after.marks cell ≡ unprotected before.marks cell
unfolding unprotected
stays_protected transmission before after cell stays =
    ap (λ (mark : ℕ). not (is_protected mark)) stays.mark ∙ ap not (left_protection transmission (get_or before.marks cell 0))

-- Where no cell is named.
module _ (transmission : Transmission) (before after : Page) (touches : TouchesOnly [] transmission before after) where
  pub all_stay_protected : KeepsProtection before after
  all_stay_protected cell here = stays_protected transmission before after cell (touches cell here Memᴰ.not-nil)

  pub same_characters : SameSize before after → length before.characters ≡ length before.marks → after.characters ≡ before.characters
  same_characters size fits =
      ext_get_or 0 after.characters before.characters size.characters
      (λ cell here. (touches cell (omega (arith, size.characters)) Memᴰ.not-nil).character)
