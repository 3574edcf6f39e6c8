-- Demand 3, the copy, by the laws alone.
use mathlib.Core.Path.{◌≡◌, refl, sym, ap, ◌∙◌}
use mathlib.Core.Bool.{true}
use mathlib.Core.List.{List, ◌∷◌, ◌++◌, map}
use Prim.Native.Nat.{ℕ}
use native.Mathlib.Omega.{arith}
use Rattle.words.proofs.Choosing.{not_both}
use Rattle.page.specs.Marks.{is_modified}
use Rattle.page.specs.Page.{Page}
use Rattle.blocks.specs.Blocks.{block}
use Rattle.blocks.specs.Lay.{lay}
use Rattle.blocks.proofs.Claims.{Sendable, SameForm, UnmodifiedKept}
use Rattle.blocks.proofs.Theorems.{copy_changed, copy_replaced}
use Rattle.steps.specs.Steps.{Terminal, Transmission, silent, report, full_block, changed_block, Stepped, Valid}
use Rattle.steps.specs.Seen.{block_here}
use Rattle.steps.specs.Claims.{StoresNoCell, mark_left}
use Rattle.promises.specs.Rules.{Rules, step_of}
use Rattle.promises.specs.Copying.{block_in, blocks_sent, standings, copies}
use Rattle.promises.proofs.Laws.{StepLaw, TagLaw, StepLaws}
use Rattle.promises.specs.Further.{CopyingSteps}
use Rattle.promises.proofs.Keeping.{sendable, leaves, was_on_page, had_mark, same_form, same_full_block}
use Rattle.promises.proofs.Following.{Follow, no_more, one_more, follow}

-- The copy is the full block of an earlier page of the same form; a cell that is not modified still has that page's
-- character.
record IsCopy (copy : List ℕ) (t : Terminal) : Type 0 where
  page : Page
  is : copy ≡ block true t.state.size.columns page
  was_sendable : Sendable t.state.size.columns page
  form : SameForm page t.page
  kept : UnmodifiedKept page t.page

-- A page's own full block is its copy.
own_copy : {copy : List ℕ} (t : Terminal) → Valid t → copy ≡ block_here true t → IsCopy copy t
own_copy t valid is = record {
  page = t.page;
  is = is;
  was_sendable = sendable valid;
  form = record { size = record { characters = refl; marks = refl }; unprotected-cells = λ cell here. refl };
  kept = λ cell here cell_unprotected unmodified. refl;
}

-- Of one form with a page that is of one form with a third.
form_then : {p q r : Page} → SameForm p q → SameForm q r → SameForm p r
form_then one other = record {
  size = record { characters = other.size.characters ∙ one.size.characters; marks = other.size.marks ∙ one.size.marks };
  unprotected-cells = λ cell here. one.unprotected-cells cell (omega (arith, other.size.marks)) ∙ other.unprotected-cells cell here;
}

module _ (copy : List ℕ) (t : Terminal) (valid : Valid t) (step : Stepped) (law : StepLaw t step) (tag : TagLaw t step) (copied : IsCopy copy t) where
  -- A step that sends no block leaves the copy as good as it was: what it names is modified, and the rest stays.
  stays_copy : ((mark : ℕ) → mark_left step.transmission mark ≡ mark) → IsCopy copy step.terminal
  stays_copy keeps = record {
    page = copied.page;
    is = rw law.size copied.is;
    was_sendable = rw law.size copied.was_sendable;
    form = form_then copied.form (same_form t valid step law tag.protection);
    kept = λ cell here cell_unprotected unmodified.
        let marked = had_mark t valid step law cell here in
        let stays = law.touches cell marked (λ named. not_both (tag.tags cell named) unmodified) in
        copied.kept cell (was_on_page t valid step law cell here) (sym (tag.protection cell marked) ∙ cell_unprotected) (sym (ap is_modified (stays.mark ∙ keeps _)) ∙ unmodified)
        ∙ sym stays.character;
  }

  -- A block makes it the full block of the page as it stands.
  renews_copy : (bytes : List ℕ) → StoresNoCell step → lay bytes copy ≡ block_here true t → (lay bytes copy ≡ block_here true step.terminal) × IsCopy (lay bytes copy) step.terminal
  renews_copy bytes no_cell laid_right =
      let right = laid_right ∙ same_full_block t valid step law no_cell in
      (right, own_copy step.terminal law.valid right)

  -- The step, and then later ones, of which it holds.
  module _ (later : List Stepped) (rest : (next : List ℕ) → IsCopy next step.terminal → copies next (blocks_sent later) ≡ map (block_here true) (standings later)) where
    and_later : (bytes : List ℕ) → (lay bytes copy ≡ block_here true step.terminal) × IsCopy (lay bytes copy) step.terminal
        → copies copy (bytes ∷ blocks_sent later) ≡ map (block_here true) (step.terminal ∷ standings later)
    unfolding copies
    and_later bytes now = λ i. now.0 i ∷ rest (lay bytes copy) now.1 i

    copied_on : (transmission : Transmission) → step.transmission ≡ transmission
        → copies copy (block_in transmission ++ blocks_sent later) ≡ map (block_here true) (map (λ (block : List ℕ). step.terminal) (block_in transmission) ++ standings later)
    unfolding block_in mark_left
    copied_on silent is = rest copy (stays_copy (leaves step is))
    copied_on (report bytes) is = rest copy (stays_copy (leaves step is))
    copied_on (full_block bytes) is =
        let sent = law.by_full_block bytes is in
        and_later bytes (renews_copy bytes sent.no_cell
        (rw (sent.of_page, copied.is) (copy_replaced _ copied.page t.page copied.was_sendable (sendable valid) copied.form)))
    copied_on (changed_block bytes) is =
        let sent = law.by_changed_block bytes is in
        and_later bytes (renews_copy bytes sent.no_cell
        (rw (sent.of_page, copied.is) (copy_changed _ copied.page t.page copied.was_sendable (sendable valid) copied.form copied.kept)))

copies_right : {t : Terminal} {run : List Stepped} → Follow t run → (copy : List ℕ) → IsCopy copy t → copies copy (blocks_sent run) ≡ map (block_here true) (standings run)
unfolding copies blocks_sent standings
copies_right no_more copy copied = refl
copies_right (one_more {t} {step} {later} valid law tag further) copy copied =
    copied_on copy t valid step law tag copied later (λ next is_copy. copies_right further next is_copy) step.transmission refl

-- Right after the first full block, too, the copy is the full block of the page as it stands.
pub copying_of : (rules : Rules) → StepLaws rules → CopyingSteps rules
copying_of rules laws t valid asks block sends later nothing =
    let step = step_of rules asks t in
    let law = laws.every_step asks t valid in
    let sent = law.by_full_block block sends in
    let at_first = sent.of_page ∙ same_full_block t valid step law sent.no_cell in
    let right = copies_right (follow rules laws step.terminal law.valid later nothing) block (own_copy step.terminal law.valid at_first) in
    (λ i. at_first i ∷ right i)
