-- Demand 3, omission, by the laws alone.
use mathlib.Core.Path.{◌≡◌, refl, sym, ap, ◌∙◌}
use mathlib.Core.Bool.{true, false}
use mathlib.Core.List.Memᴰ
use mathlib.Core.List.{List, [], ◌++◌, Memᴰ}
use mathlib.Core.Logic.{⊎_elim}
use Prim.Native.Nat.{ℕ, ◌<◌}
use native.Mathlib.Omega.{arith}
use lib.ListN.{length, get_or}
use Rattle.words.proofs.Choosing.{not_both, either_way, second_decides, neither}
use Rattle.words.proofs.Ranges.{no_place_holds, at_no_place}
use Rattle.page.specs.Marks.{is_modified, unprotected}
use Rattle.page.specs.Page.{Page, cells, mark_after_block}
use Rattle.blocks.specs.Blocks.{is_in_block, block}
use Rattle.steps.specs.Steps.{Terminal, Transmission, silent, report, full_block, changed_block, Stepped, Valid}
use Rattle.steps.specs.Claims.{mark_left}
use Rattle.promises.specs.Rules.{Rules, step_of}
use Rattle.promises.specs.Copying.{OmitsExactly, stored_since, OmissionHolds}
use Rattle.promises.proofs.Laws.{StepLaw, TagLaw, StepLaws}
use Rattle.promises.specs.Further.{OmissionSteps}
use Rattle.promises.proofs.Keeping.{sendable, leaves, was_on_page, had_mark, nothing_modified}
use Rattle.promises.proofs.Unsent.{is_field, omitted_unsent, unsent_omitted}
use Rattle.promises.proofs.Following.{Follow, no_more, one_more, follow}

-- A cell that was stored since the block before is modified, and every other unprotected cell is not.
record Tracks (stored : List ℕ) (page : Page) : Type 0 where
  stored_are : (cell : ℕ) → cell < cells page → Memᴰ cell stored → is_modified (get_or page.marks cell 0) ≡ true
  others_are_not : (cell : ℕ) → cell < cells page → unprotected page.marks cell ≡ true → (Memᴰ cell stored → ⊥) → is_modified (get_or page.marks cell 0) ≡ false

-- So a changed block sends just the fields with a cell that was stored.
omits_exactly : (t : Terminal) → Valid t → (stored : List ℕ) → Tracks stored t.page → OmitsExactly (changed_block (block false t.state.size.columns t.page)) t stored
unfolding OmitsExactly is_in_block
omits_exactly t valid stored tracks field listed =
    let columns = t.state.size.columns in
    let is = is_field t (sendable valid) field listed in (
      λ omitted. record {
        no_cell = λ cell low high was-stored.
            let unsent = omitted_unsent t (sendable valid) false field listed omitted in
            not_both (tracks.stored_are cell (omega (arith, is.on_page)) was-stored)
            (at_no_place _ field.start field.length cell (neither unsent).1 low high);
      },
      λ unstored.
          unsent_omitted t (sendable valid) false field listed
          (second_decides false _ refl
          ∙ no_place_holds _ field.start field.length
          (λ cell low high. tracks.others_are_not cell (omega (arith, is.on_page)) (is.all_unprotected cell (low, high)) (unstored.no_cell cell low high))),
    )

-- A block leaves nothing modified.
tracks_anew : (t : Terminal) → Valid t → (step : Stepped) → StepLaw t step → step.cells ≡ [] → ((mark : ℕ) → mark_left step.transmission mark ≡ mark_after_block mark) → Tracks [] step.terminal.page
tracks_anew t valid step law no_cell clears = record {
  stored_are = λ cell here was-stored. absurd (Memᴰ.not-nil was-stored);
  others_are_not = λ cell here cell_unprotected unstored. nothing_modified t valid step law no_cell clears cell here cell_unprotected;
}

module _ (t : Terminal) (valid : Valid t) (step : Stepped) (law : StepLaw t step) (tag : TagLaw t step) (stored : List ℕ) (tracks : Tracks stored t.page) where
  -- A step that sends no block: what it names is modified, and the rest stays.
  tracks_on : ((mark : ℕ) → mark_left step.transmission mark ≡ mark) → Tracks (stored ++ step.cells) step.terminal.page
  tracks_on keeps = record {
    stored_are = λ cell here was-stored.
        ⊎_elim
        (λ before.
        either_way (is_modified (get_or step.terminal.page.marks cell 0))
        (λ modified. modified)
        (λ unmodified. stays cell here (λ named. not_both (tag.tags cell named) unmodified) ∙ tracks.stored_are cell (on_page cell here) before))
        (tag.tags cell)
        (Memᴰ.append_cases stored was-stored);
    others_are_not = λ cell here cell_unprotected unstored.
        stays cell here (λ named. unstored (Memᴰ.append_right stored named))
        ∙ tracks.others_are_not cell (on_page cell here) (sym (tag.protection cell (marked cell here)) ∙ cell_unprotected) (λ before. unstored (Memᴰ.append_left step.cells before));
  }
    where
      on_page : (cell : ℕ) → cell < cells step.terminal.page → cell < cells t.page
      on_page = was_on_page t valid step law

      marked : (cell : ℕ) → cell < cells step.terminal.page → cell < length t.page.marks
      marked = had_mark t valid step law

      stays : (cell : ℕ) → cell < cells step.terminal.page → (Memᴰ cell step.cells → ⊥) → is_modified (get_or step.terminal.page.marks cell 0) ≡ is_modified (get_or t.page.marks cell 0)
      stays cell here unnamed = ap is_modified ((law.touches cell (marked cell here) unnamed).mark ∙ keeps _)

  omitted_on : (transmission : Transmission) → step.transmission ≡ transmission → OmitsExactly transmission t stored × Tracks (stored_since transmission stored step.cells) step.terminal.page
  unfolding OmitsExactly stored_since mark_left
  omitted_on silent is = (tt, tracks_on (leaves step is))
  omitted_on (report bytes) is = (tt, tracks_on (leaves step is))
  omitted_on (full_block bytes) is = (tt, tracks_anew t valid step law (law.by_full_block bytes is).no_cell (leaves step is))
  omitted_on (changed_block bytes) is =
      let sent = law.by_changed_block bytes is in
      (rw sent.of_page (omits_exactly t valid stored tracks), tracks_anew t valid step law sent.no_cell (leaves step is))

omission_holds : {t : Terminal} {run : List Stepped} → Follow t run → (stored : List ℕ) → Tracks stored t.page → OmissionHolds t stored run
unfolding OmissionHolds
omission_holds no_more stored tracks = tt
omission_holds (one_more {t} {step} valid law tag further) stored tracks =
    let now = omitted_on t valid step law tag stored tracks step.transmission refl in
    (now.0, omission_holds further (stored_since step.transmission stored step.cells) now.1)

pub omission_of : (rules : Rules) → StepLaws rules → OmissionSteps rules
unfolding mark_left
omission_of rules laws t valid first block sends inputs nothing =
    let step = step_of rules first t in
    let law = laws.every_step first t valid in
    omission_holds (follow rules laws step.terminal law.valid inputs nothing) []
    (tracks_anew t valid step law (law.by_full_block block sends).no_cell (leaves step sends))
