-- The host finds in the bytes of steps the blocks that they sent, in order: by the laws alone.
use mathlib.Core.Path.{◌≡◌, refl, ap, ◌∙◌}
use mathlib.Core.Bool.{Bool, true, false}
use mathlib.Core.List.{List, [], ◌∷◌, ◌++◌, append_assoc}
use Prim.Native.Nat.{ℕ}
use Rattle.blocks.specs.Finding.{blocks_from, blocks_in}
use Rattle.blocks.proofs.Finding.{report_passed, page_block_found}
use Rattle.steps.specs.Steps.{Terminal, Transmission, silent, report, full_block, changed_block, Stepped, bytes_of, Valid}
use Rattle.steps.specs.Seen.{block_here}
use Rattle.terminal.specs.Runs.{bytes_sent_by}
use Rattle.promises.specs.Rules.{Rules, Input, step_of, steps}
use Rattle.promises.specs.Copying.{block_in, blocks_sent}
use Rattle.promises.proofs.Laws.{StepLaw, StepLaws}
use Rattle.promises.proofs.Keeping.{sendable}

pub blocks_joined : (first second : List Stepped) → blocks_sent (first ++ second) ≡ blocks_sent first ++ blocks_sent second
unfolding blocks_sent
blocks_joined [] second = refl
blocks_joined (step ∷ later) second = rw (append_assoc, blocks_joined later second)

-- One transmission in front of whatever comes.
module _ (t : Terminal) (valid : Valid t) (step : Stepped) (law : StepLaw t step) (later : List ℕ) where
  block_in_front : (full : Bool) {bytes : List ℕ} → bytes ≡ block_here full t → blocks_in (bytes ++ later) ≡ bytes ∷ blocks_in later
  block_in_front full is = rw is (page_block_found t.state.size.columns t.page (sendable valid) full later)

  found_in_front : (transmission : Transmission) → step.transmission ≡ transmission → blocks_in (bytes_of transmission ++ later) ≡ block_in transmission ++ blocks_in later
  unfolding bytes_of block_in
  found_in_front silent is = refl
  found_in_front (report bytes) is = report_passed bytes later (law.reports bytes is)
  found_in_front (full_block bytes) is = block_in_front true (law.by_full_block bytes is).of_page
  found_in_front (changed_block bytes) is = block_in_front false (law.by_changed_block bytes is).of_page

pub blocks_found : (rules : Rules) → StepLaws rules → (t : Terminal) → Valid t → (inputs : List Input) → blocks_in (bytes_sent_by (steps rules t inputs)) ≡ blocks_sent (steps rules t inputs)
unfolding steps bytes_sent_by blocks_sent blocks_from
blocks_found rules laws t valid [] = refl
blocks_found rules laws t valid (input ∷ later) =
    let step = step_of rules input t in
    let law = laws.every_step input t valid in
    found_in_front t valid step law (bytes_sent_by (steps rules step.terminal later)) step.transmission refl
    ∙ ap (λ (blocks : List (List ℕ)). block_in step.transmission ++ blocks) (blocks_found rules laws step.terminal law.valid later)
