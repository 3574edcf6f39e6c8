-- Demand 3 carried to calls: what they sent is the transmissions of the steps that they did, and the host finds their
-- blocks in it.
use mathlib.Core.Path.{◌≡◌, refl, ap, ◌∙◌}
use mathlib.Core.List.{List, [], ◌∷◌, ◌++◌}
use Prim.Native.Nat.{ℕ}
use Rattle.blocks.specs.Finding.{blocks_from, blocks_in}
use Rattle.steps.specs.Steps.{Terminal, full_block, Transmission}
use Rattle.terminal.specs.Runs.{after, bytes_sent_by}
use Rattle.promises.specs.Rules.{Rules, Input, step_of, steps, Total}
use Rattle.promises.specs.Entries.{Entries, Call, inputs_done}
use Rattle.promises.specs.Copying.{block_in, blocks_sent}
use Rattle.promises.specs.Demands.{Finding, Copying}
use Rattle.promises.proofs.Laws.{StepLaws, Keeps}
use Rattle.promises.proofs.Doing.{found_valid}
use Rattle.promises.proofs.Calling.{steps-joined, steps_keep_valid, calls_are_steps_of}
use Rattle.promises.proofs.Found.{blocks_joined, blocks_found}
use Rattle.promises.proofs.Copied.{copying_of}
use Rattle.promises.proofs.Omitted.{omission_of}

-- The first of some steps sends a block.
block_first : (rules : Rules) (t : Terminal) (asks : Input) (later : List Input) (block : List ℕ) → (step_of rules asks t).transmission ≡ full_block block → blocks_sent (steps rules t (asks ∷ later)) ≡ block ∷ blocks_sent (steps rules (step_of rules asks t).terminal later)
unfolding steps blocks_sent block_in
block_first rules t asks later block sends = ap (λ (transmission : Transmission). block_in transmission ++ blocks_sent (steps rules (step_of rules asks t).terminal later)) sends

-- Inputs that begin with some, and go on.
first_input : (before : List Input) (asks : Input) (later : List Input) → (input : Input) × (rest : List Input) × (before ++ (asks ∷ later) ≡ input ∷ rest)
first_input [] asks later = (asks, later, refl)
first_input (input ∷ before) asks later = (input, before ++ (asks ∷ later), refl)

module _ (rules : Rules) (laws : StepLaws rules) (entries : Entries) (kept : Keeps rules entries) where
  -- In all that calls wrote, the host finds the blocks of the steps that they did. Calls that did none wrote nothing.
  found_by : (t : Terminal) (calls : List Call) (inputs : List Input) → inputs_done entries t calls ≡ inputs → blocks_in (bytes_sent_by (steps rules t inputs)) ≡ blocks_sent (steps rules t inputs)
  unfolding steps bytes_sent_by blocks_sent blocks_from
  found_by t calls [] did = refl
  found_by t calls (input ∷ later) did = blocks_found rules laws t (found_valid rules entries kept t calls input later did) (input ∷ later)

  pub finding_of : Finding blocks_in rules entries
  finding_of t calls =
      ap (λ (all : Total). blocks_in all.bytes_sent) (calls_are_steps_of rules entries kept t calls) ∙ found_by t calls (inputs_done entries t calls) refl

  pub copying_calls_of : Copying blocks_in rules entries
  copying_calls_of t calls before asks later block did sends nothing =
      let begun = first_input before asks later in
      let valid = found_valid rules entries kept t calls begun.0 begun.1 (did ∙ begun.2) in
      let here = after t (steps rules t before) in
      let here-valid = steps_keep_valid rules laws t valid before in
      let there = (step_of rules asks here).terminal in
      record {
        found =
            finding_of t calls
            ∙ ap (λ (inputs : List Input). blocks_sent (steps rules t inputs)) did
            ∙ ap blocks_sent (steps-joined rules t before (asks ∷ later))
            ∙ blocks_joined (steps rules t before) (steps rules here (asks ∷ later))
            ∙ ap (λ (blocks : List (List ℕ)). blocks_sent (steps rules t before) ++ blocks) (block_first rules here asks later block sends);
        copy = copying_of rules laws here here-valid asks block sends later nothing;
        omission = omission_of rules laws here here-valid asks block sends later nothing;
      }
