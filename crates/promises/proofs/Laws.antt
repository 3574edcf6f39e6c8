-- The laws of a step, over rules alone: whatever kind of terminal keeps them, with entries that keep demand 1 and
-- follow its rules, keeps cutting, continuing, keys, what blocks keep, their bound, the copy and omission.
use mathlib.Core.Path.{◌≡◌}
use mathlib.Core.Bool.{Bool, true, false}
use mathlib.Core.List.{List, Memᴰ}
use Prim.Native.Nat.{ℕ, ◌≤◌}
use lib.ListN.{length}
use Rattle.blocks.proofs.Claims.{IsReport}
use Rattle.steps.specs.Steps.{Terminal, report, full_block, changed_block, Stepped, bytes_of, Valid}
use Rattle.steps.specs.Seen.{seen, unprotected_at, modified_at, block_here}
use Rattle.steps.specs.Claims.{StoresNoCell, TouchesOnly, KeepsProtection}
use Rattle.terminal.specs.Answers.{Outcome, bytes_sent}
use Rattle.terminal.specs.Runs.{after, bytes_sent_by, cells_stored_by, refused_by, protection_by}
use Rattle.promises.specs.Rules.{Rules, Input, step_of}
use Rattle.promises.specs.Entries.{Entries}
use Rattle.promises.specs.Demands.{Numbers, Refusals, Follows}

-- A block, full or changed, is that of the page as it was, and its step stores in no cell.
pub record BlockOfPage (full : Bool) (t : Terminal) (step : Stepped) (bytes : List ℕ) : Type 0 where
  pub of_page : bytes ≡ block_here full t
  pub no_cell : StoresNoCell step

-- Every step from a valid terminal: it stays valid and of its size; cells not named stay, but for modified, which a
-- block clears; what it sends is a report, or a block of the page; and no longer than the longest block.
pub record StepLaw (t : Terminal) (step : Stepped) : Type 0 where
  pub valid : Valid step.terminal
  pub size : step.terminal.state.size ≡ t.state.size
  pub touches : TouchesOnly step.cells step.transmission (seen t) (seen step.terminal)
  pub reports : (bytes : List ℕ) → step.transmission ≡ report bytes → IsReport bytes
  pub by_full_block : (bytes : List ℕ) → step.transmission ≡ full_block bytes → BlockOfPage true t step bytes
  pub by_changed_block : (bytes : List ℕ) → step.transmission ≡ changed_block bytes → BlockOfPage false t step bytes
  pub short : length (bytes_of step.transmission) ≤ 35138

-- Protection stays, and each cell named is modified.
pub record TagLaw (t : Terminal) (step : Stepped) : Type 0 where
  pub protection : KeepsProtection (seen t) (seen step.terminal)
  pub tags : (cell : ℕ) → Memᴰ cell step.cells → modified_at step.terminal cell ≡ true

-- Every key's step does that, and names unprotected cells only.
pub record KeyLaw (t : Terminal) (step : Stepped) : Type 0 where
  pub tag_law : TagLaw t step
  pub names_unprotected : (cell : ℕ) → Memᴰ cell step.cells → unprotected_at t cell ≡ true

pub record StepLaws (rules : Rules) : Type 0 where
  pub every_step : (input : Input) (t : Terminal) → Valid t → StepLaw t (step_of rules input t)
  pub every_key : (key : ℕ) (t : Terminal) → Valid t → KeyLaw t (rules.on_key key t)

-- Entries that keep the three: then nothing else is left to them (OneTerminal).
pub record Keeps (rules : Rules) (entries : Entries) : Type 1 where
  pub numbers : Numbers rules entries
  pub refusals : Refusals rules entries
  pub follows : Follows rules entries

-- A call did these steps: it leaves what they leave, its bytes are their transmissions joined, its count the cells that
-- they name.
pub record DidSteps (t : Terminal) (done : List Stepped) (outcome : Outcome) : Type 0 where
  pub terminal : outcome.terminal ≡ after t done
  pub sent : bytes_sent outcome ≡ bytes_sent_by done
  pub stored : outcome.stored ≡ length (cells_stored_by done)
  pub refused : outcome.refused ≡ refused_by done
  pub protection : outcome.protection ≡ protection_by done
