-- Demand 3: what the host does with the blocks it gets, and what keys have stored since the block before.
use Rattle.std.specs.Prelude.{◌≡◌, true, ◌↔◌, ℕ, ◌+◌, ◌<◌, ◌≤◌}
use mathlib.Core.List.{List, [], ◌∷◌, ◌++◌, map, Memᴰ}
use Rattle.fields.specs.Fields.{Field}
use Rattle.blocks.specs.Blocks.{Entry}
use Rattle.blocks.specs.Decode.{decode}
use Rattle.blocks.specs.Lay.{lay}
use Rattle.steps.specs.Steps.{Terminal, Transmission, silent, report, full_block, changed_block, Stepped}
use Rattle.steps.specs.Seen.{fields_here, entry_here, block_here}
use Rattle.steps.specs.Claims.{StoresNoCell}
use Rattle.promises.specs.Rules.{Rules, Input, byte, press, steps}

-- Host bytes follow, as long as they store in no cell; keys as they come.
unfoldable pub HostStoresNothing : Rules → Terminal → List Input → Type 0
HostStoresNothing rules t [] = Unit {0}
HostStoresNothing rules t (byte b ∷ later) =
    StoresNoCell (rules.on_byte b t) × HostStoresNothing rules (rules.on_byte b t).terminal later
HostStoresNothing rules t (press key ∷ later) = HostStoresNothing rules (rules.on_key key t).terminal later

-- The blocks among the transmissions of steps, in order; a report is none.
unfoldable pub block_in : Transmission → List (List ℕ)
block_in silent = []
block_in (report bytes) = []
block_in (full_block bytes) = bytes ∷ []
block_in (changed_block bytes) = bytes ∷ []

unfoldable pub blocks_sent : List Stepped → List (List ℕ)
blocks_sent [] = []
blocks_sent (step ∷ later) = block_in step.transmission ++ blocks_sent later

-- The terminal as it stands right after each of them.
unfoldable pub standings : List Stepped → List Terminal
standings [] = []
standings (step ∷ later) = map (λ (block : List ℕ). step.terminal) (block_in step.transmission) ++ standings later

-- The host lays each block over its copy: the copy that it has after each.
unfoldable pub copies : List ℕ → List (List ℕ) → List (List ℕ)
copies copy [] = []
copies copy (block ∷ later) = let now = lay block copy in now ∷ copies now later

-- A block has no entry at the field's place.
pub record Omitted (t : Terminal) (bytes : List ℕ) (field : Field) : Type 0 where
  pub no_entry : (entry : Entry) → Memᴰ entry (decode bytes) →
      entry.row ≡ (entry_here t field).row → entry.column ≡ (entry_here t field).column → ⊥

-- None of the field's cells is among those stored.
pub record Unstored (stored : List ℕ) (field : Field) : Type 0 where
  pub no_cell : (cell : ℕ) → field.start ≤ cell → cell < field.start + field.length → Memᴰ cell stored → ⊥

-- A changed block omits a field exactly when none of its cells was stored since the block before.
unfoldable pub OmitsExactly : Transmission → Terminal → List ℕ → Type 0
OmitsExactly silent t stored = Unit {0}
OmitsExactly (report bytes) t stored = Unit {0}
OmitsExactly (full_block bytes) t stored = Unit {0}
OmitsExactly (changed_block bytes) t stored =
    (field : Field) → Memᴰ field (fields_here t) → Omitted t bytes field ↔ Unstored stored field

-- The cells that steps have named since the last block, of whichever kind.
unfoldable pub stored_since : Transmission → List ℕ → List ℕ → List ℕ
stored_since silent stored cells = stored ++ cells
stored_since (report bytes) stored cells = stored ++ cells
stored_since (full_block bytes) stored cells = []
stored_since (changed_block bytes) stored cells = []

-- So it is with each changed block among these steps, from a terminal, where `stored` was stored since the block
-- before.
unfoldable pub OmissionHolds : Terminal → List ℕ → List Stepped → Type 0
OmissionHolds t stored [] = Unit {0}
OmissionHolds t stored (step ∷ later) =
    OmitsExactly step.transmission t stored
    × OmissionHolds step.terminal (stored_since step.transmission stored step.cells) later

-- What the host finds in all the bytes sent: the blocks of the steps before, this block, and the later ones. It has
-- this block for its copy, and with each later one laid over it what is then a full block of the page as it stands; and
-- omission holds. `there` is the terminal that this block's step left.
pub record CopyHolds (finds : List ℕ → List (List ℕ)) (rules : Rules) (t : Terminal) (sent : List ℕ)
    (before : List Input) (block : List ℕ) (there : Terminal) (later : List Input) : Type 0 where
  pub found : finds sent ≡ blocks_sent (steps rules t before) ++ (block ∷ blocks_sent (steps rules there later))
  pub copy : block ∷ copies block (blocks_sent (steps rules there later))
      ≡ map (block_here true) (there ∷ standings (steps rules there later))
  pub omission : OmissionHolds there [] (steps rules there later)
