-- Demand 2, feeding back: which terminal a full block is fed to, and what becomes of it.
use Rattle.std.specs.Prelude.{◌≡◌, true, false, ℕ}
use mathlib.Core.List.{List, [], Memᴰ}
use Rattle.sequence.specs.Record.{nothing_read}
use Rattle.page.specs.Marks.{is_protected}
use Rattle.steps.specs.Steps.{Terminal, Stepped, Valid}
use Rattle.steps.specs.Seen.{character_at, unprotected_at}
use Rattle.steps.specs.Claims.{CellKept}
use Rattle.promises.specs.Rules.{Rules, byte_steps}
use Rattle.promises.specs.Entries.{Entries, outcomes, AllDone, Read, reads, read_all}

-- A receiver of equal size and equal protected cells (at the same places; D-48), with nothing half read and an
-- unprotected pen.
pub record Receives (sender receiver : Terminal) : Type 0 where
  pub valid : Valid receiver
  pub size : receiver.state.size ≡ sender.state.size
  pub protection : (cell : ℕ) → unprotected_at receiver cell ≡ unprotected_at sender cell
  pub nothing_half_read : receiver.state.half ≡ nothing_read
  pub unprotected_pen : is_protected receiver.state.modes.pen ≡ false

-- The block, cut into reads anyhow, is taken and none of it refused; it writes the sender's unprotected characters
-- there and changes no protected cell, nor which cells are protected.
pub record FedBack (rules : Rules) (entries : Entries) (sender receiver : Terminal) (block : List ℕ) (cut : List Read)
    : Type 0 where
  pub answered : AllDone (outcomes entries receiver (reads cut))
  pub nothing_sent : (read_all entries receiver cut).bytes_sent ≡ []
  pub nothing_refused : (step : Stepped) → Memᴰ step (byte_steps rules receiver block) → step.was_refused ≡ false
  pub characters : (cell : ℕ) → unprotected_at sender cell ≡ true →
      character_at (read_all entries receiver cut).terminal cell ≡ character_at sender cell
  pub protected_cells : (cell : ℕ) → unprotected_at sender cell ≡ false →
      CellKept receiver.page (read_all entries receiver cut).terminal.page cell
  pub protection : (cell : ℕ) →
      unprotected_at (read_all entries receiver cut).terminal cell ≡ unprotected_at sender cell
