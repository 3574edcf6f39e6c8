-- What is claimed of a host byte's step beside what is claimed of every step: what it stores, and what it sends.
use mathlib.Core.Bool.{true}
use mathlib.Core.List.{List, [], ◌∷◌}
use mathlib.Core.Path.{◌≡◌}
use Prim.Native.Nat.{ℕ}
use Rattle.sequence.specs.declared.HalfRead.{HalfRead}
use Rattle.sequence.specs.declared.Reason.{Reason}
use Rattle.page.specs.Page.{cells_erased}
use Rattle.blocks.proofs.Claims.{IsReport}
use Rattle.steps.specs.Steps.{Terminal, report, full_block, changed_block, Stepped, refusing, cursor_cell, all_cells}
use Rattle.steps.specs.Claims.{SendsBlock}
use Rattle.steps.proofs.Soundness.{Sound}

-- The byte ends ESC S.
abbrev pub EndsEscS : HalfRead → ℕ → Type 0
EndsEscS half byte = (half.kind ≡ 1) × (byte ≡ 0x53)

-- The cells that a step may store: none; one, for text; those that it erases; all R x C, for a scroll and ESC c.
-- One of these four, for some bounds; which, and for which bounds, the definitions of the steps say.
pub data Stores (t : Terminal) : List ℕ → Type 0 where
  no_cell : Stores t []
  text_cell : Stores t (cursor_cell t.state ∷ [])
  erased-cells : (from to : ℕ) → Stores t (cells_erased t.state.modes.erasure from to t.page)
  all_cells_lem : Stores t (all_cells t.page)

-- All of it, for the step of a host byte.
pub record HostSound (Asked : Type 0) (t : Terminal) (step : Stepped) : Type 0 where
  pub sound : Sound t step
  pub stored : Stores t step.cells
  pub by_full_block : (bytes : List ℕ) → step.transmission ≡ full_block bytes → SendsBlock true Asked t step bytes
  pub no_changed_block : (bytes : List ℕ) → step.transmission ≡ changed_block bytes → ⊥
  pub is_report : (bytes : List ℕ) → step.transmission ≡ report bytes → IsReport bytes

-- A command refused at this byte, for a reason: nothing else happened.
pub record RefusedAt (byte : ℕ) (t : Terminal) (step : Stepped) : Type 0 where
  pub reason : Reason
  pub is : step ≡ refusing reason byte t

-- And of what the event of a byte does.
pub record EventSound (Asked : Type 0) (byte : ℕ) (t : Terminal) (step : Stepped) : Type 0 where
  pub host : HostSound Asked t step
  pub refusal : step.was_refused ≡ true → RefusedAt byte t step
