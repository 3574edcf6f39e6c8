-- What is claimed of every step, whatever the byte or key.
use Rattle.std.specs.Prelude.{Bool, true, ◌≡◌, ℕ, ◌+◌, ◌<◌, ◌≤◌, length, get_or}
use mathlib.Core.List.{List, [], ◌∷◌, Memᴰ}
use Rattle.sequence.specs.declared.Reason.{Reason}
use Rattle.state.specs.State.{message_of}
use Rattle.page.specs.Marks.{unprotected}
use Rattle.page.specs.Page.{Page, mark_after_block}
use Rattle.steps.specs.Steps.{Terminal, Transmission, silent, report, full_block, changed_block, Stepped}
use Rattle.steps.specs.Seen.{block_here}

-- Cells in page order, each named once: none is before `first`, none is as far as `end`.
pub data Rising (end : ℕ) : ℕ → List ℕ → Type 0 where
  none : {first : ℕ} → Rising end first []
  next : {first : ℕ} (cell : ℕ) {later : List ℕ}
      → first ≤ cell → cell < end → Rising end (cell + 1) later → Rising end first (cell ∷ later)

-- What a transmission leaves of the mark of a cell that isn't named: a block clears modified, and nothing else does
-- anything.
unfoldable pub mark_left : Transmission → ℕ → ℕ
mark_left silent mark = mark
mark_left (report bytes) mark = mark
mark_left (full_block bytes) mark = mark_after_block mark
mark_left (changed_block bytes) mark = mark_after_block mark

-- The cell keeps its character, and its mark but for what a block clears.
pub record Stays (transmission : Transmission) (before after : Page) (cell : ℕ) : Type 0 where
  pub character : get_or after.characters cell 0 ≡ get_or before.characters cell 0
  pub mark : get_or after.marks cell 0 ≡ mark_left transmission (get_or before.marks cell 0)

-- Every cell of the page that isn't named stays.
abbrev pub TouchesOnly : List ℕ → Transmission → Page → Page → Type 0
TouchesOnly cells transmission before after =
    (cell : ℕ) → cell < length before.marks → (Memᴰ cell cells → ⊥) → Stays transmission before after cell

-- The cell keeps its character, if the lent characters have it, and its mark.
pub record ProtectedKept (before after : Page) (cell : ℕ) : Type 0 where
  pub character : cell < length before.characters
      → get_or after.characters cell 0 ≡ get_or before.characters cell 0
  pub mark : get_or after.marks cell 0 ≡ get_or before.marks cell 0

-- The cell keeps its character and its mark.
pub record CellKept (before after : Page) (cell : ℕ) : Type 0 where
  pub character : get_or after.characters cell 0 ≡ get_or before.characters cell 0
  pub mark : get_or after.marks cell 0 ≡ get_or before.marks cell 0

-- Every cell of the page is as protected as it was.
abbrev pub KeepsProtection : Page → Page → Type 0
KeepsProtection before after =
    (cell : ℕ) → cell < length before.marks → unprotected after.marks cell ≡ unprotected before.marks cell

-- All characters stay, and all protection.
pub record KeepsText (before after : Page) : Type 0 where
  pub characters : after.characters ≡ before.characters
  pub protection : KeepsProtection before after

-- A step that stores in no cell: the one place that says what that is.
abbrev pub StoresNoCell : Stepped → Type 0
StoresNoCell step = step.cells ≡ []

-- How many cells a step names.
abbrev pub counted : Stepped → ℕ
counted step = length step.cells

-- A refused command sets the soft lock, the message of some reason, and the byte at which it was refused; all else is
-- as it was, but for the half-read record.
pub record Refusal (byte : ℕ) (t : Terminal) (step : Stepped) : Type 0 where
  pub soft_lock : step.terminal.state.locks.soft ≡ true
  pub reason : Reason
  pub message : step.terminal.state.locks.message ≡ message_of reason
  pub byte_kept : step.terminal.state.locks.byte ≡ byte
  pub manual_lock : step.terminal.state.locks.manual ≡ t.state.locks.manual
  pub page : step.terminal.page ≡ t.page
  pub size : step.terminal.state.size ≡ t.state.size
  pub cursor : step.terminal.state.cursor ≡ t.state.cursor
  pub modes : step.terminal.state.modes ≡ t.state.modes
  pub stops : step.terminal.state.stops ≡ t.state.stops
  pub nothing_sent : step.transmission ≡ silent
  pub no_cell : StoresNoCell step

-- A block, full or changed, is sent because it was asked for; it is that of the page as it was, and no cell is named.
pub record SendsBlock (full : Bool) (Asked : Type 0) (t : Terminal) (step : Stepped) (bytes : List ℕ) : Type 0 where
  pub asked : Asked
  pub of_page : bytes ≡ block_here full t
  pub no_cell : StoresNoCell step
