-- What the contracts of start, host and key allow of a call.
use Rattle.std.specs.Prelude.{List, ℕ}
use Rattle.page.specs.Page.{Page}
use Rattle.state.specs.declared.Size.{Size}
use Rattle.steps.specs.Steps.{Terminal}
use Rattle.terminal.specs.declared.Reply.{Reply}
use Rattle.terminal.specs.Calls.{StartAllows, HostAllows, KeyAllows}

-- The results that are allowed: what is handed back, with the page and the output that are left.
abbrev pub Results : Type 1
Results = Reply → Page → List ℕ → Type 0

-- For each entry, by all that comes in.
pub record Contracts : Type 1 where
  pub start : Size → Page → Results
  pub host : Terminal → List ℕ → List ℕ → Results
  pub key : Terminal → ℕ → List ℕ → Results

-- Those of the entries: their `ensures` (crates/terminal/src/lib.rt) cite the same three (tests/contracts.sh).
abbrev pub our_contracts : Contracts
our_contracts = record { start = StartAllows; host = HostAllows; key = KeyAllows }
