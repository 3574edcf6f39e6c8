-- What the code tells of a step: `Stepped`, with the number of its cells and of its bytes in place of these.
-- `told` is what the code handed back, with the page that it left; `tells` is what it should tell.
use Rattle.std.specs.Prelude.{Bool, true, false, List, ℕ, ◌-◌, leb, length, Result, Ok, Err}
use Rattle.words.specs.Choice.{If◌then◌else◌}
use Rattle.words.specs.Output.{placed}
use Rattle.output.specs.declared.NoRoom.{NoRoom}
use Rattle.page.specs.Page.{Page}
use Rattle.state.specs.declared.State.{State}
use Rattle.steps.specs.declared.Step.{Step}
use Rattle.steps.specs.Steps.{Terminal, Stepped, bytes_of}

pub record Told : Type 0 where
  pub terminal : Terminal
  pub stored : ℕ
  pub sent : ℕ
  pub was_refused : Bool
  pub protection : Bool
  pub exceeds : Bool

-- What the code hands back, with the page that it left.
abbrev pub told : Step → Page → Told
told step page =
    record {
      terminal = record { state = step.state; page = page };
      stored = step.stored;
      sent = step.sent;
      was_refused = step.refused;
      protection = step.protection;
      exceeds = false;
    }

-- What is to be told of a step that was done.
abbrev pub tells : Stepped → Told
tells stepped =
    record {
      terminal = stepped.terminal;
      stored = length stepped.cells;
      sent = length (bytes_of stepped.transmission);
      was_refused = stepped.was_refused;
      protection = stepped.protection;
      exceeds = false;
    }

-- And of one whose transmission did not fit: nothing happened.
abbrev pub tells_exceeding : Terminal → Told
tells_exceeding t =
    record { terminal = t; stored = 0; sent = 0; was_refused = false; protection = false; exceeds = true }

-- What the code hands back of a step that may send: the step, or that there was no room; then the state is the one
-- before.
abbrev pub told_or : Result Step NoRoom → State → Page → Told
told_or (Ok step) before page = told step page
told_or (Err no_room) before page = tells_exceeding (record { state = before; page = page })

-- A step with an output: its transmission is written from a place on, or nothing happens.
pub record Written : Type 0 where
  pub told : Told
  pub output : List ℕ

unfoldable pub written : ℕ → List ℕ → Terminal → Stepped → Written
written at output before stepped =
    If leb (length (bytes_of stepped.transmission)) (length output - at) then
    record { told = tells stepped; output = placed at (bytes_of stepped.transmission) output }
    else record { told = tells_exceeding before; output = output }
