-- Document 01, "Numbers a call gives back": for each answer its number, and what its line gives and leaves.
use Rattle.std.specs.Prelude.{Bool, true, false, List, ℕ, length, take}
use Rattle.words.specs.Choice.{If◌then◌else◌}
use Rattle.words.specs.Output.{placed}
use Rattle.page.specs.Page.{Page}
use Rattle.steps.specs.Steps.{Terminal, Stepped}
use Rattle.terminal.specs.declared.Answer.{Answer}
use Rattle.terminal.specs.declared.Answer.TheVariants.{Done, WrongSize, WrongState, NoRoom}
use Rattle.terminal.specs.declared.Answer.TheVariants.{UnknownKey, Locked, TooLong, NoCell, NotTaken}
use Rattle.terminal.specs.declared.Answer.TheVariants.{RequiredBlank}
use Rattle.terminal.specs.declared.Reply.{Reply}
use Rattle.terminal.specs.Runs.{after, bytes_sent_by, cells_stored_by, refused_by, protection_by}

unfoldable pub number_of : Answer → ℕ
number_of Done = 0
number_of WrongSize = 1
number_of WrongState = 2
number_of NoRoom = 3
number_of UnknownKey = 4
number_of Locked = 5
number_of TooLong = 6
number_of NoCell = 7
number_of NotTaken = 8
number_of RequiredBlank = 9

-- All that a call gives and leaves: the number; the bytes taken, the bytes sent, the cells stored, the commands
-- refused; whether cells may have become protected or unprotected; state and page; the output.
pub record Outcome : Type 0 where
  pub number : ℕ
  pub taken : ℕ
  pub sent : ℕ
  pub stored : ℕ
  pub refused : ℕ
  pub protection : Bool
  pub terminal : Terminal
  pub output : List ℕ

abbrev pub bytes_sent : Outcome → List ℕ
bytes_sent outcome = take outcome.sent outcome.output

-- What the code handed back, with the page and the output that it left.
abbrev pub given : Reply → Page → List ℕ → Outcome
given reply page output =
    record {
      number = number_of reply.answer;
      taken = reply.taken;
      sent = reply.sent;
      stored = reply.stored;
      refused = reply.refused;
      protection = reply.protection;
      terminal = record { state = reply.state; page = page };
      output = output;
    }

-- Nothing changed, counts 0.
unfoldable pub unchanged : Answer → Terminal → List ℕ → Outcome
unchanged answer t output =
    record {
      number = number_of answer;
      taken = 0;
      sent = 0;
      stored = 0;
      refused = 0;
      protection = false;
      terminal = t;
      output = output;
    }

-- Steps were done: their bytes stand at the start of the output, and what is past them is as it was.
unfoldable pub after_steps : Answer → ℕ → Terminal → List ℕ → List Stepped → Outcome
after_steps answer taken t output steps =
    record {
      number = number_of answer;
      taken = taken;
      sent = length (bytes_sent_by steps);
      stored = length (cells_stored_by steps);
      refused = refused_by steps;
      protection = protection_by steps;
      terminal = after t steps;
      output = placed 0 (bytes_sent_by steps) output;
    }

-- The table's last column: 0 and 3 did steps, any other answer changes nothing.
unfoldable pub changes_nothing : Answer → Bool
changes_nothing Done = false
changes_nothing WrongSize = true
changes_nothing WrongState = true
changes_nothing NoRoom = false
changes_nothing UnknownKey = true
changes_nothing Locked = true
changes_nothing TooLong = true
changes_nothing NoCell = true
changes_nothing NotTaken = true
changes_nothing RequiredBlank = true

-- A call that may do these steps: those before the one that lacks room, or all.
unfoldable pub gives : Answer → ℕ → Terminal → List ℕ → List Stepped → Outcome
gives answer taken t output steps =
    If changes_nothing answer then unchanged answer t output
    else after_steps answer taken t output steps
