-- One step of the rules: what a host byte or a key does to a terminal.
use Rattle.std.specs.Prelude.{Bool, true, false, List, [], ◌≡◌, ℕ, ◌-◌}
use Rattle.words.specs.Lists.{numbers_from}
use Rattle.page.specs.Page.{Page, page_of, cells, valid_page}
use Rattle.places.specs.Places.{cell_at}
use Rattle.sequence.specs.declared.Reason.{Reason}
use Rattle.state.specs.declared.State.{State}
use Rattle.state.specs.State.{refused}
use Rattle.state.specs.Tests.{size_fits, valid_state}

-- All that a call is lent and given: the state, and the characters and marks.
pub record Terminal : Type 0 where
  pub state : State
  pub page : Page

abbrev pub terminal_of : State → List ℕ → List ℕ → Terminal
terminal_of state characters marks = record { state = state; page = page_of characters marks }

-- What is sent to the host; document 01's message, to the reader, is `locks.message`.
pub data Transmission : Type 0 where
  silent : Transmission
  report : List ℕ → Transmission
  full_block : List ℕ → Transmission
  changed_block : List ℕ → Transmission

unfoldable pub bytes_of : Transmission → List ℕ
bytes_of silent = []
bytes_of (report bytes) = bytes
bytes_of (full_block bytes) = bytes
bytes_of (changed_block bytes) = bytes

-- A block as a transmission.
unfoldable pub block_transmission : Bool → List ℕ → Transmission
block_transmission true bytes = full_block bytes
block_transmission false bytes = changed_block bytes

-- The terminal after a step; the transmission sent; the cells stored, by their numbers (the step *names* them);
-- whether a command was refused; whether protection may have changed (no rule of document 01 asks for it; D-30).
pub record Stepped : Type 0 where
  pub terminal : Terminal
  pub transmission : Transmission
  pub cells : List ℕ
  pub was_refused : Bool
  pub protection : Bool

abbrev pub with_state : Terminal → State → Terminal
with_state t s = record { state = s; page = t.page }

-- The state changes, and nothing is stored, sent or refused.
abbrev pub goes_to : State → Terminal → Stepped
goes_to s t =
    record { terminal = with_state t s; transmission = silent; cells = []; was_refused = false; protection = false }

-- Cells are stored, and the state changes; the Bool says whether protection may have changed.
abbrev pub stores : List ℕ → Bool → State → Page → Stepped
stores cells protection s page =
    record {
      terminal = record { state = s; page = page };
      transmission = silent;
      cells = cells;
      was_refused = false;
      protection = protection;
    }

-- A transmission is sent.
abbrev pub sends : Transmission → State → Page → Stepped
sends transmission s page =
    record {
      terminal = record { state = s; page = page };
      transmission = transmission;
      cells = [];
      was_refused = false;
      protection = false;
    }

-- A command is refused, for a reason, at a byte: the state says so, and nothing else changes. This is the one place
-- that refuses, whatever it is, a command, a sequence or a byte.
abbrev pub refusing : Reason → ℕ → Terminal → Stepped
refusing reason byte t =
    record {
      terminal = with_state t (refused reason byte t.state);
      transmission = silent;
      cells = [];
      was_refused = true;
      protection = false;
    }

-- The cursor's cell, its row's first, and all cells of the page.
abbrev pub cursor_cell : State → ℕ
cursor_cell s = cell_at s.size.columns s.cursor.row s.cursor.column

abbrev pub row_start : State → ℕ
row_start s = cursor_cell s - (s.cursor.column - 1)

abbrev pub all_cells : Page → List ℕ
all_cells page = numbers_from (λ _. true) 0 (cells page)

-- A terminal that lines 1 and 2 of the table let pass.
pub record Valid (t : Terminal) : Type 0 where
  pub size : size_fits t.state.size t.page ≡ true
  pub state : valid_state t.state ≡ true
  pub page : valid_page t.page ≡ true
