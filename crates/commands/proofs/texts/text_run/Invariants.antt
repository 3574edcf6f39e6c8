use mathlib.Core.Path.{◌≡◌}
use Rattle.places.specs.Places.{cell_at}
use Rattle.page.specs.Page.{page_of}
use Rattle.state.specs.State.{with_cursor, cursor_at}
use Rattle.commands.proofs.Runs.{Going}
use Rattle.commands.proofs.texts.text_run.Given as goal

-- up to `at` all is text, and what is left of it does the rest; the cell is the cursor's
abbrev pub invariant-loop-at : goal.invariant-loop-at
invariant-loop-at l =
    record {
      going : Going l.bytes l.from (record { state = l.state; page = page_of l.initial.characters l.initial.marks }) l.at (record { state = with_cursor l.state (cursor_at l.row l.column); page = page_of l.characters l.marks });
      cell_is : l.cell ≡ cell_at l.state.size.columns l.row l.column;
    }
