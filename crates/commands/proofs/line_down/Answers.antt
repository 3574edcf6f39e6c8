use borrow.Author.Tests.{le-ltb}
use Rattle.words.specs.Choice.{If◌then◌else◌}
use Rattle.words.proofs.Choosing.{tests}
use Rattle.page.specs.Page.{page_of}
use Rattle.steps.specs.Steps.{all_cells}
use Rattle.commands.specs.Text.{line_down}
use Rattle.steps.proofs.Measuring.{measured}
use Rattle.commands.proofs.Laws.{all_cells_count}
use Rattle.commands.proofs.line_down.Goals as goal

pub down_by-requires : goal.down_by-requires
down_by-requires c = (measured c.requires).on_page

pub returns-then-state : goal.returns-then-state
unfolding line_down
returns-then-state c = rw (c.quiet.ensures _, c.down_by.ensures) (search tests)

pub scroll_up-requires : goal.scroll_up-requires
scroll_up-requires c =
    let known = measured c.requires in
    (known.row_fits, known.as_many)

pub returns : goal.returns
unfolding line_down If◌then◌else◌
returns c =
    let page = page_of c.args.characters.now c.args.marks.now in
    rw (le-ltb _ _ c.if-state.false, c.stored.ensures (all_cells page) _ (all_cells_count page), c.scroll_up.ensures)
