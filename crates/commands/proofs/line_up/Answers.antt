use borrow.Author.Tests.{le-ltb}
use Rattle.words.specs.Choice.{If◌then◌else◌}
use Rattle.words.proofs.Choosing.{tests}
use Rattle.page.specs.Page.{page_of}
use Rattle.steps.specs.Steps.{all_cells}
use Rattle.commands.specs.Text.{line_up}
use Rattle.steps.proofs.Measuring.{measured}
use Rattle.commands.proofs.Laws.{all_cells_count}
use Rattle.commands.proofs.line_up.Goals as goal

pub returns-then-state-gt1 : goal.returns-then-state-gt1
unfolding line_up
returns-then-state-gt1 c = rw (c.quiet.ensures _, c.up_by.ensures) (search tests)

pub scroll_down-requires : goal.scroll_down-requires
scroll_down-requires c =
    let known = measured c.requires in
    (known.row_fits, known.as_many)

pub returns : goal.returns
unfolding line_up If◌then◌else◌
returns c =
    let page = page_of c.args.characters.now c.args.marks.now in
    rw (le-ltb _ _ c.if-state-gt1.false, c.stored.ensures (all_cells page) _ (all_cells_count page), c.scroll_down.ensures)
