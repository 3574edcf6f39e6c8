use mathlib.Core.Path.{sym}
use Rattle.page.specs.Page.{page_of, cells_erased}
use Rattle.commands.specs.Commands.{erasing}
use Rattle.commands.proofs.erase_cells.Goals as goal

pub returns : goal.returns
unfolding erasing
returns c =
    let page = page_of c.args.characters.now c.args.marks.now in
    let cells = cells_erased c.args.state.modes.erasure c.args.from c.args.to page in
    rw (c.stored.ensures cells _ (sym c.erase-count.ensures.counted), c.erase-count.ensures.page)
