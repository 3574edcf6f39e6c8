use native.Mathlib.Omega.{arith}
use Rattle.page.specs.Page.{page_of}
use Rattle.steps.specs.Steps.{all_cells}
use Rattle.commands.specs.Commands.{fresh_step}
use Rattle.steps.proofs.Measuring.{measured}
use Rattle.commands.proofs.Laws.{all_cells_count, erased_is_fresh}
use Rattle.commands.proofs.fresh.Goals as goal

pub erase-requires : goal.erase-requires
erase-requires c = let known = measured c.requires in (omega arith, omega arith, known.as_many)

pub returns : goal.returns
unfolding fresh_step
returns c =
    let page = page_of c.args.characters.now c.args.marks.now in
    rw (c.stored.ensures (all_cells page) _ (all_cells_count page), c.fresh.ensures, c.erase.ensures.page, erased_is_fresh page (measured c.requires).as_many)
