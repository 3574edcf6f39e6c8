use mathlib.Core.Path.{ap, ◌∙◌}
use Rattle.page.specs.Page.{page_of}
use Rattle.steps.specs.Seen.{unprotected_at}
use Rattle.steps.proofs.Measuring.{measured}
use Rattle.keys.proofs.Laws.{found}
use Rattle.keys.proofs.stands_unprotected.Goals as goal

pub place-requires : goal.place-requires
place-requires c = (measured c.requires).on_page

pub is_unprotected-requires : goal.is_unprotected-requires
is_unprotected-requires c = (found c.requires c.place.ensures).inside

pub returns : goal.returns
returns c =
    let here = found c.requires c.place.ensures in
    c.is_unprotected.ensures ∙ ap (unprotected_at (record { state = c.args.state; page = page_of c.args.characters.now c.args.marks.now })) here.cell
