use mathlib.Core.Path.{ap, ◌∙◌}
use Prim.Native.Nat.{ℕ}
use Rattle.page.specs.Marks.{takes}
use Rattle.page.specs.Page.{page_of}
use Rattle.steps.specs.Seen.{takes_at}
use Rattle.steps.proofs.Measuring.{measured}
use Rattle.keys.proofs.Laws.{found}
use Rattle.keys.proofs.takes_here.Goals as goal

pub place-requires : goal.place-requires
place-requires c = (measured c.requires).on_page

pub mark_at-requires : goal.mark_at-requires
mark_at-requires c = (found c.requires c.place.ensures).inside

pub returns : goal.returns
returns c =
    let character = c.args.character in
    let here = found c.requires c.place.ensures in
    c.takes.ensures
    ∙ ap (λ (mark : ℕ). takes mark character) c.mark_at.ensures
    ∙ ap (λ (cell : ℕ). takes_at (record { state = c.args.state; page = page_of c.args.characters.now c.args.marks.now }) cell character) here.cell
