use mathlib.Core.Path.{◌∙◌}
use borrow.Author.Rules.{rules}
use Rattle.page.specs.Marks.{unprotected}
use Rattle.fields.specs.Fields.{starts_field}
use Rattle.fields.proofs.Searching.{round_by_cells}
use Rattle.fields.proofs.next_field.Goals as goal

pub returns : goal.returns
returns c =
    c.seek_round.ensures (starts_field (unprotected c.args.marks.now)) (λ k answer less q. search rules)
    ∙ round_by_cells _ _ _ _ c.requires.0
