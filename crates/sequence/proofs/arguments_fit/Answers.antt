use mathlib.Core.Path.{◌∙◌}
use borrow.Author.Rules.{rules}
use Rattle.std.proofs.lemmas.Iterator.{YieldsList-from_slice}
use Rattle.std.proofs.lemmas.Iterator.Consumers.{YieldsList-from_enumerate}
use Rattle.std.proofs.lemmas.Iterator.Search.{all_from_yields_List}
use Rattle.sequence.proofs.Laws.{fits_at, all_fit}
use Rattle.sequence.proofs.arguments_fit.Goals as goal

pub returns : goal.returns
returns c =
    let reached = c.args.reached in
    all_from_yields_List (fits_at reached) _ _ _ c.all.ensures.ran
    (YieldsList-from_enumerate (YieldsList-from_slice c.args.arguments (search rules)) c.enumerate.ensures.count)
    (λ x b q k. search rules)
    ∙ all_fit reached 0 c.args.arguments
