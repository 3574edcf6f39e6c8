use borrow.Author.Rules.{rules}
use Rattle.page.specs.Marks.{unprotected}
use Rattle.fields.proofs.next_unprotected.Goals as goal

pub returns : goal.returns
returns c = c.seek_round.ensures (unprotected c.args.marks.now) (λ k answer less q. search rules)
