use borrow.Author.Rules.{rules}
use Rattle.state.specs.Moves.{to_margin}
use Rattle.state.proofs.State.to_margin.Goals as goal

pub returns : goal.returns
unfolding to_margin
returns c = search rules
