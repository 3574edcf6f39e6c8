use borrow.Author.Rules.{rules}
use Rattle.state.specs.State.{unlocked}
use Rattle.state.proofs.State.unlock.Goals as goal

pub returns : goal.returns
unfolding unlocked
returns c = search rules
