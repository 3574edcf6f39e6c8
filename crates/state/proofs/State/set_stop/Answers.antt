use borrow.Author.Rules.{rules}
use Rattle.state.specs.Tabs.{stop_set}
use Rattle.state.proofs.State.set_stop.Goals as goal

pub returns : goal.returns
unfolding stop_set
returns c = search rules
