use borrow.Author.Rules.{rules}
use Rattle.state.specs.Tabs.{stop_cleared}
use Rattle.state.proofs.State.clear_stop.Goals as goal

pub returns : goal.returns
unfolding stop_cleared
returns c = search rules
