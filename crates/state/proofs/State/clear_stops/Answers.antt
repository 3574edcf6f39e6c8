use borrow.Author.Rules.{rules}
use Rattle.state.specs.Tabs.{stops_cleared}
use Rattle.state.proofs.State.clear_stops.Goals as goal

pub returns : goal.returns
unfolding stops_cleared
returns c = search rules
