use Rattle.state.specs.Tabs.{tabbed_on}
use Rattle.state.proofs.State.tab_on.Goals as goal

pub returns : goal.returns
unfolding tabbed_on
returns c = rw (c.moved_to.ensures, c.stops_on-column.ensures)
