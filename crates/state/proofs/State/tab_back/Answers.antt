use Rattle.state.specs.Tabs.{tabbed_back}
use Rattle.state.proofs.State.tab_back.Goals as goal

pub returns : goal.returns
unfolding tabbed_back
returns c = rw (c.moved_to.ensures, c.stops_back-column.ensures)
