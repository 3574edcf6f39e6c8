use Rattle.state.specs.Moves.{down_by}
use Rattle.state.proofs.State.down_by.Goals as goal

pub returns : goal.returns
unfolding down_by
returns c = rw (c.moved_to.ensures, c.on_by-row.ensures)
