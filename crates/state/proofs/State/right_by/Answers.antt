use Rattle.state.specs.Moves.{right_by}
use Rattle.state.proofs.State.right_by.Goals as goal

pub returns : goal.returns
unfolding right_by
returns c = rw (c.moved_to.ensures, c.on_by-column.ensures)
