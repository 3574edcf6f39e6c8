use Rattle.state.specs.Moves.{left_by}
use Rattle.state.proofs.State.left_by.Goals as goal

pub returns : goal.returns
unfolding left_by
returns c = rw (c.moved_to.ensures, c.back_by-column.ensures)
