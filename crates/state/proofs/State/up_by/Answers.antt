use Rattle.state.specs.Moves.{up_by}
use Rattle.state.proofs.State.up_by.Goals as goal

pub returns : goal.returns
unfolding up_by
returns c = rw (c.moved_to.ensures, c.back_by-row.ensures)
