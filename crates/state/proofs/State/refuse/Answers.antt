use Rattle.state.specs.State.{refused}
use Rattle.state.proofs.State.refuse.Goals as goal

pub returns : goal.returns
unfolding refused
returns c = rw (c.with_locks.ensures, c.message_of.ensures)
