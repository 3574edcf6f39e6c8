use Rattle.words.specs.Choice.{◌or◌}
use Rattle.keys.specs.Keys.{is_locked}
use Rattle.keys.proofs.is_locked.Goals as goal

pub returns-then-state : goal.returns-then-state
unfolding is_locked ◌or◌
returns-then-state c = rw c.if-state.true

pub returns-else-state : goal.returns-else-state
unfolding is_locked ◌or◌
returns-else-state c = rw c.if-state.false
