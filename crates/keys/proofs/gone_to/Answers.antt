use Rattle.keys.specs.Keys.{gone_to}
use Rattle.keys.proofs.gone_to.Goals as goal

pub returns-in-Some : goal.returns-in-Some
unfolding gone_to
returns-in-Some c = rw (c.moved_to.ensures, c.in-Some.is)

pub returns-in-None : goal.returns-in-None
unfolding gone_to
returns-in-None c = rw c.in-None.is
