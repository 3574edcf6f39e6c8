use Rattle.words.proofs.Choosing.{tests}
use Rattle.sequence.specs.Record.{with_next_argument}
use Rattle.sequence.proofs.HalfRead.with_next_argument.Goals as goal

pub returns-then-self : goal.returns-then-self
unfolding with_next_argument
returns-then-self c = search tests

pub returns-then-self-ge8 : goal.returns-then-self-ge8
unfolding with_next_argument
returns-then-self-ge8 c = search tests

pub returns : goal.returns
unfolding with_next_argument
returns c = search tests
