use Rattle.words.proofs.Choosing.{tests}
use Rattle.drawing.proofs.byte_if.Goals as goal

pub returns-then-test : goal.returns-then-test
returns-then-test c = search tests

pub returns-else-test : goal.returns-else-test
returns-else-test c = search tests
