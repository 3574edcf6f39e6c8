use Rattle.words.proofs.Choosing.{tests}
use Rattle.reading.proofs.takes_text.Goals as goal

pub returns-then-half-eq-NONE : goal.returns-then-half-eq-NONE
returns-then-half-eq-NONE c = search tests

pub returns-else-half-eq-NONE : goal.returns-else-half-eq-NONE
returns-else-half-eq-NONE c = search tests
