use Rattle.words.proofs.Choosing.{tests}
use Rattle.damage.specs.Parts.{chosen}
use Rattle.damage.proofs.chosen.Goals as goal

pub returns-then-part-this : goal.returns-then-part-this
unfolding chosen
returns-then-part-this g c = search tests

pub returns-else-part-this : goal.returns-else-part-this
unfolding chosen
returns-else-part-this g c = search tests
