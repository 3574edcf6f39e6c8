use native.Mathlib.Omega.{arith}
use Rattle.std.proofs.lemmas.Bool.Decides.{nat_tests}
use Rattle.words.specs.Choice.{If◌then◌else◌, ◌is◌to◌, ◌and◌}
use Rattle.damage.specs.Parts.{stops_with}
use Rattle.damage.proofs.stops_with.Goals as goal

pub returns-then-contains : goal.returns-then-contains
unfolding stops_with If◌then◌else◌ ◌is◌to◌ ◌and◌
returns-then-contains c = grind (arith, nat_tests)

pub returns-else-contains : goal.returns-else-contains
unfolding stops_with If◌then◌else◌ ◌is◌to◌ ◌and◌
returns-else-contains c = grind (arith, nat_tests)
