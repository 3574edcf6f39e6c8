use native.Mathlib.Omega.{arith}
use Rattle.std.proofs.lemmas.Bool.Decides.{nat_tests}
use Rattle.words.specs.Choice.{◌is◌to◌, ◌and◌}
use Rattle.state.specs.Tests.{cursor_fits}
use Rattle.state.proofs.tests.cursor_fits.Goals as goal

pub returns-then-contains : goal.returns-then-contains
unfolding cursor_fits ◌is◌to◌ ◌and◌
returns-then-contains c = grind (arith, nat_tests)

pub returns-else-contains : goal.returns-else-contains
unfolding cursor_fits ◌is◌to◌ ◌and◌
returns-else-contains c = grind (arith, nat_tests)
