use native.Mathlib.Omega.{arith}
use Rattle.words.specs.Choice.{◌is◌to◌}
use Rattle.words.proofs.Testing.{code_tests}
use Rattle.table.specs.Moves.{is_plain_move}
use Rattle.commands.specs.Light.{is_light_final}
use Rattle.commands.proofs.light.is_light_final.Goals as goal

pub returns-then-contains : goal.returns-then-contains
unfolding is_light_final is_plain_move ◌is◌to◌
returns-then-contains c = grind (arith, code_tests)

pub returns-in_default : goal.returns-in_default
unfolding is_light_final is_plain_move ◌is◌to◌
returns-in_default c = grind (arith, code_tests)

pub returns-in_default-2 : goal.returns-in_default-2
unfolding is_light_final is_plain_move ◌is◌to◌
returns-in_default-2 c = grind (arith, code_tests)

pub returns-in-100 : goal.returns-in-100
unfolding is_light_final is_plain_move ◌is◌to◌
returns-in-100 c = grind (arith, code_tests)

pub returns-in-100-2 : goal.returns-in-100-2
unfolding is_light_final is_plain_move ◌is◌to◌
returns-in-100-2 c = grind (arith, code_tests)
