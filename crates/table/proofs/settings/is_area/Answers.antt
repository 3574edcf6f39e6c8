use native.Mathlib.Omega.{arith}
use Rattle.words.proofs.Testing.{code_tests}
use Rattle.table.specs.Settings.{is_area}
use Rattle.table.proofs.settings.is_area.Goals as goal

pub returns-then-matches : goal.returns-then-matches
unfolding is_area
returns-then-matches c = grind (arith, code_tests)

pub returns-then-value-eq20 : goal.returns-then-value-eq20
unfolding is_area
returns-then-value-eq20 c = grind (arith, code_tests)

pub returns-else-value-eq20 : goal.returns-else-value-eq20
unfolding is_area
returns-else-value-eq20 c = grind (arith, code_tests)
