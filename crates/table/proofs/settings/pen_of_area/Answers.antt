use native.Mathlib.Omega.{arith}
use Rattle.words.proofs.Testing.{code_tests}
use Rattle.table.specs.Settings.{pen_of_area}
use Rattle.table.proofs.settings.pen_of_area.Goals as goal

pub returns-in-0 : goal.returns-in-0
unfolding pen_of_area
returns-in-0 c = grind (arith, code_tests)

pub returns-in-1 : goal.returns-in-1
unfolding pen_of_area
returns-in-1 c = grind (arith, code_tests)

pub returns-in-3 : goal.returns-in-3
unfolding pen_of_area
returns-in-3 c = grind (arith, code_tests)

pub returns-in-4 : goal.returns-in-4
unfolding pen_of_area
returns-in-4 c = grind (arith, code_tests)

pub returns-in_default : goal.returns-in_default
unfolding pen_of_area
returns-in_default c = grind (arith, code_tests)
