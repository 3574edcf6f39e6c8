use native.Mathlib.Omega.{arith}
use Rattle.words.proofs.Testing.{code_tests}
use Rattle.table.specs.Settings.{is_visual, pen_after}
use Rattle.table.proofs.settings.pen_after.Goals as goal

pub returns-in-0 : goal.returns-in-0
unfolding is_visual pen_after
returns-in-0 c = grind (arith, code_tests)

pub returns-in-1 : goal.returns-in-1
unfolding is_visual pen_after
returns-in-1 c = grind (arith, code_tests)

pub returns-in-4 : goal.returns-in-4
unfolding is_visual pen_after
returns-in-4 c = grind (arith, code_tests)

pub returns-in-5 : goal.returns-in-5
unfolding is_visual pen_after
returns-in-5 c = grind (arith, code_tests)

pub returns-in-7 : goal.returns-in-7
unfolding is_visual pen_after
returns-in-7 c = grind (arith, code_tests)

pub returns-in-8 : goal.returns-in-8
unfolding is_visual pen_after
returns-in-8 c = grind (arith, code_tests)

pub returns-in_default : goal.returns-in_default
unfolding is_visual pen_after
returns-in_default c = grind (arith, code_tests)
