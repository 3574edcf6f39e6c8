use native.Mathlib.Omega.{arith}
use Rattle.words.proofs.Testing.{code_tests}
use Rattle.table.specs.Table.{value_of}
use Rattle.table.proofs.value.Goals as goal

pub returns-in-0 : goal.returns-in-0
unfolding value_of
returns-in-0 c = grind (arith, code_tests)

pub returns-in_default : goal.returns-in_default
unfolding value_of
returns-in_default c = grind (arith, code_tests)
