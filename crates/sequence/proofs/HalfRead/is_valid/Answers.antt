use native.Mathlib.Omega.{arith}
use Rattle.words.proofs.Choosing.{tests}
use Rattle.sequence.specs.Record.{valid_half_read}
use Rattle.sequence.proofs.HalfRead.is_valid.Goals as goal

pub returns-then-self-eq1 : goal.returns-then-self-eq1
unfolding valid_half_read
returns-then-self-eq1 c = search (arith, tests)

pub returns-else-self-eq1 : goal.returns-else-self-eq1
unfolding valid_half_read
returns-else-self-eq1 c = search (arith, tests)

pub returns-then-is_between : goal.returns-then-is_between
unfolding valid_half_read
returns-then-is_between c = search (arith, tests)

pub returns-else-is_between : goal.returns-else-is_between
unfolding valid_half_read
returns-else-is_between c = search (arith, tests)

pub returns-then-self-eq1-2 : goal.returns-then-self-eq1-2
unfolding valid_half_read
returns-then-self-eq1-2 c = search (arith, tests)

pub returns-else-self-eq1-2 : goal.returns-else-self-eq1-2
unfolding valid_half_read
returns-else-self-eq1-2 c = search (arith, tests)

pub returns-then-self-eq1-3 : goal.returns-then-self-eq1-3
unfolding valid_half_read
returns-then-self-eq1-3 c = search (arith, tests)

pub returns-else-self-eq1-3 : goal.returns-else-self-eq1-3
unfolding valid_half_read
returns-else-self-eq1-3 c = search (arith, tests)

pub returns-then-self-eq0 : goal.returns-then-self-eq0
unfolding valid_half_read
returns-then-self-eq0 c = search (arith, tests)

pub returns-else-self-eq0 : goal.returns-else-self-eq0
unfolding valid_half_read
returns-else-self-eq0 c = search (arith, tests)

pub returns-in_default : goal.returns-in_default
unfolding valid_half_read
returns-in_default c = search (arith, tests)
