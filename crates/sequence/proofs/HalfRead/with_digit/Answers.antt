use native.Mathlib.Omega.{arith}
use Rattle.words.proofs.Choosing.{tests}
use Rattle.sequence.specs.Record.{with_digit}
use Rattle.sequence.proofs.HalfRead.with_digit.Goals as goal

pub returns-then-self : goal.returns-then-self
unfolding with_digit
returns-then-self c = search tests

pub returns-then-value-gt9999 : goal.returns-then-value-gt9999
unfolding with_digit
returns-then-value-gt9999 c = search (arith, tests)

pub returns : goal.returns
unfolding with_digit
returns c = rw (c.from.ensures, c.from-2.ensures, c.from-last.ensures) (search (arith, tests))
