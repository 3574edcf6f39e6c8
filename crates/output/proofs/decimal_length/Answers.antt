use Rattle.output.proofs.Digits.{one_digit, two_digits_lem, three_digits}
use Rattle.output.proofs.decimal_length.Goals as goal

pub returns-then-number-lt10 : goal.returns-then-number-lt10
returns-then-number-lt10 c = rw (one_digit _ c.if-number-lt10.true)

pub returns-then-number-lt100 : goal.returns-then-number-lt100
returns-then-number-lt100 c = rw (two_digits_lem _ c.if-number-lt10.false c.if-number-lt100.true)

pub returns : goal.returns
returns c = rw (three_digits _ c.if-number-lt100.false)
