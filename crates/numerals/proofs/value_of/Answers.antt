use native.Mathlib.Omega.{arith}
use borrow.Author.Tests.{le-leb, lt-leb}
use Rattle.words.proofs.Choosing.{then_case, else_case}
use Rattle.numerals.specs.Hexadecimal.{digit_value}
use Rattle.numerals.proofs.Digits.{is_digit_lem}
use Rattle.numerals.proofs.value_of.Goals as goal

pub overflow_sub-result : goal.overflow_sub-result
unfolding digit_value
overflow_sub-result c = let digit = is_digit_lem _ c.requires in omega (arith, digit.least)

pub returns-then-digit-le57 : goal.returns-then-digit-le57
unfolding digit_value
returns-then-digit-le57 c = (rw (then_case _ _ _ (le-leb _ _ c.if-digit-le57.true)), omega arith)

pub returns : goal.returns
unfolding digit_value
returns c = (rw (else_case _ _ _ (lt-leb _ _ c.if-digit-le57.false)), omega (arith, (is_digit_lem _ c.requires).most))
