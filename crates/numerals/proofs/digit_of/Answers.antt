use Rattle.words.proofs.Choosing.{tests}
use Rattle.numerals.specs.Hexadecimal.{digit_of}
use Rattle.numerals.proofs.digit_of.Goals as goal

pub returns-then-value-lt10 : goal.returns-then-value-lt10
unfolding digit_of
returns-then-value-lt10 c = search tests

pub returns : goal.returns
unfolding digit_of
returns c = search tests
