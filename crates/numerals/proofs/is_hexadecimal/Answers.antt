use mathlib.Core.Path.{◌≡◌, sym, ◌∙◌}
use borrow.Author.Rules.{rules}
use borrow.Author.Tests.{eq-eqb, ne_eqb}
use Rattle.std.specs.List.{list_all}
use Rattle.std.proofs.lemmas.Iterator.{YieldsList-from_slice}
use Rattle.std.proofs.lemmas.Iterator.Search.{all_from_yields_List}
use Rattle.words.proofs.Choosing.{first_decides, first_fails}
use Rattle.numerals.specs.Hexadecimal.{is_digit, is_hexadecimal}
use Rattle.numerals.proofs.Digits.{library_every}
use Rattle.numerals.proofs.is_hexadecimal.Goals as goal

pub returns-then-text-eq0 : goal.returns-then-text-eq0
unfolding is_hexadecimal
returns-then-text-eq0 c =
    let text = c.args.text.now in
    let all : c.all.result ≡ list_all is_digit text =
    all_from_yields_List is_digit _ _ _ c.all.ensures.ran (YieldsList-from_slice text cc) (λ x b q k. search rules) in
    all ∙ library_every text ∙ sym (first_decides _ _ (eq-eqb _ _ c.if-text-eq0.true))

pub returns-else-text-eq0 : goal.returns-else-text-eq0
unfolding is_hexadecimal
returns-else-text-eq0 c =
    let odd = ne_eqb _ _ c.if-text-eq0.false in
    odd ∙ sym (first_fails _ _ odd)
