use mathlib.Core.Path.{sym, ◌∙◌}
use borrow.Author.Tests.{leb-true}
use Rattle.words.proofs.Choosing.{then_case, else_case}
use Rattle.copy.specs.Copy.{laying}
use Rattle.std.specs.Prelude.{Ok}
use Rattle.copy.proofs.Passes.{from_start}
use Rattle.copy.proofs.lay.Goals as goal

pub returns-then-not-has_room : goal.returns-then-not-has_room
unfolding laying
returns-then-not-has_room c = sym (else_case _ _ _ (sym c.has_room.ensures ∙ c.if-not-has_room.true))

pub put_laid-requires : goal.put_laid-requires
put_laid-requires c = leb-true _ _ (sym c.has_room.ensures ∙ c.if-not-has_room.false)

pub returns : goal.returns
unfolding laying
returns c =
    let wrote = c.put_laid.ensures in
    (λ i. record { answer = Ok (from_start wrote i); output = wrote.left i })
    ∙ sym (then_case _ _ _ (sym c.has_room.ensures ∙ c.if-not-has_room.false))
