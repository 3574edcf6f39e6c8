use mathlib.Core.Path.{sym, ◌∙◌}
use borrow.Author.Rules.{rules}
use lib.Dec.{eqb}
use Rattle.std.proofs.Common.{tests}
use Rattle.std.proofs.lemmas.Iterator.{YieldsList-from_slice}
use Rattle.std.proofs.lemmas.Iterator.Search.{all_from_yields_List}
use Rattle.words.proofs.Choosing.{then_case, else_case}
use Rattle.steps.specs.Light.{light_step}
use Rattle.table.specs.Settings.{set_mode}
use Rattle.table.proofs.Walking.{every_is}
use Rattle.table.proofs.settings.set_mode.Goals as goal

pub returns-then-all : goal.returns-then-all
unfolding set_mode light_step
returns-then-all c =
    λ page.
    let asked = all_from_yields_List (λ x. eqb x 6) _ _ c.all.result c.all.ensures.ran (YieldsList-from_slice c.args.values.now (cc)) (λ x b q k. search (rules, tests)) in
    rw (c.sets.ensures, c.with_erasure.ensures) (sym (then_case _ _ _ (every_is _ _ ∙ sym asked ∙ c.if-all.true)))

pub returns : goal.returns
unfolding set_mode light_step
returns c =
    λ page.
    let asked = all_from_yields_List (λ x. eqb x 6) _ _ c.all.result c.all.ensures.ran (YieldsList-from_slice c.args.values.now (cc)) (λ x b q k. search (rules, tests)) in
    sym (else_case _ _ _ (every_is _ _ ∙ sym asked ∙ c.if-all.false))
