use mathlib.Core.Path.{sym, ap, ◌∙◌}
use mathlib.Core.Bool.{not}
use Prim.Native.Nat.{ℕ}
use Rattle.words.proofs.Choosing.{then_case, else_case}
use Rattle.panel.specs.Panel.{wrong_content}
use Rattle.panel.proofs.Laws.{refused_size, refused_state}
use Rattle.panel.proofs.wrong_content.Goals as goal

pub returns-then-not-size_fits : goal.returns-then-not-size_fits
unfolding wrong_content
returns-then-not-size_fits c =
    refused_size _ (then_case {A = ℕ} _ _ _ (ap not (sym c.size_fits.ensures ∙ c.if-not-size_fits.true)))

pub returns-then-not-is_good : goal.returns-then-not-is_good
unfolding wrong_content
returns-then-not-is_good c =
    refused_state _
    (else_case {A = ℕ} _ _ _ (ap not (sym c.size_fits.ensures ∙ c.if-not-size_fits.false))
    ∙ then_case {A = ℕ} _ _ _ (ap not (sym c.is_good.ensures ∙ c.if-not-is_good.true)))

pub returns : goal.returns
unfolding wrong_content
returns c =
    else_case {A = ℕ} _ _ _ (ap not (sym c.size_fits.ensures ∙ c.if-not-size_fits.false))
    ∙ else_case {A = ℕ} _ _ _ (ap not (sym c.is_good.ensures ∙ c.if-not-is_good.false))
