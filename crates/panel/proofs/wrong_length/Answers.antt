use mathlib.Core.Path.{ap, ◌∙◌}
use mathlib.Core.Bool.{not}
use Prim.Native.Nat.{ℕ}
use borrow.Author.Tests.{eq-eqb, ne_eqb}
use Rattle.words.proofs.Choosing.{then_case, else_case}
use Rattle.panel.specs.Panel.{wrong_length}
use Rattle.panel.proofs.Laws.{refused_size, refused_state}
use Rattle.panel.proofs.wrong_length.Goals as goal

pub returns-then-res-ne-RESULT_LENGTH : goal.returns-then-res-ne-RESULT_LENGTH
unfolding wrong_length
returns-then-res-ne-RESULT_LENGTH c = refused_size _ (then_case {A = ℕ} _ _ _ (ap not (ne_eqb _ _ c.if-res-ne-RESULT_LENGTH.true)))

pub returns-then-packed-ne-LENGTH : goal.returns-then-packed-ne-LENGTH
unfolding wrong_length
returns-then-packed-ne-LENGTH c = refused_state _ (else_case {A = ℕ} _ _ _ (ap not (eq-eqb _ _ c.if-res-ne-RESULT_LENGTH.false)) ∙ then_case {A = ℕ} _ _ _ (ap not (ne_eqb _ _ c.if-packed-ne-LENGTH.true)))

pub returns : goal.returns
unfolding wrong_length
returns c = else_case {A = ℕ} _ _ _ (ap not (eq-eqb _ _ c.if-res-ne-RESULT_LENGTH.false)) ∙ else_case {A = ℕ} _ _ _ (ap not (eq-eqb _ _ c.if-packed-ne-LENGTH.false))
