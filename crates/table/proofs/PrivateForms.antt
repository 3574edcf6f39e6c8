-- The private forms, a line at a time.
use mathlib.Core.Path.{◌≡◌, ◌∙◌}
use mathlib.Core.Bool.{true, false}
use Prim.Native.Char.{code}
use Prim.Native.Nat.{ℕ}
use native.Mathlib.Omega.{arith}
use borrow.Author.Tests.{eq-eqb, ne_eqb}
use Rattle.words.proofs.Choosing.{then_case, else_case, both_hold, first_fails, second_fails}
use Rattle.sequence.specs.declared.Reason.TheVariants.{BrokenSequence}
use Rattle.state.specs.Pen.{with_full}
use Rattle.steps.specs.Steps.{Terminal, goes_to, refusing}
use Rattle.table.specs.PrivateForms.{private_step}

module _ (final argument : ℕ) (t : Terminal) where
  pub mode_set : argument ≡ 6 → final ≡ code "h" → private_step final argument t ≡ goes_to (with_full t.state false) t
  unfolding private_step
  mode_set six h = then_case _ _ _ (both_hold _ _ (eq-eqb _ _ six) (eq-eqb _ _ h))

  pub mode_reset : argument ≡ 6 → final ≡ code "l" → private_step final argument t ≡ goes_to (with_full t.state true) t
  unfolding private_step
  mode_reset six l =
      else_case _ _ _ (second_fails _ _ (ne_eqb _ _ (λ (h : final ≡ code "h"). omega arith)))
      ∙ then_case _ _ _ (both_hold _ _ (eq-eqb _ _ six) (eq-eqb _ _ l))

  pub other_argument : (argument ≡ 6 → ⊥) → private_step final argument t ≡ refusing BrokenSequence final t
  unfolding private_step
  other_argument other = else_case _ _ _ (first_fails _ _ (ne_eqb _ _ other)) ∙ else_case _ _ _ (first_fails _ _ (ne_eqb _ _ other))

  pub other_final : (final ≡ code "h" → ⊥) → (final ≡ code "l" → ⊥) → private_step final argument t ≡ refusing BrokenSequence final t
  unfolding private_step
  other_final not-h not-l = else_case _ _ _ (second_fails _ _ (ne_eqb _ _ not-h)) ∙ else_case _ _ _ (second_fails _ _ (ne_eqb _ _ not-l))
