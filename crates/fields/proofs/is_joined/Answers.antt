use mathlib.Core.Path.{sym, ap, ◌∙◌}
use mathlib.Core.Bool.{not}
use Prim.Native.Nat.{ℕ}
use lib.Dec.{eqb}
use mathlib.Core.Logic.{inl, inr}
use native.Mathlib.Omega.{arith}
use Rattle.words.proofs.Choosing.{not_both}
use Rattle.fields.proofs.Laws.{are_apart, joined_if_unprotected}
use Rattle.fields.proofs.is_joined.Goals as goal
use Rattle.fields.proofs.is_joined.Goals.{then-cell-ne0, else-cell-ne0}

pub returns-then-is_unprotected : goal.returns-then-is_unprotected
returns-then-is_unprotected c =
    elim c.if-cell-ne0.branch [
      | then-cell-ne0 w ↦
          c.is_unprotected-then-is_unprotected.ensures
          ∙ sym (joined_if_unprotected _ _ (omega arith) (sym w.is_unprotected.ensures ∙ sym w.value-is ∙ c.if-is_unprotected.true))
      | else-cell-ne0 w ↦ let first = ap (λ (k : ℕ). not (eqb k 0)) w.if-cell-ne0.false in
          absurd (not_both c.if-is_unprotected.true (w.value-is ∙ first))
    ]

pub returns-else-is_unprotected : goal.returns-else-is_unprotected
returns-else-is_unprotected c =
    elim c.if-cell-ne0.branch [
      | then-cell-ne0 w ↦
          c.if-is_unprotected.false
          ∙ sym (are_apart _ _ (inr (inl (sym w.is_unprotected.ensures ∙ sym w.value-is ∙ c.if-is_unprotected.false))))
      | else-cell-ne0 w ↦ c.if-is_unprotected.false ∙ sym (are_apart _ _ (inl (omega arith)))
    ]
