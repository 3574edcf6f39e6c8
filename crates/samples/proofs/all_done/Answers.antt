use mathlib.Core.Path.{sym, ◌∙◌}
use Rattle.words.proofs.Choosing.{not_both, first_decides, first_fails}
use Rattle.samples.specs.Samples.{all_answered}
use Rattle.samples.proofs.all_done.Goals as goal
use Rattle.samples.proofs.all_done.Goals.{then-is_done, else-is_done}

pub returns-then-is_done-2 : goal.returns-then-is_done-2
unfolding all_answered
returns-then-is_done-2 c =
    elim c.if-is_done.branch [
      | then-is_done w ↦
          let full = sym c.is_done.ensures ∙ w.if-is_done.true in
          let typed = sym w.is_done-then-is_done.ensures ∙ sym w.value-is ∙ c.if-is_done-2.true in
          c.is_done-then-is_done-2.ensures ∙ sym (first_decides _ _ full ∙ first_decides _ _ typed)
      | else-is_done w ↦ absurd (not_both c.if-is_done-2.true (w.value-is ∙ w.if-is_done.false))
    ]

pub returns-else-is_done-2 : goal.returns-else-is_done-2
unfolding all_answered
returns-else-is_done-2 c =
    elim c.if-is_done.branch [
      | then-is_done w ↦
          let full = sym c.is_done.ensures ∙ w.if-is_done.true in
          let typed = sym w.is_done-then-is_done.ensures ∙ sym w.value-is ∙ c.if-is_done-2.false in
          c.if-is_done-2.false ∙ sym (first_decides _ _ full ∙ first_fails _ _ typed)
      | else-is_done w ↦ c.if-is_done-2.false ∙ sym (first_fails _ _ (sym c.is_done.ensures ∙ w.if-is_done.false))
    ]
