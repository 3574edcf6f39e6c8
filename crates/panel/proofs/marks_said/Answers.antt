use mathlib.Core.Path.{sym}
use Prim.Native.Nat.{ℕ}
use borrow.Author.Tests.{le-leb, lt-leb, eq-eqb, ne_eqb}
use Rattle.words.proofs.Choosing.{then_case, else_case, both_hold, first_fails, second_fails}
use Rattle.panel.specs.Panel.{marks_said}
use Rattle.panel.proofs.marks_said.Goals as goal
use Rattle.panel.proofs.marks_said.Goals.{else-cells-le-MOST_CELLS-via-then-cells-le-MOST_CELLS+else-bytes-cells, else-cells-le-MOST_CELLS-via-else-cells-le-MOST_CELLS}

pub returns-then-bytes-cells : goal.returns-then-bytes-cells
unfolding marks_said
returns-then-bytes-cells c = sym (then_case {A = ℕ} _ _ _ (both_hold _ _ (le-leb _ _ c.if-cells-le-MOST_CELLS.true) (eq-eqb _ _ c.if-bytes-cells.true)))

pub returns-else-cells-le-MOST_CELLS : goal.returns-else-cells-le-MOST_CELLS
unfolding marks_said
returns-else-cells-le-MOST_CELLS c =
    sym (else_case {A = ℕ} _ _ _ (elim c.else-cells-le-MOST_CELLS.branch [
      | else-cells-le-MOST_CELLS-via-then-cells-le-MOST_CELLS+else-bytes-cells w ↦ second_fails _ _ (ne_eqb _ _ w.if-bytes-cells.false)
      | else-cells-le-MOST_CELLS-via-else-cells-le-MOST_CELLS w ↦ first_fails _ _ (lt-leb _ _ w.if-cells-le-MOST_CELLS.false)
    ]))
