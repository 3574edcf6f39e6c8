use mathlib.Core.Path.{◌≡◌}
use Rattle.words.proofs.Writing.{up_to}
use Rattle.page.specs.Page.{modified_cleared}
use Rattle.page.proofs.storing.clear_modified.Given as goal

-- the marks are as sending leaves them up to this one
abbrev pub invariant-loop-mark : goal.invariant-loop-mark
invariant-loop-mark l = l.marks ≡ up_to l.mark-index (modified_cleared l.initial.marks) l.initial.marks
