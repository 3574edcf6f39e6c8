use mathlib.Core.Path.{◌≡◌}
use Rattle.words.specs.Lists.{each}
use Rattle.words.proofs.Writing.{up_to}
use Rattle.page.specs.Marks.{with_modified}
use Rattle.page.proofs.editing.tag.Given as goal

-- the marks of the part are tagged up to this one
abbrev pub invariant-loop-mark : goal.invariant-loop-mark
invariant-loop-mark l = l.mark-items ≡ up_to l.mark-index (each (λ cell mark. with_modified mark) l.initial.mark-items) l.initial.mark-items
