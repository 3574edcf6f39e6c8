use mathlib.Core.Path.{◌≡◌}
use mathlib.Core.Bool.{true}
use Prim.Native.Nat.{◌-◌, ◌<◌, ◌≤◌}
use lib.ListN.{length}
use Rattle.page.specs.Marks.{unprotected}
use Rattle.fields.specs.Fields.{field_end}
use Rattle.fields.proofs.field_end.Given as goal

-- the field's end, found from the cell before `end`, which is unprotected, is the one found from the cell
abbrev pub invariant-loop-end : goal.invariant-loop-end
invariant-loop-end l =
    (0 < l.end) ×
    (l.end ≤ length l.marks) ×
    (unprotected l.marks (l.end - 1) ≡ true) ×
    (field_end (unprotected l.marks) (length l.marks) l.cell ≡ field_end (unprotected l.marks) (length l.marks) (l.end - 1))
