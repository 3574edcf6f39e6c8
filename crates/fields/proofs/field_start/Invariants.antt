use mathlib.Core.Path.{◌≡◌}
use Prim.Native.Nat.{◌<◌}
use lib.ListN.{length}
use Rattle.page.specs.Marks.{unprotected}
use Rattle.fields.specs.Fields.{field_start}
use Rattle.fields.proofs.field_start.Given as goal

-- the field's start, found from here, is the one found from the place
abbrev pub invariant-loop-here : goal.invariant-loop-here
invariant-loop-here l =
    (l.here.columns ≡ l.initial.here.columns) × (l.here.cell < length l.marks) × (field_start (unprotected l.marks) l.initial.here.cell ≡ field_start (unprotected l.marks) l.here.cell)

abbrev pub decreases-loop-here : goal.decreases-loop-here
decreases-loop-here l = l.here.cell
