use mathlib.Core.Path.{◌≡◌}
use mathlib.Core.List.{List, ◌++◌}
use Prim.Native.Nat.{ℕ, ◌-◌, ◌*◌}
use lib.ListN.{length}
use Rattle.words.specs.Output.{Wrote}
use Rattle.drawing.specs.Drawing.{row_lines}
use Rattle.drawing.proofs.put_rows.Given as goal

-- what is written so far, with the rows to come, is all the rows
abbrev pub invariant-loop : goal.invariant-loop
invariant-loop g l =
    (length l.left ≡ (l.rows - l.counter) * l.columns) ×
    (length l.text ≡ length l.initial.text) ×
    (written : List ℕ) ×
    Wrote l.at written l.initial.text l.next l.text ×
    (written ++ row_lines g.C.Cell.line (l.rows - l.counter) l.columns l.left ≡ row_lines g.C.Cell.line l.rows l.columns l.cells)
