use mathlib.Core.Path.{◌≡◌}
use Prim.Native.Nat.{◌-◌}
use lib.ListN.{length}
use Rattle.page.specs.Page.{page_of}
use Rattle.terminal.proofs.Running.{Going}
use Rattle.terminal.proofs.run.Given as goal

-- after `taken` bytes all is as their steps left it (`Going`); no length changes
abbrev pub invariant-loop-taken : goal.invariant-loop-taken
invariant-loop-taken l =
    Going (record { state = l.initial.here; page = page_of l.initial.characters l.initial.marks }) l.bytes l.initial.out (record { state = l.here; page = page_of l.characters l.marks }) l.taken l.sent l.stored l.refused l.protection l.out ×
    (length l.characters ≡ length l.initial.characters) ×
    (length l.marks ≡ length l.initial.marks) ×
    (length l.out ≡ length l.initial.out)

abbrev pub decreases-loop-taken : goal.decreases-loop-taken
decreases-loop-taken l = length l.bytes - l.taken
