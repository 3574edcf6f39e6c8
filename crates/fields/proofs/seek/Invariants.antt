use mathlib.Core.Path.{◌≡◌}
use mathlib.Core.Bool.{Bool}
use Prim.Native.Nat.{ℕ, ◌<◌}
use Rattle.places.proofs.Walking.{OnWalk}
use Rattle.fields.proofs.Walks.{Onward}
use Rattle.fields.proofs.seek.Given as goal

-- no cell that passes has been passed by
abbrev pub invariant-loop-here : goal.invariant-loop-here
invariant-loop-here g l =
    record {
      walks : OnWalk l.fn.place.columns l.fn.cells l.here-iterator;
      way : (passes : ℕ → Bool) → ((cell : ℕ) (answer : Bool) → cell < l.fn.cells → goal.F-post g l.test cell answer → answer ≡ passes cell) → Onward passes l.fn.cells l.fn.place l.here-iterator.here;
    }
