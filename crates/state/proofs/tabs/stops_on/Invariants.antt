use mathlib.Core.Path.{◌≡◌}
use Prim.Native.Nat.{◌≤◌, ◌-◌}
use Rattle.state.specs.Tabs.{stops_on}
use Rattle.state.proofs.tabs.stops_on.Given as goal

-- n stops on from the column asked for is those that are left to go on from `at`
abbrev pub invariant-loop : goal.invariant-loop
invariant-loop l = (1 ≤ l.at) × (l.at ≤ l.last) × (stops_on l.stops l.last l.column l.n ≡ stops_on l.stops l.last l.at (l.n - l.counter))
