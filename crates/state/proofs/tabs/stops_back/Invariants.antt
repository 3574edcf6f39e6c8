use mathlib.Core.Path.{◌≡◌}
use Prim.Native.Nat.{◌≤◌, ◌-◌}
use Rattle.state.specs.Tabs.{stops_back}
use Rattle.state.proofs.tabs.stops_back.Given as goal

-- n stops back from the column asked for is those that are left to go back from `at`
abbrev pub invariant-loop : goal.invariant-loop
invariant-loop l = (1 ≤ l.at) × (l.at ≤ 160) × (stops_back l.stops l.column l.n ≡ stops_back l.stops l.at (l.n - l.counter))
