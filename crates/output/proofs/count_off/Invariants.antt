use mathlib.Core.Path.{◌≡◌}
use Prim.Native.Nat.{◌+◌, ◌-◌, ◌*◌, ◌<◌, ◌≤◌}
use Rattle.output.proofs.count_off.Given as goal

-- What is left is less than a unit more than the turns to come can take off.
abbrev pub invariant-loop : goal.invariant-loop
invariant-loop l = (l.times ≤ l.counter) × (l.number ≡ l.times * l.unit + l.left) × (l.left < (9 - l.counter) * l.unit + l.unit)
