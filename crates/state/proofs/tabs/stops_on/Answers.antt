use mathlib.Core.Path.{sym, ◌∙◌}
use Prim.Native.Nat.{◌-◌}
use native.Mathlib.Omega.{arith}
use Rattle.state.proofs.Laws.{stops_on_turn, stops_on_end, stops_on_over, right_within}
use Rattle.state.proofs.tabs.stops_on.Goals as goal

pub returns-then-last-at : goal.returns-then-last-at
returns-then-last-at c = sym (c.loop.invariant.2 ∙ stops_on_over _ _ _ _ c.if-last-at.true)

pub loop-preserved : goal.loop-preserved
loop-preserved c =
    let start = c.args in
    let within = right_within start.stops.now start.last (start.last - c.loop.at) c.loop.at c.loop.invariant.0 (omega arith) in
    let found = c.stop_right-at.ensures in
    (omega arith, omega arith, rw found (c.loop.invariant.2 ∙ stops_on_turn _ _ _ _ _ c.loop-test.true))

pub returns : goal.returns
returns c = sym (c.loop.invariant.2 ∙ stops_on_end _ _ _ _ (omega arith))
