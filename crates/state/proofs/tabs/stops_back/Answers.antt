use mathlib.Core.Path.{sym, ◌∙◌}
use native.Mathlib.Omega.{arith}
use Rattle.state.proofs.Laws.{stops_back_turn, stops_back_end, stops_back_over, left_within}
use Rattle.state.proofs.tabs.stops_back.Goals as goal

pub returns-then-at-le1 : goal.returns-then-at-le1
returns-then-at-le1 c =
    sym (c.loop.invariant.2 ∙ stops_back_over _ _ _ (omega (arith, c.loop.invariant.0, c.if-at-le1.true)))

pub loop-preserved : goal.loop-preserved
loop-preserved c =
    let within = left_within c.args.stops.now 160 c.loop.at (c.loop.invariant.0, c.loop.invariant.1) in
    let found = c.stop_left-at.ensures in
    (omega arith, omega arith, rw found (c.loop.invariant.2 ∙ stops_back_turn _ _ _ _ c.loop-test.true))

pub returns : goal.returns
returns c = sym (c.loop.invariant.2 ∙ stops_back_end _ _ _ (omega arith))
