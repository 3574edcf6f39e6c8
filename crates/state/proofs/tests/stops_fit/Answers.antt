use mathlib.Core.Path.{◌≡◌, sym, ◌∙◌}
use mathlib.Core.Bool.{false, not}
use borrow.Author.Rules.{rules}
use lib.ListN.{length}
use Rattle.page.proofs.Asking.{next_asked, all_asked}
use Rattle.state.proofs.Laws.{stops_past}
use Rattle.state.proofs.tests.stops_fit.Goals as goal

pub loop-stop-init : goal.loop-stop-init
loop-stop-init c =
    let all : length c.args.stops ≡ 160 = search rules in
    rw c.min.ensures (stops_past c.args.columns c.args.stops all)

pub loop-stop-preserved : goal.loop-stop-preserved
loop-stop-preserved c = c.loop-stop.invariant ∙ next_asked not false _ _ _ c.loop-stop-test.true

pub returns : goal.returns
returns c = sym (c.loop-stop.invariant ∙ all_asked not false _ _ _ c.loop-stop-test.false)
