use mathlib.Core.Path.{◌≡◌}
use lib.ListN.{drop}
use Rattle.words.specs.Lists.{every}
use mathlib.Core.Bool.{not, ◌&&◌}
use Rattle.state.specs.Tests.{stops_fit}
use Rattle.state.proofs.tests.stops_fit.Given as goal

-- the test of all stops past the last column is what is known of those before this one and the test of those from it on
abbrev pub invariant-loop-stop : goal.invariant-loop-stop
invariant-loop-stop l = stops_fit l.columns l.fn.stops ≡ (l.fit && every not (drop l.stop-index l.stop-items))
