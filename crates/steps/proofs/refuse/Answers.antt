use mathlib.Core.Path.{ap}
use mathlib.Core.Bool.{true}
use Rattle.steps.specs.Steps.{bytes_of}
use Rattle.steps.specs.Told.{Told}
use Rattle.steps.proofs.refuse.Goals as goal

pub returns : goal.returns
unfolding bytes_of
returns c = λ page. rw c.refuse.ensures at (ap (λ (t : Told). record t { was_refused = true }) (c.quiet.ensures page))
