use mathlib.Core.Path.{ap}
use Rattle.steps.specs.Steps.{bytes_of}
use Rattle.steps.specs.Told.{Told}
use Rattle.steps.proofs.stored.Goals as goal

pub returns : goal.returns
unfolding bytes_of
returns c cells page as_many =
    rw as_many (ap (λ (t : Told). record t { stored = c.args.count; protection = c.args.protection }) (c.quiet.ensures page))
