use mathlib.Core.Path.{refl}
use Rattle.steps.specs.Steps.{bytes_of}
use Rattle.steps.proofs.quiet.Goals as goal

pub returns : goal.returns
unfolding bytes_of
returns c = λ page. refl
