use mathlib.Core.Path.{refl}
use Rattle.terminal.specs.Answers.{unchanged}
use Rattle.terminal.proofs.refuse_call.Goals as goal

pub returns : goal.returns
unfolding unchanged
returns c page output = refl
