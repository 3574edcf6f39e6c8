use borrow.Author.Rules.{rules}
use Rattle.state.specs.State.{input_enabled}
use Rattle.state.proofs.State.enable_input.Goals as goal

pub returns : goal.returns
unfolding input_enabled
returns c = search rules
