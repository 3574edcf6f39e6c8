use borrow.Author.Rules.{rules}
use Rattle.state.specs.State.{input_disabled}
use Rattle.state.proofs.State.disable_input.Goals as goal

pub returns : goal.returns
unfolding input_disabled
returns c = search rules
