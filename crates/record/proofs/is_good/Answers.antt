use mathlib.Core.Path.{ap, ◌∙◌}
use Rattle.state.specs.declared.State.{State}
use Rattle.record.specs.Bytes.{same_bytes}
use Rattle.record.specs.Record.{record_of, is_good}
use Rattle.record.proofs.is_good.Goals as goal

pub returns : goal.returns
unfolding is_good
returns c = c.is_record_of.ensures ∙ ap (λ (s : State). same_bytes c.args.bytes.now (record_of s)) c.state_in.ensures
