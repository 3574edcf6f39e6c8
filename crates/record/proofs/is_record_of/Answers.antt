use mathlib.Core.Path.{ap, ◌∙◌}
use Rattle.record.specs.Bytes.{same_bytes}
use Rattle.record.proofs.is_record_of.Goals as goal

pub returns : goal.returns
returns c = c.same_bytes.ensures ∙ ap (same_bytes c.args.bytes.now) c.record_of-again.ensures
