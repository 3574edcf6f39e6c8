use mathlib.Core.Path.{◌∙◌}
use Rattle.record.proofs.Comparing.{library_same}
use Rattle.record.proofs.same_bytes.Goals as goal

pub returns : goal.returns
returns c = c.eq.ensures ∙ library_same c.args.one.now c.args.other.now
