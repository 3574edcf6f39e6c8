use mathlib.Core.Path.{◌∙◌}
use Rattle.steps.proofs.Measuring.{measured}
use Rattle.keys.proofs.Laws.{all_protected}
use Rattle.keys.proofs.has_no_field.Goals as goal

pub returns : goal.returns
returns c = rw (← (measured c.requires).as_many) (c.is_all_protected.ensures ∙ all_protected _)
