use mathlib.Core.Path.{◌∙◌}
use Rattle.state.proofs.Pens.{kind_by_mask}
use Rattle.state.proofs.pen.pen_unprotected.Goals as goal

pub returns : goal.returns
returns c = kind_by_mask _ c.without_attribute.type_inv ∙ rw c.without_attribute.ensures
