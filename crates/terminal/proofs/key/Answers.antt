use mathlib.Core.Path.{◌∙◌}
use Rattle.terminal.proofs.key.Goals as goal

pub press-requires : goal.press-requires
press-requires c = c.in-Ok.ensures

pub returns-in-Ok : goal.returns-in-Ok
returns-in-Ok c = c.press.ensures

pub returns-in-Err : goal.returns-in-Err
returns-in-Err c = c.refuse_call.ensures _ _ ∙ c.in-Err.ensures _
