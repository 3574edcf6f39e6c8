use mathlib.Core.Path.{◌∙◌}
use Rattle.terminal.proofs.host.Goals as goal

pub run-requires : goal.run-requires
run-requires c = record { valid = c.in-Ok.ensures.0; bytes_len_bound = c.in-Ok.ensures.1 }

pub returns-in-Ok : goal.returns-in-Ok
returns-in-Ok c = c.run.ensures

pub returns-in-Err : goal.returns-in-Err
returns-in-Err c = c.refuse_call.ensures _ _ ∙ c.in-Err.ensures _
