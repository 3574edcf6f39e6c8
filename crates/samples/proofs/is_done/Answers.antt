use Rattle.terminal.specs.Answers.{number_of}
use Rattle.samples.proofs.Copying.{not_done}
use Rattle.samples.proofs.is_done.Goals as goal

pub returns-in-Done : goal.returns-in-Done
unfolding number_of
returns-in-Done c = rw c.in-Done.is

pub returns-in_default : goal.returns-in_default
returns-in_default c = not_done _ c.in_default.not-Done
