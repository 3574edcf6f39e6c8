use Rattle.state.specs.State.{message_of}
use Rattle.state.proofs.message_of.Goals as goal

pub returns-in-UnknownCommand : goal.returns-in-UnknownCommand
unfolding message_of
returns-in-UnknownCommand c = rw c.in-UnknownCommand.is

pub returns-in-WrongArguments : goal.returns-in-WrongArguments
unfolding message_of
returns-in-WrongArguments c = rw c.in-WrongArguments.is

pub returns-in-BrokenSequence : goal.returns-in-BrokenSequence
unfolding message_of
returns-in-BrokenSequence c = rw c.in-BrokenSequence.is

pub returns-in-HighByte : goal.returns-in-HighByte
unfolding message_of
returns-in-HighByte c = rw c.in-HighByte.is
