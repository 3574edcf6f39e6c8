use mathlib.Core.Path.{◌≡◌, refl}
use denote.Enum.Declared.{tag_of}
use Rattle.terminal.specs.declared.Answer.{Answer}
use Rattle.terminal.specs.declared.Answer.TheVariants.{Done, WrongSize, WrongState, NoRoom, UnknownKey, Locked, TooLong, NoCell, NotTaken, RequiredBlank}
use Rattle.terminal.specs.contracts.Answer.{the_type}
use Rattle.terminal.specs.Answers.{number_of}
use Rattle.terminal.proofs.U8FromAnswer.from.Goals as goal

numbered : (answer : Answer) → tag_of the_type answer ≡ number_of answer
unfolding number_of
numbered Done = refl
numbered WrongSize = refl
numbered WrongState = refl
numbered NoRoom = refl
numbered UnknownKey = refl
numbered Locked = refl
numbered TooLong = refl
numbered NoCell = refl
numbered NotTaken = refl
numbered RequiredBlank = refl

pub returns : goal.returns
returns c = numbered c.args.answer
