use Rattle.commands.specs.Light.{is_light}
use Rattle.commands.proofs.light.is_light.Goals as goal

pub returns-in-Nothing : goal.returns-in-Nothing
unfolding is_light
returns-in-Nothing c = rw c.in-Nothing.is

pub returns-in-Text : goal.returns-in-Text
unfolding is_light
returns-in-Text c = rw c.in-Text.is

pub returns-in-Control : goal.returns-in-Control
unfolding is_light
returns-in-Control c = rw c.in-Control.is c.is_light_control.ensures

pub returns-in-EscCommand : goal.returns-in-EscCommand
unfolding is_light
returns-in-EscCommand c = rw c.in-EscCommand.is c.is_light_letter.ensures

pub returns-in-BracketCommand : goal.returns-in-BracketCommand
unfolding is_light
returns-in-BracketCommand c = rw c.in-BracketCommand.is c.is_light_final.ensures

pub returns-in-PrivateCommand : goal.returns-in-PrivateCommand
unfolding is_light
returns-in-PrivateCommand c = rw c.in-PrivateCommand.is

pub returns-in-Refused : goal.returns-in-Refused
unfolding is_light
returns-in-Refused c = rw c.in-Refused.is
