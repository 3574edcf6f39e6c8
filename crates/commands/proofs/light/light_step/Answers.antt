use mathlib.Core.Path.{sym, ap, ◌∙◌}
use Rattle.words.proofs.Choosing.{true_is_not_false}
use Rattle.steps.specs.Light.{light_step}
use Rattle.commands.specs.Host.{event_step}
use Rattle.commands.specs.Light.{is_light}
use Rattle.commands.proofs.light.light_step.Goals as goal

pub light_control-requires : goal.light_control-requires
unfolding is_light
light_control-requires c = record { on_page = c.requires.on_page; code_value = ap (is_light _ _) (sym c.in-Control.is) ∙ c.requires.light }

pub light_letter-requires : goal.light_letter-requires
unfolding is_light
light_letter-requires c = ap (is_light _ _) (sym c.in-EscCommand.is) ∙ c.requires.light

pub light_final-requires : goal.light_final-requires
unfolding is_light
light_final-requires c = record { on_page = c.requires.on_page; light = ap (is_light _ _) (sym c.in-BracketCommand.is) ∙ c.requires.light }

pub returns-in-Nothing : goal.returns-in-Nothing
unfolding event_step light_step
returns-in-Nothing c = λ page. rw (c.moves_to.ensures, c.in-Nothing.is)

-- Text is not light.
pub unreachable-requires : goal.unreachable-requires
unfolding is_light
unreachable-requires c = true_is_not_false (sym (ap (is_light _ _) (sym c.in-Text.is) ∙ c.requires.light))

pub returns-in-Control : goal.returns-in-Control
unfolding event_step light_step
returns-in-Control c = λ page. rw c.in-Control.is (c.light_control.ensures page)

pub returns-in-EscCommand : goal.returns-in-EscCommand
unfolding event_step light_step
returns-in-EscCommand c = λ page. rw c.in-EscCommand.is (c.light_letter.ensures page)

pub returns-in-BracketCommand : goal.returns-in-BracketCommand
unfolding event_step light_step
returns-in-BracketCommand c = λ page. rw c.in-BracketCommand.is (c.light_final.ensures page)

pub returns-in-PrivateCommand : goal.returns-in-PrivateCommand
unfolding event_step light_step
returns-in-PrivateCommand c = λ page. rw c.in-PrivateCommand.is (c.private_command.ensures page)

pub returns-in-Refused : goal.returns-in-Refused
unfolding event_step light_step
returns-in-Refused c = λ page. rw c.in-Refused.is
