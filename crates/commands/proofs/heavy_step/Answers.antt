use mathlib.Core.Path.{sym, ap, ◌∙◌}
use mathlib.Core.Logic.{⊎_elim}
use Rattle.words.proofs.Choosing.{true_is_not_false}
use Rattle.steps.proofs.Writing.{told_silent}
use Rattle.commands.specs.Host.{event_step}
use Rattle.commands.specs.Light.{is_light}
use Rattle.commands.proofs.Silent.{text_silent, control_silent}
use Rattle.commands.proofs.heavy_step.Goals as goal

-- What a called function asks of the byte: the event is not light.
pub control-step-requires : goal.control-step-requires
control-step-requires c = record { valid = c.requires.valid; byte_value = ap (is_light _ _) (sym c.in-Control.is) ∙ c.requires.at_in_bounds.1 }

pub esc_step-requires : goal.esc_step-requires
esc_step-requires c = record { valid = c.requires.valid; at_in_bounds = (c.requires.at_in_bounds.0, ap (is_light _ _) (sym c.in-EscCommand.is) ∙ c.requires.at_in_bounds.1) }

pub bracket_step-requires : goal.bracket_step-requires
bracket_step-requires c = record { valid = c.requires.valid; at_in_bounds = (c.requires.at_in_bounds.0, ap (is_light _ _) (sym c.in-BracketCommand.is) ∙ c.requires.at_in_bounds.1) }

-- What the called function tells of the event, where it sends nothing; else what it writes.
pub returns-in-Text : goal.returns-in-Text
unfolding event_step
returns-in-Text c =
    λ before. rw c.in-Text.is
    (told_silent _ _ _ _ _ _ c.text-step.ensures (text_silent _ _))

pub returns-in-Control : goal.returns-in-Control
unfolding event_step
returns-in-Control c =
    λ before. rw c.in-Control.is
    (told_silent _ _ _ _ _ _ c.control-step.ensures (control_silent _ _))

pub returns-in-EscCommand : goal.returns-in-EscCommand
unfolding event_step
returns-in-EscCommand c = λ before. rw c.in-EscCommand.is (c.esc_step.ensures before)

pub returns-in-BracketCommand : goal.returns-in-BracketCommand
unfolding event_step
returns-in-BracketCommand c = λ before. rw c.in-BracketCommand.is (c.bracket_step.ensures before)

-- What is left is light.
pub unreachable-requires : goal.unreachable-requires
unfolding is_light
unreachable-requires c =
    let heavy = c.requires.at_in_bounds.1 in
    ⊎_elim (λ e. true_is_not_false (ap (is_light _ _) (sym e) ∙ heavy))
    (⊎_elim (λ e. true_is_not_false (ap (is_light _ _) (sym e.1) ∙ heavy)) (λ e. true_is_not_false (ap (is_light _ _) (sym e.2) ∙ heavy)))
    c.in-Nothing.is
