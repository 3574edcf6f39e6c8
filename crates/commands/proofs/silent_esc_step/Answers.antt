use borrow.Author.Tests.{ne_eqb}
use Rattle.words.specs.Choice.{If◌then◌else◌}
use Rattle.words.proofs.Choosing.{neither}
use Rattle.commands.specs.Commands.{esc_step}
use Rattle.commands.specs.Text.{next_line}
use Rattle.commands.specs.Light.{is_light, is_light_letter}
use Rattle.steps.proofs.Measuring.{measured}
use Rattle.commands.proofs.Laws.{margin_valid}
use Rattle.commands.proofs.silent_esc_step.Goals as goal

pub line_down-requires-in-69 : goal.line_down-requires-in-69
line_down-requires-in-69 c = margin_valid c.requires.valid c.to_margin.ensures

pub set_stop-requires : goal.set_stop-requires
unfolding esc_step If◌then◌else◌
set_stop-requires c = (measured c.requires.valid).on_page

pub returns-in-68 : goal.returns-in-68
unfolding esc_step If◌then◌else◌
returns-in-68 c = rw (c.line_down.ensures, c.in-68.is)

pub returns-in-69 : goal.returns-in-69
unfolding esc_step next_line If◌then◌else◌
returns-in-69 c =
    rw (c.line_down-in-69.ensures, c.to_margin.ensures, c.in-69.is)

pub returns-in-77 : goal.returns-in-77
unfolding esc_step If◌then◌else◌
returns-in-77 c = rw (c.line_up.ensures, c.in-77.is)

pub returns-in-72 : goal.returns-in-72
unfolding esc_step If◌then◌else◌
returns-in-72 c = rw (c.quiet.ensures _, c.set_stop.ensures, c.in-72.is)

pub returns-in-99 : goal.returns-in-99
unfolding esc_step If◌then◌else◌
returns-in-99 c = rw (c.fresh.ensures, c.in-99.is)

pub returns-in-96 : goal.returns-in-96
unfolding esc_step If◌then◌else◌
returns-in-96 c = rw (c.quiet-in-96.ensures _, c.disable_input.ensures, c.in-96.is)

pub returns-in-98 : goal.returns-in-98
unfolding esc_step If◌then◌else◌
returns-in-98 c = rw (c.quiet-in-98.ensures _, c.enable_input.ensures, c.in-98.is)

-- Neither a byte of the table before this line, nor a light one.
pub returns-in_default : goal.returns-in_default
unfolding esc_step is_light is_light_letter If◌then◌else◌
returns-in_default c =
    let none = c.in_default.in_default-own.rest in
    let light = neither c.requires.byte_value.0 in
    rw (c.refuse.ensures _)
    (simp (
      ne_eqb _ _ none.0.0.0.0.0.0.1,
      ne_eqb _ _ none.0.0.0.0.0.1,
      ne_eqb _ _ none.0.0.0.0.1,
      ne_eqb _ _ none.0.0.0.1,
      light.0,
      light.1,
      ne_eqb _ _ c.requires.byte_value.1,
      ne_eqb _ _ none.0.0.1,
      ne_eqb _ _ none.0.1,
      ne_eqb _ _ none.1,
    ))
