use borrow.Author.Tests.{ne_eqb}
use Rattle.words.specs.Choice.{If◌then◌else◌}
use Rattle.state.specs.Moves.{down_by, left_by, to_margin}
use Rattle.steps.specs.Light.{light_step}
use Rattle.commands.specs.Text.{line_down, control_step}
use Rattle.commands.proofs.Lightness.{light_control_is_no_tab, light_line_feed}
use Rattle.commands.proofs.light.light_control.Goals as goal

pub returns-in-8 : goal.returns-in-8
unfolding control_step light_step left_by If◌then◌else◌
returns-in-8 c = λ page. rw (c.moves_to.ensures, c.left_by.ensures, c.in-8.is)

-- LF above the last row.
pub returns-in-10 : goal.returns-in-10
unfolding control_step line_down light_step down_by If◌then◌else◌
returns-in-10 c =
    λ page.
    let above = light_line_feed _ _ c.args.code c.requires.code_value c.in-10.is in
    rw (c.moves_to-in-10.ensures, c.down_by.ensures, c.in-10.is, above)

-- CR.
pub returns-in_default : goal.returns-in_default
unfolding control_step light_step to_margin If◌then◌else◌
returns-in_default c =
    λ page.
    let no-tab = light_control_is_no_tab _ _ c.args.code c.requires.code_value in
    let rest = c.in_default.in_default-own.rest in
    rw (c.moves_to-in_default.ensures, c.to_margin.ensures) (simp (ne_eqb _ _ rest.0.1, no-tab, ne_eqb _ _ rest.1))
