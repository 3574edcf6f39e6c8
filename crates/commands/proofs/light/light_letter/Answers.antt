use mathlib.Core.Path.{◌≡◌}
use Rattle.words.specs.Choice.{If◌then◌else◌}
use Rattle.commands.specs.Commands.{esc_step}
use Rattle.commands.proofs.Lightness.{light_letter_left}
use Rattle.commands.proofs.light.light_letter.Goals as goal

pub returns-in-86 : goal.returns-in-86
unfolding esc_step If◌then◌else◌
returns-in-86 c = λ page. rw c.in-86.is (c.set_area.ensures page)

pub returns-in_default : goal.returns-in_default
unfolding esc_step If◌then◌else◌
returns-in_default c =
    λ page.
    let is-W : c.args.letter ≡ 0x57 = light_letter_left c.args.letter c.requires c.in_default.in_default-own.rest.1 in
    rw is-W (c.set_area-in_default.ensures page)
