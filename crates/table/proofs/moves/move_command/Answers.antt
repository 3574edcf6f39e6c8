use mathlib.Core.Path.{◌≡◌}
use native.Mathlib.Omega.{arith}
use Rattle.words.specs.Choice.{If◌then◌else◌, ◌is◌to◌}
use Rattle.words.proofs.Testing.{code_tests}
use Rattle.state.specs.Moves.{up_by, down_by, right_by, left_by, to_margin}
use Rattle.steps.specs.Light.{light_step}
use Rattle.table.specs.Moves.{is_plain_move, move_step}
use Rattle.table.proofs.moves.move_command.Goals as goal

pub returns-in-65 : goal.returns-in-65
unfolding move_step light_step up_by down_by right_by left_by to_margin If◌then◌else◌
returns-in-65 c = λ page. rw (c.moves_to.ensures, c.up_by.ensures, c.value-first.ensures, c.in-65.is)

pub returns-in-66 : goal.returns-in-66
unfolding move_step light_step up_by down_by right_by left_by to_margin If◌then◌else◌
returns-in-66 c = λ page. rw (c.moves_to-in-66.ensures, c.down_by.ensures, c.value-first.ensures, c.in-66.is)

pub returns-in-67 : goal.returns-in-67
unfolding move_step light_step up_by down_by right_by left_by to_margin If◌then◌else◌
returns-in-67 c = λ page. rw (c.moves_to-in-67.ensures, c.right_by.ensures, c.value-first.ensures, c.in-67.is)

pub returns-in-68 : goal.returns-in-68
unfolding move_step light_step up_by down_by right_by left_by to_margin If◌then◌else◌
returns-in-68 c = λ page. rw (c.moves_to-in-68.ensures, c.left_by.ensures, c.value-first.ensures, c.in-68.is)

pub returns-in-69 : goal.returns-in-69
unfolding move_step light_step up_by down_by right_by left_by to_margin If◌then◌else◌
returns-in-69 c = λ page. rw (c.moves_to-in-69.ensures, c.to_margin.ensures, c.down_by-in-69.ensures, c.value-first.ensures, c.in-69.is)

pub returns-in-70 : goal.returns-in-70
unfolding move_step light_step up_by down_by right_by left_by to_margin If◌then◌else◌
returns-in-70 c = λ page. rw (c.moves_to-in-70.ensures, c.to_margin-in-70.ensures, c.up_by-in-70.ensures, c.value-first.ensures, c.in-70.is)

pub returns-in-71 : goal.returns-in-71
unfolding move_step light_step up_by down_by right_by left_by to_margin If◌then◌else◌
returns-in-71 c = λ page. rw (c.to_column.ensures page, c.value-first.ensures, c.in-71.is)

pub returns-in-72 : goal.returns-in-72
unfolding move_step light_step up_by down_by right_by left_by to_margin If◌then◌else◌
returns-in-72 c = λ page. rw (c.to_place.ensures page, c.value-second.ensures, c.value-first.ensures, c.in-72.is)

pub returns-in-100 : goal.returns-in-100
unfolding move_step light_step up_by down_by right_by left_by to_margin If◌then◌else◌
returns-in-100 c = λ page. rw (c.to_row.ensures page, c.value-first.ensures, c.in-100.is)

pub returns-in_default : goal.returns-in_default
unfolding move_step light_step is_plain_move If◌then◌else◌ ◌is◌to◌
returns-in_default c =
    λ page.
    let is_f : c.args.letter ≡ 0x66 = grind (arith, code_tests) in
    rw (c.to_place-in_default.ensures page, c.kept_column.ensures, c.value-second.ensures, c.value-first.ensures, c.argument-row.ensures, c.argument-given.ensures, is_f)
