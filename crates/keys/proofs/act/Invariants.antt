use Rattle.page.specs.Page.{closed_up, moved_right}
use Rattle.keys.proofs.act.Given as goal

abbrev pub ghost-shift_rest : goal.ghost-shift_rest
ghost-shift_rest a = closed_up

abbrev pub ghost-shift_rest-2 : goal.ghost-shift_rest-2
ghost-shift_rest-2 a = moved_right
