use Rattle.page.specs.Page.{takes_from_right, takes_from_left}
use Rattle.keys.proofs.is_not_taken.Given as goal

abbrev pub ghost-rest_takes : goal.ghost-rest_takes
ghost-rest_takes a = takes_from_right

abbrev pub ghost-rest_takes-2 : goal.ghost-rest_takes-2
ghost-rest_takes-2 a = takes_from_left
