use Rattle.page.specs.Page.{moved_right}
use Rattle.page.proofs.editing.insert_blank.Given as goal

abbrev pub ghost-store_part : goal.ghost-store_part
ghost-store_part a = moved_right
