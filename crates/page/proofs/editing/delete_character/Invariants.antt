use Rattle.page.specs.Page.{closed_up}
use Rattle.page.proofs.editing.delete_character.Given as goal

abbrev pub ghost-store_part : goal.ghost-store_part
ghost-store_part a = closed_up
