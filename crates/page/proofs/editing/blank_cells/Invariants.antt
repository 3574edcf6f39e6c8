use Rattle.page.specs.Page.{blanked}
use Rattle.page.proofs.editing.blank_cells.Given as goal

abbrev pub ghost-store_part : goal.ghost-store_part
ghost-store_part a = blanked
