use borrow.Author.Rules.{rules}
use Rattle.page.specs.Page.{page_of}
use Rattle.page.proofs.Laws.{stores_part}
use Rattle.page.proofs.editing.store_part.Goals as goal

pub returns : goal.returns
returns g c =
    let page = page_of c.args.characters.now c.args.marks.now in
    stores_part g.changed c.args.from c.args.to page _ _ c.requires.1.0.0 (c.requires.1.1.1 _ (search rules)) c.tag.ensures
