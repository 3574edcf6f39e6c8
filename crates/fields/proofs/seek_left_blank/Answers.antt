use mathlib.Core.Path.{refl, ◌∙◌}
use native.Mathlib.Omega.{arith}
use borrow.Author.Rules.{rules}
use lib.ListN.{length}
use Rattle.std.proofs.lemmas.Iterator.{YieldsList-from_range}
use Rattle.std.proofs.lemmas.Iterator.Search.{any_from_yields_List}
use Rattle.page.specs.Page.{page_of}
use Rattle.fields.specs.Fields.{fields_of}
use Rattle.fields.proofs.Blank.{left_blank_from, starts_blank, blank_somewhere}
use Rattle.fields.proofs.seek_left_blank.Goals as goal

pub returns : goal.returns
unfolding fields_of left_blank_from
returns c =
    let page = page_of c.args.characters.now c.args.marks.now in
    let all = length c.args.marks.now in
    any_from_yields_List (starts_blank page all) _ _ _ c.any.ensures.ran (YieldsList-from_range 0 all _ refl (omega arith)) (λ x b q k. search rules)
    ∙ blank_somewhere page all 0 all
