use native.Mathlib.Omega.{arith}
use borrow.Author.Rules.{rules}
use lib.ListN.{length}
use Prim.Native.Nat.{◌-◌}
use Rattle.page.specs.Page.{page_of, scrolled_down}
use Rattle.page.proofs.Laws.{row_above}
use Rattle.page.proofs.scrolling.scroll_down.Goals as goal

pub returns : goal.returns
unfolding scrolled_down
returns c =
    let args = c.args in
    let kept = length args.characters.now - args.columns in
    λ i. page_of
    (row_above args.characters.now args.columns kept (omega arith) 0x20 _ _ c.copy_within.ensures.after (c.fill.ensures.after (λ y h. search rules)) i)
    (row_above args.marks.now args.columns kept (omega arith) 0 _ _ c.copy_within-2.ensures.after (c.fill-2.ensures.after (λ y h. search rules)) i)
