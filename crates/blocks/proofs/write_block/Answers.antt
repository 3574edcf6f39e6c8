use mathlib.Core.Path.{◌≡◌, sym, ◌∙◌}
use Prim.Native.Nat.{◌-◌, ◌≤◌}
use native.Mathlib.Omega.{arith}
use borrow.Author.Tests.{leb-true}
use lib.ListN.{length}
use Rattle.std.specs.Prelude.{Ok}
use Rattle.words.proofs.Choosing.{then_case, else_case}
use Rattle.page.specs.Page.{page_of}
use Rattle.blocks.specs.Blocks.{block, writing_block}
use Rattle.blocks.proofs.write_block.Goals as goal

pub returns-then-not-fits : goal.returns-then-not-fits
unfolding writing_block
returns-then-not-fits c =
    let little = sym (c.fits.ensures c.args.characters.now c.requires.columns_nonzero.3) ∙ c.if-not-fits.true in
    sym (else_case _ _ _ little)

pub put_block-end-requires : goal.put_block-end-requires
put_block-end-requires c = let page = page_of c.args.characters.now c.args.marks.now in
    let fits = sym (c.fits.ensures c.args.characters.now c.requires.columns_nonzero.3) ∙ c.if-not-fits.false in
    let enough : length (block c.args.full c.args.columns page) ≤ length c.args.out.now - c.args.at = leb-true _ _ fits in record { columns_nonzero = c.requires.columns_nonzero; marks_in_bounds = omega (arith, enough, c.requires.at_in_bounds) }

pub overflow_sub-result : goal.overflow_sub-result
overflow_sub-result c = omega (arith, c.put_block-end.ensures.next_is)

pub returns : goal.returns
unfolding writing_block
returns c =
    let page = page_of c.args.characters.now c.args.marks.now in
    let fits = sym (c.fits.ensures c.args.characters.now c.requires.columns_nonzero.3) ∙ c.if-not-fits.false in
    let cleared = c.clear_modified.ensures in
    let wrote = c.put_block-end.ensures in
    let sent : c.put_block-end.result - c.args.at ≡ length (block c.args.full c.args.columns page) = omega (arith, wrote.next_is) in
    (λ i. record { answer = Ok (sent i); marks = cleared i; output = wrote.left i }) ∙ sym (then_case _ _ _ fits)
