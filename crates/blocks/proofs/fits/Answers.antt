use mathlib.Core.Path.{sym, ◌∙◌}
use Prim.Native.Nat.{◌*◌, ◌≤◌}
use native.Mathlib.Omega.{arith}
use borrow.Author.Tests.{le-leb}
use lib.ListN.{length}
use Rattle.page.specs.Page.{page_of}
use Rattle.blocks.specs.Blocks.{block}
use Rattle.blocks.proofs.Bound.{bounded_within}
use Rattle.blocks.proofs.fits.Goals as goal

pub returns-then-room-ge-LONGEST : goal.returns-then-room-ge-LONGEST
returns-then-room-ge-LONGEST c = λ characters as_long.
    let page = page_of characters c.args.marks.now in
    let within : length characters ≤ 48 * c.args.columns = omega (arith, as_long, c.requires.2) in
    let bound = bounded_within c.args.full c.args.columns page c.requires.1 within in
    let enough : length (block c.args.full c.args.columns page) ≤ c.args.room = omega (arith, bound, c.if-room-ge-LONGEST.true) in
    le-leb _ _ c.if-room-ge-LONGEST.true ∙ sym (le-leb _ _ enough)
