use mathlib.Core.Path.{sym}
use native.Mathlib.Omega.{arith}
use borrow.Author.Rules.{rules}
use Rattle.words.proofs.Pieces.{walk_starts, walk_goes_on, walk_ends, walk_fits}
use Rattle.output.proofs.put_each.Goals as goal

pub loop-item-init : goal.loop-item-init
loop-item-init g c = walk_starts g.piece.bytes c.args.items.now

pub put-next-requires : goal.put-next-requires
put-next-requires g c =
    c.requires.1.1.1.0 _ _ _ (walk_fits g.piece.bytes c.args.items.now g.piece.width g.piece.long c.loop-item.invariant c.loop-item-test.true c.requires.1.1.0)

pub loop-item-preserved : goal.loop-item-preserved
loop-item-preserved g c =
    let wrote = c.requires.1.1.1.1 _ _ _ _ _ c.put-next.ensures in
    walk_goes_on g.piece.bytes c.args.items.now c.item-item.result c.loop-item.invariant c.loop-item-test.true (omega (arith, c.requires.1.1.0)) (search rules) (rw (sym c.item-item.is) wrote)

pub returns : goal.returns
returns g c = walk_ends g.piece.bytes c.args.items.now c.loop-item.invariant c.loop-item-test.false
