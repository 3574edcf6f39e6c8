use Rattle.words.proofs.Pieces.{Walked}
use Rattle.output.proofs.put_each.Given as goal

abbrev pub invariant-loop-item : goal.invariant-loop-item
invariant-loop-item g l = Walked g.piece.bytes l.items l.at l.initial.out l.item-index l.next l.out
