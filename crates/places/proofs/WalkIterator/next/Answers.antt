use native.Mathlib.Omega.{arith}
use Rattle.places.proofs.Counting.{cell_is}
use Rattle.places.proofs.WalkIterator.next.Goals as goal

pub returns-clause-goes : goal.returns-clause-goes
returns-clause-goes c =
    let next = cell_is _ _ c.next-self.ensures in
    record {
      on = λ _. (c.requires, tt, omega (arith, next, c.if-self.false));
      keeps = c.requires;
      rests = λ _. tt;
    }
