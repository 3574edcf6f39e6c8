use native.Mathlib.Omega.{arith}
use Rattle.places.proofs.Counting.{cell_is}
use Rattle.places.proofs.WalkBackIterator.next.Goals as goal

pub returns-clause-goes : goal.returns-clause-goes
returns-clause-goes c =
    let before = cell_is _ _ c.back-self.ensures in
    record {
      on = λ _. (tt, tt, omega (arith, before, c.if-self-eq0.false));
      keeps = tt;
      rests = λ _. tt;
    }
