use mathlib.Core.Path.{sym, ap}
use Prim.Native.Nat.{ℕ}
use native.Mathlib.Omega.{arith}
use borrow.Author.Tests.{lt-leb}
use lib.ListN.{length}
use Rattle.copy.proofs.Laws.{next_length, lay_end}
use Rattle.copy.proofs.Passes.{all_counted}
use Rattle.copy.proofs.has_room.Goals as goal

pub returns-in_default : goal.returns-in_default
returns-in_default c = sym (lt-leb _ _ (omega (arith, next_length _ c.in-Some.ensures.steps c.laid_part.ensures)))

pub loop-own-preserved : goal.loop-own-preserved
loop-own-preserved c = omega (arith, next_length _ c.in-Some.ensures.steps c.laid_part.ensures)

pub returns : goal.returns
returns c = all_counted _ _ _ _ (ap (length {A = ℕ}) (lay_end _ _ c.in-None.ensures.steps)) c.loop-own.invariant
