use mathlib.Core.Path.{refl, sym}
use native.Mathlib.Omega.{arith}
use borrow.Author.Tests.{lt-ltb, le-ltb}
use lib.Seq.{set_out}
use Rattle.words.proofs.Choosing.{then_case, else_case}
use Rattle.frames.specs.Held.{longer}
use Rattle.frames.proofs.collect.Goals as goal

pub returns-then-digits-lt512 : goal.returns-then-digits-lt512
unfolding longer
returns-then-digits-lt512 c = (sym (then_case _ _ _ (lt-ltb _ _ c.if-digits-lt512.true)), refl)

pub returns : goal.returns
unfolding longer
returns c = (sym (else_case _ _ _ (le-ltb _ _ c.if-digits-lt512.false)), sym (set_out _ _ _ (omega arith)))
