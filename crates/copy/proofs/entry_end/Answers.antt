use mathlib.Core.Path.{refl}
use native.Mathlib.Omega.{arith}
use Rattle.copy.specs.Copy.{entry_end}
use Rattle.copy.proofs.Finding.{ends_here, goes_on, ends_with_bytes}
use Rattle.copy.proofs.entry_end.Goals as goal

pub loop-end-init : goal.loop-end-init
unfolding entry_end
loop-end-init c = (omega (arith, c.requires), refl)

pub returns-then-bytes-end-lt32 : goal.returns-then-bytes-end-lt32
returns-then-bytes-end-lt32 c = ends_here _ _ _ c.loop-end.invariant.1 c.loop-end-test.true c.if-bytes-end-lt32.true

pub loop-end-preserved : goal.loop-end-preserved
loop-end-preserved c = (omega (arith, c.loop-end-test.true), goes_on _ _ _ c.loop-end.invariant.1 c.loop-end-test.true c.if-bytes-end-lt32.false)

pub returns : goal.returns
returns c = omega (arith, c.loop-end.invariant.0, c.loop-end-test.false, ends_with_bytes _ _ _ c.loop-end.invariant.1 c.loop-end-test.false)
