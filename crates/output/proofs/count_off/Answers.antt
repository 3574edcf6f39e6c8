use mathlib.Core.Path.{◌≡◌, sym}
use Prim.Native.Nat.{ℕ, ◌+◌, ◌-◌, ◌*◌, ◌<◌}
use native.Mathlib.Nat.{zero-mul}
use native.Mathlib.Omega.{arith}
use lib.Arith.{digits_div, digits_mod}
use Rattle.words.proofs.Walking.{once_more}
use Rattle.output.proofs.count_off.Goals as goal
use Rattle.output.proofs.count_off.Goals.{then-unit-left, else-unit-left}

-- A turn that is still to come can take one unit off.
turn : (done unit : ℕ) → done < 9 → (9 - done) * unit ≡ (9 - (done + 1)) * unit + unit
turn done unit some =
    let same : 9 - (done + 1) + 1 ≡ 9 - done = omega arith in
    rw same at (once_more (9 - (done + 1)) unit)

pub loop-preserved : goal.loop-preserved
loop-preserved c =
    let here : c.loop.counter < 9 = omega arith in
    let one = turn c.loop.counter c.args.unit here in
    elim c.if-unit-left.branch [
      | then-unit-left w ↦ rw (w.times-is, w.left-is) (omega (arith, one, once_more c.loop.times c.args.unit))
      | else-unit-left w ↦ rw (w.times-is, w.left-is) (omega (arith, one))
    ]

pub returns : goal.returns
returns c =
    let loop = c.loop in
    let unit = c.args.unit in
    let none : 9 - loop.counter ≡ 0 = omega arith in
    let nothing : (9 - loop.counter) * unit ≡ 0 = rw none (zero-mul unit) in
    let small : loop.left < unit = omega (arith, nothing) in
    let whole = loop.invariant.1 in
    (sym (rw (whole, digits_div _ small)), sym (rw (whole, digits_mod _ small)))
