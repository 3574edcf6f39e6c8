use Prim.Native.Nat.{ℕ, ◌≤◌}
use native.Mathlib.Omega.{arith}
use mathlib.Core.Path.{ap}
use lib.ListN.{length}
use Rattle.words.proofs.Output.{wrote_then}
use Rattle.output.proofs.Digits.{one_digit, two_digits_lem, three_digits}
use Rattle.output.proofs.put_decimal.Goals as goal

pub put_digit-requires : goal.put_digit-requires
put_digit-requires c =
    let digits = ap (length {A = ℕ}) (one_digit _ c.if-number-lt10.true) in omega arith

pub returns-then-number-lt10 : goal.returns-then-number-lt10
returns-then-number-lt10 c = rw (one_digit _ c.if-number-lt10.true) c.put_digit.ensures

pub put_two_digits-requires : goal.put_two_digits-requires
put_two_digits-requires c =
    let digits = ap (length {A = ℕ}) (two_digits_lem _ c.if-number-lt10.false c.if-number-lt100.true) in omega arith

pub returns-then-number-lt100 : goal.returns-then-number-lt100
returns-then-number-lt100 c = rw (two_digits_lem _ c.if-number-lt10.false c.if-number-lt100.true) c.put_two_digits.ensures

pub put_digit-next-requires : goal.put_digit-next-requires
put_digit-next-requires c =
    let digits = ap (length {A = ℕ}) (three_digits _ c.if-number-lt100.false) in omega arith

pub put_two_digits-requires-2 : goal.put_two_digits-requires-2
put_two_digits-requires-2 c =
    let digits = ap (length {A = ℕ}) (three_digits _ c.if-number-lt100.false) in omega arith

pub returns : goal.returns
returns c =
    let room : c.args.at ≤ length c.args.out.now = omega arith in
    let off = c.count_off-hundreds.ensures in
    rw (three_digits _ c.if-number-lt100.false, ← off.0, ← off.1) (wrote_then room c.put_digit-next.ensures c.put_two_digits-2.ensures)
