use native.Mathlib.Omega.{arith}
use Rattle.output.proofs.Digits.{three_at_most, place_long}
use Rattle.output.proofs.place_length.Goals as goal

pub overflow_add-result : goal.overflow_add-result
overflow_add-result c = omega (arith, three_at_most c.args.row, three_at_most c.args.column)

pub overflow_add-result-2 : goal.overflow_add-result-2
overflow_add-result-2 c = omega (arith, three_at_most c.args.row, three_at_most c.args.column)

pub returns : goal.returns
returns c =
    omega (arith, place_long c.args.row c.args.column 0, three_at_most c.args.row, three_at_most c.args.column)
