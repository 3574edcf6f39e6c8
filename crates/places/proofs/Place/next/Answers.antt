use native.Mathlib.Omega.{arith}
use Rattle.places.proofs.Counting.{right, row_fits, next_in_row, next_row}
use Rattle.places.proofs.Place.next.Goals as goal

pub overflow_add-result-2 : goal.overflow_add-result-2
overflow_add-result-2 c = omega (arith, row_fits c.args.self.columns c.args.self.cell c.args.self.row c.args.self.column c.args.self.counted)

pub invariant_of-result : goal.invariant_of-result
invariant_of-result c = record { counted = next_row c.args.self.columns c.args.self.cell c.args.self.row c.args.self.column c.args.self.counted c.if-self.true }

pub returns-then-self : goal.returns-then-self
returns-then-self c = right _

pub invariant_of-result-2 : goal.invariant_of-result-2
invariant_of-result-2 c = record { counted = next_in_row c.args.self.columns c.args.self.cell c.args.self.row c.args.self.column c.args.self.counted c.if-self.false }

pub returns : goal.returns
returns c = right _
