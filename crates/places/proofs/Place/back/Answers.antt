use Rattle.places.proofs.Counting.{right, back_in_row, row_before}
use Rattle.places.proofs.Place.back.Goals as goal

pub invariant_of-result : goal.invariant_of-result
invariant_of-result c = record { counted = back_in_row c.args.self.columns c.args.self.cell c.args.self.row c.args.self.column c.args.self.counted c.if-self-gt1.true }

pub returns-then-self-gt1 : goal.returns-then-self-gt1
returns-then-self-gt1 c = right _

pub invariant_of-result-2 : goal.invariant_of-result-2
invariant_of-result-2 c = record { counted = row_before c.args.self.columns c.args.self.cell c.args.self.row c.args.self.column c.args.self.counted c.requires c.if-self-gt1.false }

pub returns : goal.returns
returns c = right _
