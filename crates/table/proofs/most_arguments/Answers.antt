use mathlib.Core.Path.{◌∙◌}
use Prim.Native.Nat.{ℕ}
use borrow.Author.Rules.{rules}
use Rattle.words.specs.Choice.{If◌then◌else◌, ◌and◌, ◌or◌, ◌is◌to◌}
use Rattle.table.specs.Table.{allowed}
use Rattle.table.proofs.Tables.{digits_of, is_digit_at, digit_at}
use Rattle.table.proofs.most_arguments.Goals as goal

pub digit-requires : goal.digit-requires
unfolding digits_of allowed If◌then◌else◌ ◌and◌ ◌or◌ ◌is◌to◌
digit-requires c = is_digit_at (λ (final : ℕ). (allowed final).most) 256 c.args.letter (search rules)

pub returns : goal.returns
unfolding digits_of allowed If◌then◌else◌ ◌and◌ ◌or◌ ◌is◌to◌
returns c = c.digit.ensures ∙ digit_at (λ (final : ℕ). (allowed final).most) 256 c.args.letter (search rules)
