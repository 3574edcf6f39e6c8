use mathlib.Core.Path.{◌∙◌}
use native.Mathlib.Omega.{arith}
use borrow.Author.Rules.{rules}
use Rattle.fields.specs.Searches.{previous_field}
use Rattle.fields.proofs.Walks.{found_or_else}
use Rattle.fields.proofs.Searching.{before_is}
use Rattle.fields.proofs.previous_field.Goals as goal

pub returns : goal.returns
unfolding previous_field
returns c =
    found_or_else _ _ _ (c.seek_field_back-before.ensures ∙ before_is _ _ _ _ (omega arith)) c.or_else.ensures (λ found. search rules)
