use mathlib.Core.Path.{sym, ◌∙◌}
use Rattle.places.proofs.Counting.{first_is}
use Rattle.fields.specs.Searches.{or_else}
use Rattle.keys.specs.Keys.{gone_to, to_first_unprotected}
use Rattle.steps.proofs.Measuring.{measured}
use Rattle.keys.proofs.to_first_unprotected.Goals as goal

pub first_unprotected-sought-requires : goal.first_unprotected-sought-requires
unfolding to_first_unprotected gone_to or_else
first_unprotected-sought-requires c = (measured c.requires).most

pub returns-in-Some : goal.returns-in-Some
unfolding to_first_unprotected gone_to or_else
returns-in-Some c = rw (c.quiet.ensures _, c.moved_to.ensures, ← (measured c.requires).as_many, sym c.first_unprotected-sought.ensures ∙ c.in-Some.is)

pub returns-in-None : goal.returns-in-None
unfolding to_first_unprotected gone_to or_else
returns-in-None c =
    let columns = c.args.state.size.columns in
    let known = measured c.requires in
    let first = first_is columns in
    rw (c.quiet-in-None.ensures _, c.moved_to-in-None.ensures, ← known.as_many, sym c.first_unprotected-sought.ensures ∙ c.in-None.is, first.0, first.1)
