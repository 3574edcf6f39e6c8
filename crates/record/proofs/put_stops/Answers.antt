use mathlib.Core.Bool.{false}
use borrow.Author.Rules.{rules}
use Rattle.words.proofs.Elements.{exactly_these}
use Rattle.record.proofs.put_stops.Goals as goal

pub returns : goal.returns
returns c = rw (exactly_these {n = 160} false c.args.stops (search rules)) c.put_each.ensures
