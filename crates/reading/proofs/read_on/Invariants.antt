use mathlib.Core.Path.{◌≡◌}
use mathlib.Core.Bool.{true}
use lib.ListN.{drop}
use Rattle.sequence.specs.Record.{valid_half_read}
use Rattle.reading.specs.Ahead.{read_from}
use Rattle.reading.proofs.read_on.Given as goal

abbrev pub invariant-loop-at : goal.invariant-loop-at
invariant-loop-at l =
    (valid_half_read l.before ≡ true) × (read_from l.fn.half (drop l.from l.bytes) l.from ≡ read_from l.before (drop l.at l.bytes) l.at)
