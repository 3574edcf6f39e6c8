use mathlib.Core.Path.{◌≡◌}
use Prim.Native.Nat.{◌+◌, ◌<◌, ◌≤◌}
use lib.ListN.{length, drop}
use Rattle.sequence.specs.Record.{argument_read}
use Rattle.reading.specs.Ahead.{read_from}
use Rattle.reading.proofs.Laws.{open_sequence}
use Rattle.reading.proofs.read_arguments.Given as goal

abbrev pub invariant-loop-at : goal.invariant-loop-at
invariant-loop-at l =
    (l.last ≤ 7) ×
    (length l.arguments ≡ 8) ×
    (l.at < length l.bytes → read_from argument_read (drop l.from l.bytes) l.from ≡ read_from (open_sequence l.arguments (l.last + 1)) (drop l.at l.bytes) l.at)
