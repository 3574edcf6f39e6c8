use mathlib.Core.Path.{◌≡◌}
use Prim.Native.Nat.{◌≤◌}
use lib.ListN.{length, drop}
use Rattle.words.specs.Choice.{◌and◌}
use Rattle.record.specs.Bytes.{number_at, read_each, same_bytes}
use Rattle.record.proofs.numbers.says_numbers.Given as goal

-- the test of all numbers is what is known of those before `i` and the test of those from there on
abbrev pub invariant-loop-i : goal.invariant-loop-i
invariant-loop-i l =
    (l.i ≤ length l.numbers)
    × (same_bytes (read_each (number_at 2 l.bytes) 2 0 (length l.numbers)) l.numbers ≡ (l.all and same_bytes (drop l.i (read_each (number_at 2 l.bytes) 2 0 (length l.numbers))) (drop l.i l.numbers)))
