use mathlib.Core.Path.{◌≡◌}
use Prim.Native.Nat.{◌≤◌}
use lib.ListN.{length}
use Rattle.words.proofs.Writing.{up_to}
use Rattle.record.specs.Bytes.{number_at, read_each}
use Rattle.record.proofs.numbers.read_numbers.Given as goal

abbrev pub invariant-loop-i : goal.invariant-loop-i
invariant-loop-i l =
    (l.i ≤ length l.initial.numbers) × (length l.numbers ≡ length l.initial.numbers) × (l.numbers ≡ up_to l.i (read_each (number_at 2 l.bytes) 2 0 (length l.initial.numbers)) l.initial.numbers)
