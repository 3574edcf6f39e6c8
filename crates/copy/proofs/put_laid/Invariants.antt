use mathlib.Core.Path.{◌≡◌}
use lib.ListN.{length}
use Rattle.copy.proofs.Passes.{Writing}
use Rattle.copy.proofs.put_laid.Given as goal

abbrev pub invariant-loop-own : goal.invariant-loop-own
invariant-loop-own l =
    Writing l.block.bytes.now l.fn.copy.bytes.now l.initial.out l.next l.own-iterator.bytes.now l.out
    × (length l.out ≡ length l.initial.out)
