use mathlib.Core.Path.{◌≡◌}
use mathlib.Core.Bool.{true}
use Rattle.blocks.specs.Blocks.{Entry, entry_bytes}
use Rattle.blocks.specs.Decode.{decode, valid_entry}
use Rattle.blocks.specs.Lay.{laid_on}
use Rattle.copy.proofs.laid_part.Given as goal

-- no entry before here is of the place of the copy's
abbrev pub invariant-loop-sent : goal.invariant-loop-sent
invariant-loop-sent l =
    (entry : Entry) → valid_entry entry ≡ true → l.own ≡ entry_bytes entry →
    laid_on (decode l.fn.block.bytes.now) entry ≡ laid_on (decode l.sent-iterator.bytes.now) entry
