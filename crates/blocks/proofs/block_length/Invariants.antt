use mathlib.Core.Path.{◌≡◌}
use mathlib.Core.List.{List}
use Prim.Native.Nat.{ℕ, ◌+◌, ◌-◌, ◌*◌, ◌≤◌}
use lib.ListN.{length}
use Rattle.page.specs.Page.{page_of}
use Rattle.places.proofs.Walking.{OnWalk}
use Rattle.blocks.specs.Blocks.{block}
use Rattle.blocks.proofs.Laws.{rest_from}
use Rattle.blocks.proofs.block_length.Given as goal

-- what is counted so far, with what is still to be counted, is the block's length and the 03 that was counted first
abbrev pub invariant-loop-place : goal.invariant-loop-place
invariant-loop-place l =
    record {
      walks : OnWalk l.columns (length l.marks) l.place-iterator;
      bounded : l.total ≤ 1 + 7690 * l.place-iterator.here.cell;
      counted_off : (characters : List ℕ) → length characters ≡ length l.marks →
          l.total + length (rest_from l.full l.columns (page_of characters l.marks) (length characters - l.place-iterator.here.cell) l.place-iterator.here.cell)
          ≡ length (block l.full l.columns (page_of characters l.marks)) + 1;
    }
