use mathlib.Core.Path.{◌≡◌}
use mathlib.Core.List.{List, ◌++◌}
use Prim.Native.Nat.{ℕ, ◌-◌}
use lib.ListN.{length}
use Rattle.words.specs.Output.{Wrote}
use Rattle.page.specs.Page.{page_of}
use Rattle.places.proofs.Walking.{OnWalk}
use Rattle.blocks.specs.Blocks.{block}
use Rattle.blocks.proofs.Laws.{rest_from}
use Rattle.blocks.proofs.put_block.Given as goal

-- what is written so far, with what the block has from here on, is the block
abbrev pub invariant-loop-place : goal.invariant-loop-place
invariant-loop-place l =
    record {
      walks : OnWalk l.columns (length l.characters) l.place-iterator;
      as_long : length l.out ≡ length l.initial.out;
      written : List ℕ;
      wrote : Wrote l.at written l.initial.out l.next l.out;
      rest : written ++ rest_from l.full l.columns (page_of l.characters l.marks) (length l.characters - l.place-iterator.here.cell) l.place-iterator.here.cell
          ≡ block l.full l.columns (page_of l.characters l.marks);
    }
