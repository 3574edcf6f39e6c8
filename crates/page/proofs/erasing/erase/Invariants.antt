use mathlib.Core.Path.{◌≡◌}
use Prim.Native.Nat.{◌≤◌, ◌+◌, ◌-◌}
use lib.ListN.{length}
use Rattle.words.specs.Lists.{numbers_from}
use Rattle.words.proofs.Writing.{up_to}
use Rattle.page.specs.Page.{page_of, erasable, erased, cells_erased}
use Rattle.page.proofs.erasing.erase.Given as goal

-- the page is erased up to `cell`, and `count` with the cells still to be erased is the count of all
abbrev pub invariant-loop-cell : goal.invariant-loop-cell
invariant-loop-cell l =
    let start = page_of l.initial.characters l.initial.marks in
    record {
      few : l.count ≤ l.cell;
      characters : l.characters ≡ up_to l.cell (erased l.mode l.from l.to start).characters start.characters;
      marks : l.marks ≡ up_to l.cell (erased l.mode l.from l.to start).marks start.marks;
      counted : l.count + length (numbers_from (erasable l.mode start.marks) l.cell (l.to - l.cell)) ≡ length (cells_erased l.mode l.from l.to start);
    }
