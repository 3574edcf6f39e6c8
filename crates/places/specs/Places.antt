-- Document 01, "The terminal and its sources": page order. Cells are numbered from 0, rows and columns from 1.
use Rattle.std.specs.Prelude.{◌≡◌, refl, ℕ, ◌+◌, ◌-◌, ◌*◌, ◌/◌, ◌%◌, ◌<◌, ◌≤◌, Option, Some, None}
use Rattle.places.specs.declared.Walk.{Walk}
use Rattle.places.specs.declared.WalkBack.{WalkBack}
use Rattle.places.specs.declared.Place.{Place}

-- The cell with this number, on a page of so many columns.
unfoldable pub place_of : ℕ → ℕ → Place
place_of columns cell =
    record {
      cell = cell;
      row = cell / columns + 1;
      column = cell % columns + 1;
      columns = columns;
      counted = (refl, refl);
    }

-- The number of the cell at a row and a column.
abbrev pub cell_at : ℕ → ℕ → ℕ → ℕ
cell_at columns row column = (row - 1) * columns + (column - 1)

-- What a walk on gives, and what it leaves: the place that it has come to, and the walk from the next one on; nothing
-- where no cell is left.
abbrev pub GivesNext : Walk → Option Place → Walk → Type 0
GivesNext walk (Some place) after =
    (place ≡ walk.here)
    × (walk.here.cell < walk.cells)
    × (after ≡ record walk { here = place_of walk.here.columns (walk.here.cell + 1) })
GivesNext walk None after = (walk.cells ≤ walk.here.cell) × (after ≡ walk)

-- A walk back likewise: it gives the place before the one that it has come to, and comes to it.
abbrev pub GivesBefore : WalkBack → Option Place → WalkBack → Type 0
GivesBefore walk (Some place) after =
    (0 < walk.here.cell)
    × (place ≡ place_of walk.here.columns (walk.here.cell - 1))
    × (after ≡ record { here = place })
GivesBefore walk None after = (walk.here.cell ≡ 0) × (after ≡ walk)
