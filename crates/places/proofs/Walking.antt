-- A loop over the places of a page: what it knows at each turn.
use mathlib.Core.Path.{◌≡◌, ap, ◌∙◌}
use Prim.Native.Nat.{ℕ, ◌+◌, ◌<◌, ◌≤◌}
use native.Mathlib.Omega.{arith}
use Rattle.std.specs.Prelude.{Some, None}
use Rattle.places.specs.declared.Place.{Place}
use Rattle.places.specs.declared.Walk.{Walk}
use Rattle.places.specs.Places.{place_of, GivesNext}
use Rattle.places.proofs.Counting.{cell_is, columns_are}

-- The walk is over a page of so many columns and cells, and has come to one of its cells, or to its end.
pub record OnWalk (columns cells : ℕ) (walk : Walk) : Type 0 where
  pub columns_are : walk.here.columns ≡ columns
  pub cells_are : walk.cells ≡ cells
  pub on_page : walk.here.cell ≤ cells

-- A turn of the loop.
pub record Turn (columns cells : ℕ) (walk after : Walk) (place : Place) : Type 0 where
  pub here : place ≡ walk.here
  pub same_columns : place.columns ≡ columns
  pub less : walk.here.cell < cells
  pub next : after.here ≡ place_of columns (walk.here.cell + 1)
  pub next_cell : after.here.cell ≡ walk.here.cell + 1
  pub on : OnWalk columns cells after

module _ {columns cells : ℕ} {walk : Walk} where
  pub sets_out : {place : Place} → place.columns ≡ columns → place.cell ≤ cells → walk ≡ record { here = place; cells = cells } → OnWalk columns cells walk
  sets_out {place} columns_are on_page is =
      record {
        columns_are = ap (λ (w : Walk). w.here.columns) is ∙ columns_are;
        cells_are = ap (λ (w : Walk). w.cells) is;
        on_page = omega (arith, ap (λ (w : Walk). w.here.cell) is);
      }

  pub turn : {place : Place} {after : Walk} → OnWalk columns cells walk → GivesNext walk (Some place) after → Turn columns cells walk after place
  turn {after = after} walks gives =
      let less : walk.here.cell < cells = omega (arith, gives.1, walks.cells_are) in
      let next : after.here ≡ place_of columns (walk.here.cell + 1) =
      ap (λ (w : Walk). w.here) gives.2 ∙ ap (λ (k : ℕ). place_of k (walk.here.cell + 1)) walks.columns_are in
      let cell = cell_is columns (walk.here.cell + 1) next in
      record {
        here = gives.0;
        same_columns = ap (λ (p : Place). p.columns) gives.0 ∙ walks.columns_are;
        less = less;
        next = next;
        next_cell = cell;
        on = record {
          columns_are = columns_are columns (walk.here.cell + 1) next;
          cells_are = ap (λ (w : Walk). w.cells) gives.2 ∙ walks.cells_are;
          on_page = omega arith;
        };
      }

  pub walked : {after : Walk} → OnWalk columns cells walk → GivesNext walk None after → walk.here.cell ≡ cells
  walked walks gives = omega (arith, walks.on_page, walks.cells_are, gives.0)

  -- A walk over the whole page.
  pub sets_out_first : {first : Place} → first ≡ place_of columns 0 → walk ≡ record { here = first; cells = cells } → OnWalk columns cells walk × (walk.here.cell ≡ 0)
  sets_out_first is-first is =
      let first = cell_is columns 0 is-first in
      (sets_out (columns_are columns 0 is-first) (omega arith) is, ap (λ (w : Walk). w.here.cell) is ∙ first)
