-- What a valid terminal tells in numbers.
use mathlib.Core.Path.{◌≡◌, sym, ◌∙◌}
use Prim.Native.Nat.{◌*◌, ◌<◌, ◌≤◌}
use native.Mathlib.Nat.{mul-le-mul}
use native.Mathlib.Omega.{arith}
use lib.ListN.{length}
use Rattle.page.specs.Page.{cells}
use Rattle.state.specs.State.{OnPage}
use Rattle.state.proofs.Keeping.{on_page, size_bounds}
use Rattle.steps.specs.Steps.{Terminal, Valid, cursor_cell}
use Rattle.steps.proofs.Soundness.{sized, row_on_page, cursor_on_page}

-- The cursor is on the page, a row fits in it, and both slices have all its cells, no more than 48 x 160.
pub record Measured (t : Terminal) : Type 0 where
  pub on_page : OnPage t.state
  pub some_columns : 0 < t.state.size.columns
  pub all_cells : length t.page.marks ≡ t.state.size.rows * t.state.size.columns
  pub as_many : length t.page.marks ≡ cells t.page
  pub most : length t.page.marks ≤ 7680
  pub row_fits : t.state.size.columns ≤ length t.page.characters
  pub cursor_inside : cursor_cell t.state < length t.page.characters

pub measured : {t : Terminal} → Valid t → Measured t
measured {t} valid =
    let size = sized t.state.size t.page valid.size in
    let bounds = size_bounds t.state.size size.listed in
    let largest : t.state.size.rows * t.state.size.columns ≤ 48 * 160 = mul-le-mul bounds.rows_most bounds.columns_most in
    let row = row_on_page t valid in
    let cursor = cursor_on_page t valid in
    record {
      on_page = on_page t.state size.listed valid.state;
      some_columns = bounds.some_columns;
      all_cells = size.marks;
      as_many = size.marks ∙ sym size.characters;
      most = omega arith;
      row_fits = omega arith;
      cursor_inside = omega arith;
    }
