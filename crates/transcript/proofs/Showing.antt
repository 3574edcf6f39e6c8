-- A listed size and a valid state fit into the rooms that the program has.
use mathlib.Core.Path.{◌≡◌}
use mathlib.Core.Bool.{true}
use mathlib.Core.List.{List}
use Prim.Native.Nat.{ℕ, ◌+◌, ◌*◌, ◌≤◌}
use native.Mathlib.Nat.{mul-le-mul}
use native.Mathlib.Omega.{arith}
use lib.ListN.{length, take}
use lib.Seq.{length-take-le}
use Rattle.state.specs.declared.State.{State}
use Rattle.state.specs.Tests.{listed_size, valid_state}
use Rattle.state.proofs.Keeping.{on_page}
use Rattle.drawing.specs.Drawing.{drawn, FiveDigitsEach}
use Rattle.drawing.proofs.Lengths.{drawn-length}

module _ (state : State) (listed : listed_size state.size ≡ true) (valid : valid_state state ≡ true) where
  pub cells_fit : state.size.rows * state.size.columns ≤ 7680
  cells_fit =
      let page = on_page state listed valid in
      let most : state.size.rows * state.size.columns ≤ 48 * 160 = mul-le-mul page.rows_most page.columns_most in
      omega arith

  pub page_length : (list : List ℕ) → length list ≡ 7680 → length (take (state.size.rows * state.size.columns) list) ≡ state.size.rows * state.size.columns
  page_length list long = let fits = cells_fit in length-take-le (state.size.rows * state.size.columns) list (omega arith)

  pub five_digits : FiveDigitsEach state
  five_digits = let page = on_page state listed valid in record { rows = omega arith; columns = omega arith; row = omega arith; column = omega arith }

  pub text_fits : (characters marks : List ℕ) → length characters ≡ state.size.rows * state.size.columns → length marks ≡ state.size.rows * state.size.columns → length (drawn state characters marks) ≤ 131087
  text_fits characters marks c m =
      let page = on_page state listed valid in
      let long = drawn-length state characters marks c m in
      let row : state.size.columns + 3 ≤ 163 = omega arith in
      let marks-row : 4 * state.size.columns + 2 ≤ 642 = omega arith in
      let shown : state.size.rows * (state.size.columns + 3) ≤ 48 * 163 = mul-le-mul page.rows_most row in
      let marked : state.size.rows * (4 * state.size.columns + 2) ≤ 48 * 642 = mul-le-mul page.rows_most marks-row in
      omega arith
