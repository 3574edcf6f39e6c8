-- The rows one after another, whatever a row's line is.
use mathlib.Core.Path.{◌≡◌, ap, ◌∙◌}
use mathlib.Core.List.{List, [], ◌++◌, flat_map}
use Prim.Native.Nat.{ℕ, suc, ◌+◌, ◌-◌, ◌*◌, ◌<◌, ◌≤◌}
use native.Mathlib.Omega.{arith}
use lib.ListN.{take, drop}
use Rattle.words.proofs.Walking.{once_more}
use Rattle.drawing.specs.Drawing.{rows_of, row_lines}

-- Of all the rows so many are done: those to come are one more than those to come after the next.
pub row_taken : (rows done columns : ℕ) → done < rows → (rows - done) * columns ≡ (rows - (done + 1)) * columns + columns
row_taken rows done columns h =
    let n : rows - done ≡ rows - (done + 1) + 1 = omega arith in
    ap (λ (k : ℕ). k * columns) n ∙ once_more (rows - (done + 1)) columns

module _ {A : Type 0} (line : List A → List ℕ) (rows done columns : ℕ) (left : List A) where
  pub rows_next : done < rows → row_lines line (rows - done) columns left ≡ line (take columns left) ++ row_lines line (rows - (done + 1)) columns (drop columns left)
  unfolding flat_map rows_of
  rows_next h =
      let n : rows - done ≡ suc (rows - (done + 1)) = omega arith in
      ap (λ (k : ℕ). row_lines line k columns left) n

  pub rows_end : rows ≤ done → row_lines line (rows - done) columns left ≡ []
  unfolding flat_map rows_of
  rows_end h =
      let none : rows - done ≡ 0 = omega arith in
      ap (λ (k : ℕ). row_lines line k columns left) none
