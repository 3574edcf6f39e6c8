-- What stands in each cell of the part that 263, 264 or 265 changed.
use mathlib.Core.Path.{◌≡◌, ap, ◌∙◌}
use mathlib.Core.List.{List, [], ◌∷◌}
use Prim.Native.Nat.{ℕ, suc, ◌+◌, ◌-◌, ◌<◌, ◌≤◌}
use native.Mathlib.Omega.{arith}
use lib.ListN.{length, take, drop, get_or, length-drop, get_or-replicate, get_or-append}
use lib.Seq.{get_or-take, get_or-drop, get_or-append-add}
use Rattle.words.specs.Lists.{on_part}
use Rattle.words.proofs.Writing.{length_part, part_at, inside_part}
use Rattle.page.specs.Page.{blanked, closed_up, moved_right}
use Rattle.page.proofs.Keeping.{KeepsPart, blanked_keeps, closed_up_keeps, moved_right_keeps}

module _ (from to : ℕ) (characters : List ℕ) (some : from < to) (fits : to ≤ length characters) where
  abbrev part : List ℕ
  part = take (to - from) (drop from characters)

  changed_at : {change : List ℕ → List ℕ} → KeepsPart change → (cell : ℕ) → from ≤ cell → cell < to → get_or (on_part from to change characters) cell 0 ≡ get_or (change part) (cell - from) 0
  changed_at {change} keeps = inside_part from to change characters some keeps.size fits

  -- 263: a 20.
  pub blanked_at : (cell : ℕ) → from ≤ cell → cell < to → get_or (on_part from to blanked characters) cell 0 ≡ 0x20
  unfolding blanked
  blanked_at cell low high =
      let n = length_part from to characters fits in
      changed_at blanked_keeps cell low high ∙ get_or-replicate (length part) (cell - from) 0x20 0 (omega arith)

  -- 264: the character on the right; in the last cell a 20.
  pub closed_up_at : (cell : ℕ) → from ≤ cell → cell + 1 < to → get_or (on_part from to closed_up characters) cell 0 ≡ get_or characters (cell + 1) 0
  unfolding closed_up
  closed_up_at cell low high =
      let n = length_part from to characters fits in
      let next : 1 + (cell - from) ≡ cell + 1 - from = omega arith in
      changed_at closed_up_keeps cell low (omega arith)
      ∙ get_or-append (drop 1 part) (0x20 ∷ []) 0 (cell - from) (simp length-drop (omega arith))
      ∙ get_or-drop 1 part (cell - from) 0
      ∙ ap (λ (k : ℕ). get_or part k 0) next
      ∙ part_at from to characters (cell + 1) (omega arith) high

  pub closed_up_last : (cell : ℕ) → cell + 1 ≡ to → get_or (on_part from to closed_up characters) cell 0 ≡ 0x20
  unfolding closed_up
  closed_up_last cell last =
      let n = length_part from to characters fits in
      let end : length (drop 1 part) + 0 ≡ cell - from = simp length-drop (omega arith) in
      changed_at closed_up_keeps cell (omega arith) (omega arith) ∙ rw end at (get_or-append-add (drop 1 part) (0x20 ∷ []) 0 0)

  -- 265: a 20 in the first cell; in the others the character on the left.
  pub moved_right_first : get_or (on_part from to moved_right characters) from 0 ≡ 0x20
  unfolding moved_right
  moved_right_first = let first : from - from ≡ 0 = omega arith in changed_at moved_right_keeps from (omega arith) some ∙ rw first

  pub moved_right_at : (cell : ℕ) → from < cell → cell < to → get_or (on_part from to moved_right characters) cell 0 ≡ get_or characters (cell - 1) 0
  unfolding moved_right
  moved_right_at cell low high =
      let n = length_part from to characters fits in
      let later : cell - from ≡ suc (cell - 1 - from) = omega arith in
      changed_at moved_right_keeps cell (omega arith) high
      ∙ ap (λ (k : ℕ). get_or (moved_right part) k 0) later
      ∙ get_or-take (length part - 1) part (cell - 1 - from) 0 (omega arith)
      ∙ part_at from to characters (cell - 1) (omega arith) (omega arith)
