-- What the loops over the page, and the calls after one another, leave.
use mathlib.Core.Path.{◌≡◌, ap, ◌∙◌}
use mathlib.Core.Bool.{Bool, true, false}
use mathlib.Core.List.{List, [], ◌∷◌, ◌++◌, append-nil}
use Prim.Native.Nat.{ℕ, suc, ◌+◌, ◌-◌, ◌<◌, ◌≤◌}
use native.Mathlib.Nat.{not-suc-le-zero}
use native.Mathlib.Omega.{arith}
use borrow.Author.Tests.{not-false}
use lib.ListN.{length, take, drop, get_or, set, replicate, length-append, length-drop, drop_of_length-le}
use lib.Seq.{drop-cons, drop-drop, set_at, take_all, take_at, drop_at, length-take-le}
use borrow.Rule.Slice.PartMut.{put_mid}
use Rattle.std.specs.List.{copy_within}
use Rattle.words.specs.Choice.{If◌then◌else◌, ◌and◌}
use Rattle.words.specs.Lists.{within, on_part}
use Rattle.words.proofs.Choosing.{then_case, else_case, both_hold, first_fails, second_fails}
use Rattle.words.proofs.Writing.{inside, before_range, after_range}
use Rattle.page.specs.Marks.{unprotected}
use Rattle.page.specs.Page.{Page, page_of, closed_up, moved_right, erasable, tagged, part_stored, mark_after_block}

-- All but the first n elements copied to the front of a list, and all but the last n to its back.
module _ (list : List ℕ) (n at : ℕ) (sum : at + n ≡ length list) where
  pub copied_up : copy_within list n (length list) 0 ≡ drop n list ++ drop at list
  copied_up =
      let some : length list - n ≡ at = omega arith in
      let from_start : 0 + at ≡ at = omega arith in
      rw (some, from_start, take_all at (drop n list) (omega (arith, length-drop n list)))

  pub copied_down : copy_within list 0 at n ≡ take n list ++ take at list
  copied_down =
      let all : at - 0 ≡ at = omega arith in
      rw (all, drop_of_length-le list {i = n + at} (omega arith), append-nil (take n list ++ take at list))

  -- The row that a scroll fills, which is the last or the first.
  pub row_below : (v : ℕ) (moved row : List ℕ) → moved ≡ copy_within list n (length list) 0 → row ≡ replicate (length (take (length moved - at) (drop at moved))) v → put_mid at (length moved - at) moved row ≡ drop n list ++ replicate n v
  row_below v moved row is_moved is_filled =
      let is : moved ≡ drop n list ++ drop at list = is_moved ∙ copied_up in
      let kept : length (drop n list) ≡ at = length-drop n list ∙ omega arith in
      let last : length (drop at list) ≡ n = length-drop at list ∙ omega arith in
      let size : length moved ≡ length list = ap length is ∙ length-append (drop n list) (drop at list) ∙ omega arith in
      let room : length moved - at ≡ n = omega arith in
      let old_row : drop at moved ≡ drop at list = ap (drop at) is ∙ drop_at (drop n list) (drop at list) at kept in
      let before : take at moved ≡ drop n list = ap (take at) is ∙ take_at (drop n list) (drop at list) at kept in
      rw (is_filled, room, old_row, before, take_all n (drop at list) (omega arith), last, drop_of_length-le (drop at list) {i = n} (omega arith), append-nil (replicate n v))

  pub row_above : (v : ℕ) (moved row : List ℕ) → moved ≡ copy_within list 0 at n → row ≡ replicate (length (take n moved)) v → row ++ drop n moved ≡ replicate n v ++ take at list
  row_above v moved row is_moved is_filled =
      let is : moved ≡ take n list ++ take at list = is_moved ∙ copied_down in
      let first : length (take n list) ≡ n = length-take-le n list (omega arith) in
      let old_row : take n moved ≡ take n list = ap (take n) is ∙ take_at (take n list) (take at list) n first in
      let after : drop n moved ≡ take at list = ap (drop n) is ∙ drop_at (take n list) (take at list) n first in
      rw (is_filled, old_row, first, after)

-- The last store of `close_up`, over the parts that are left, and over the library's copy; and that of `move_right`.
pub closes_up : (part : List ℕ) → 0 < length part → set (drop 1 part ++ drop (length part - 1) part) (length part - 1) 0x20 ≡ closed_up part
unfolding closed_up
closes_up part h =
    let last : length part - 1 < length part = omega arith in
    rw (drop-cons part (length part - 1) 0, set_at (drop 1 part) _ _ _ (length part - 1) (length-drop 1 part), drop_of_length-le part {i = suc (length part - 1)} (omega arith))

pub closes_up_within : (part : List ℕ) → 0 < length part → set (copy_within part 1 (length part) 0) (length part - 1) 0x20 ≡ closed_up part
closes_up_within part h = rw (copied_up part 1 (length part - 1) (omega arith)) (closes_up part h)

pub moves_right : (part : List ℕ) → 0 < length part → set (copy_within part 0 (length part - 1) 1) 0 0x20 ≡ moved_right part
unfolding moved_right
moves_right [] h = absurd (not-suc-le-zero h)
moves_right (x ∷ rest) h = ap (λ (list : List ℕ). set list 0 0x20) (copied_down (x ∷ rest) 1 (length (x ∷ rest) - 1) (omega arith))

-- A part that was lent and changed, and its cells tagged.
pub stores_part : (change : List ℕ → List ℕ) (from to : ℕ) (page : Page) (part marks : List ℕ) → from ≤ to → part ≡ change (take (to - from) (drop from page.characters)) → marks ≡ tagged from to page.marks → page_of (take from page.characters ++ (part ++ drop (to - from) (drop from page.characters))) marks ≡ part_stored change from to page
unfolding on_part
stores_part change from to page part marks h is-changed is-tagged =
    let n : from + (to - from) ≡ to = omega arith in
    rw (is-changed, is-tagged, drop-drop (to - from) from page.characters, n)

-- What erasing makes of the character or the mark x of a cell.
abbrev erasing : Bool → ℕ → ℕ → List ℕ → ℕ → ℕ → ℕ → ℕ
erasing mode from to marks v cell x = If within from to cell and erasable mode marks cell then v else x

module _ (mode : Bool) (from to : ℕ) (marks : List ℕ) (v cell x : ℕ) where
  pub erases : from ≤ cell → cell < to → erasable mode marks cell ≡ true → erasing mode from to marks v cell x ≡ v
  erases h l p = then_case _ _ _ (both_hold _ _ (inside from to cell h l) p)

  pub passes_by : erasable mode marks cell ≡ false → erasing mode from to marks v cell x ≡ x
  passes_by p = else_case _ _ _ (second_fails _ _ p)

  pub leaves_before : cell < from → erasing mode from to marks v cell x ≡ x
  leaves_before h = else_case _ _ _ (first_fails _ _ (before_range from to cell h))

  pub leaves_after : to ≤ cell → erasing mode from to marks v cell x ≡ x
  leaves_after h = else_case _ _ _ (first_fails _ _ (after_range from to cell h))

-- A cell that the loop of `erase` has not come to is as erasable as it was.
pub still_erasable : (mode : Bool) (before now : List ℕ) (cell : ℕ) → get_or now cell 0 ≡ get_or before cell 0 → erasable mode now cell ≡ erasable mode before cell
unfolding erasable unprotected
still_erasable mode before now cell same = rw same

-- What sending makes of the mark of a cell.
module _ (marks : List ℕ) (cell : ℕ) where
  pub sent_protected : unprotected marks cell ≡ false → mark_after_block (get_or marks cell 0) ≡ get_or marks cell 0
  unfolding unprotected mark_after_block
  sent_protected protected = then_case _ _ _ (not-false _ protected)
