-- What each operation keeps: the size of the page, and that its characters and marks are as they may be.
use mathlib.Core.Path.{◌≡◌, refl}
use mathlib.Core.Bool.{Bool, true}
use mathlib.Core.List.{List, [], ◌∷◌}
use Prim.Native.Nat.{ℕ, ◌-◌, ◌<◌, ◌≤◌}
use native.Mathlib.Omega.{arith}
use lib.ListN.{length, take, drop, get_or, replicate, length-set, length-append, length-take, length-drop, length-replicate}
use Rattle.words.specs.Choice.{◌and◌}
use Rattle.words.specs.Lists.{every}
use Rattle.words.proofs.Choosing.{either_line, both, both_hold, range_is}
use Rattle.words.proofs.Writing.{length-each, length-on_part}
use Rattle.words.proofs.Passing.{passes, every_append, every_set, every-replicate, every_take, every_drop, every-each, every-on_part}
use Rattle.page.specs.Marks.{valid_character, valid_mark, with_modified}
use Rattle.page.specs.Page.{Page, page_of, cells, valid_page, text_stored, typed, erased, scrolled_up, scrolled_down, tagged, blanked, closed_up, moved_right, part_stored, mark_after_block, modified_cleared}
use Rattle.page.proofs.Bits.{StayOutside, lower_bit, higher_bit, stays_below, set_others, cleared_others}
use Rattle.page.proofs.Valid.{valid_from, valid_mark_lem}

-- An operation takes no cell away and adds none.
pub record SameSize (before after : Page) : Type 0 where
  pub characters : length after.characters ≡ length before.characters
  pub marks : length after.marks ≡ length before.marks

module _ (page : Page) where
  pub text_same_size : (cell character pen : ℕ) → SameSize page (text_stored cell character pen page)
  unfolding text_stored
  text_same_size cell character pen = record { characters = simp length-set; marks = simp length-set }

  pub typed_same_size : (cell character : ℕ) → SameSize page (typed cell character page)
  unfolding typed
  typed_same_size cell character = record { characters = simp length-set; marks = simp length-set }

  pub erased_same_size : (mode : Bool) (from to : ℕ) → SameSize page (erased mode from to page)
  unfolding erased
  erased_same_size mode from to = record { characters = simp length-each; marks = simp length-each }

  pub cleared_same_size : SameSize page (page_of page.characters (modified_cleared page.marks))
  unfolding modified_cleared
  cleared_same_size = record { characters = refl; marks = length-each _ _ _ }

module _ (page : Page) (columns : ℕ) (fits : columns ≤ length page.characters) (same : length page.marks ≡ length page.characters) where
  pub scrolled_up_same_size : SameSize page (scrolled_up columns page)
  unfolding scrolled_up
  scrolled_up_same_size = record {
    characters = simp (length-append, length-drop, length-replicate) (omega arith);
    marks = simp (length-append, length-drop, length-replicate) (omega arith);
  }

  pub scrolled_down_same_size : SameSize page (scrolled_down columns page)
  unfolding scrolled_down
  scrolled_down_same_size = record {
    characters = simp (length-append, length-take, length-replicate) (omega arith);
    marks = simp (length-append, length-take, length-replicate) (omega arith);
  }

-- A valid mark stays so whatever is done to the bits from 1 to 6: so do those that the keys and sending leave.
pub mark_stays_valid : {n m mark after : ℕ} → StayOutside n m mark after → 0 < n → m ≤ 7 → valid_mark mark ≡ true → valid_mark after ≡ true
mark_stays_valid {n} {m} {mark} {after} stay low high p =
    let fits = valid_mark_lem mark p in
    valid_from after (stays_below stay 10 (omega arith) fits.0)
    (lower_bit stay 0 low) (higher_bit stay 7 high) (higher_bit stay 8 (omega arith)) (higher_bit stay 9 (omega arith)) fits.1

modified_valid : (mark : ℕ) → valid_mark mark ≡ true → valid_mark (with_modified mark) ≡ true
modified_valid mark = mark_stays_valid (set_others 1 mark) (omega arith) (omega arith)

sent_valid : (mark : ℕ) → valid_mark mark ≡ true → valid_mark (mark_after_block mark) ≡ true
unfolding mark_after_block
sent_valid mark p =
    either_line (λ m. valid_mark m ≡ true) _ _ _ (λ _. p) (λ _. mark_stays_valid (cleared_others 1 mark) (omega arith) (omega arith) p)

-- The blanks, and their marks.
blank_valid : valid_character 0x20 ≡ true
blank_valid = range_is 0x20 0x20 0x7E (omega arith) (omega arith)

pub no_mark_valid : valid_mark 0 ≡ true
unfolding valid_mark ◌and◌
no_mark_valid = refl

-- A change of a part of the characters keeps its length, if it has any, and its characters as they may be.
pub record KeepsPart (change : List ℕ → List ℕ) : Type 0 where
  pub size : (part : List ℕ) → 0 < length part → length (change part) ≡ length part
  pub valid : (part : List ℕ) → every valid_character part ≡ true → every valid_character (change part) ≡ true

pub blanked_keeps : KeepsPart blanked
unfolding blanked
blanked_keeps = record {
  size = λ part some. length-replicate _ _;
  valid = λ part p. every-replicate _ (length part) 0x20 blank_valid;
}

pub closed_up_keeps : KeepsPart closed_up
unfolding closed_up
closed_up_keeps = record {
  size = λ part some. simp (length-append, length-drop) (omega arith);
  valid = λ part p. every_append _ (drop 1 part) (0x20 ∷ []) (every_drop _ 1 part p) (every-replicate _ 1 0x20 blank_valid);
}

pub moved_right_keeps : KeepsPart moved_right
unfolding moved_right
moved_right_keeps = record {
  size = λ part some. simp length-take (omega arith);
  valid = λ part p. every_append _ (0x20 ∷ []) (take (length part - 1) part) (every-replicate _ 1 0x20 blank_valid) (every_take _ (length part - 1) part p);
}

pub part_same_size : (page : Page) {change : List ℕ → List ℕ} → KeepsPart change → (from to : ℕ) → from < to → to ≤ length page.characters → SameSize page (part_stored change from to page)
unfolding tagged
part_same_size page {change} keeps from to some fits =
    record { characters = length-on_part from to change page.characters some keeps.size fits; marks = length-each _ _ _ }

-- A valid page stays valid.
module _ (page : Page) (valid : valid_page page ≡ true) where
  characters_valid : every valid_character page.characters ≡ true
  unfolding valid_page
  characters_valid = (both valid).0

  marks_valid : every valid_mark page.marks ≡ true
  unfolding valid_page
  marks_valid = (both valid).1

  pub text_keeps_valid : (cell character pen : ℕ) → valid_character character ≡ true → valid_mark pen ≡ true → valid_page (text_stored cell character pen page) ≡ true
  unfolding valid_page text_stored
  text_keeps_valid cell character pen p q = both_hold _ _ (every_set _ _ cell character p characters_valid) (every_set _ _ cell pen q marks_valid)

  pub typed_keeps_valid : (cell character : ℕ) → cell < length page.marks → valid_character character ≡ true → valid_page (typed cell character page) ≡ true
  unfolding valid_page typed
  typed_keeps_valid cell character here p =
      let mark = get_or page.marks cell 0 in
      both_hold _ _
      (every_set _ _ cell character p characters_valid)
      (every_set _ _ cell (with_modified mark) (modified_valid mark (passes _ _ marks_valid cell here)) marks_valid)

  pub erased_keeps_valid : (mode : Bool) (from to : ℕ) → valid_page (erased mode from to page) ≡ true
  unfolding valid_page erased
  erased_keeps_valid mode from to =
      both_hold _ _
      (every-each _ _ 0 _ (λ cell x p. either_line (λ y. valid_character y ≡ true) _ _ _ (λ _. blank_valid) (λ _. p)) characters_valid)
      (every-each _ _ 0 _ (λ cell x p. either_line (λ y. valid_mark y ≡ true) _ _ _ (λ _. no_mark_valid) (λ _. p)) marks_valid)

  pub scrolled_up_keeps_valid : (columns : ℕ) → valid_page (scrolled_up columns page) ≡ true
  unfolding valid_page scrolled_up
  scrolled_up_keeps_valid columns =
      both_hold _ _
      (every_append _ (drop columns page.characters) _ (every_drop _ columns _ characters_valid) (every-replicate _ columns 0x20 blank_valid))
      (every_append _ (drop columns page.marks) _ (every_drop _ columns _ marks_valid) (every-replicate _ columns 0 no_mark_valid))

  pub scrolled_down_keeps_valid : (columns : ℕ) → valid_page (scrolled_down columns page) ≡ true
  unfolding valid_page scrolled_down
  scrolled_down_keeps_valid columns =
      both_hold _ _
      (every_append _ (replicate columns 0x20) _ (every-replicate _ columns 0x20 blank_valid) (every_take _ (cells page - columns) _ characters_valid))
      (every_append _ (replicate columns 0) _ (every-replicate _ columns 0 no_mark_valid) (every_take _ (cells page - columns) _ marks_valid))

  pub part_keeps_valid : {change : List ℕ → List ℕ} → KeepsPart change → (from to : ℕ) → valid_page (part_stored change from to page) ≡ true
  unfolding valid_page tagged
  part_keeps_valid {change} keeps from to =
      both_hold _ _
      (every-on_part _ from to change page.characters keeps.valid characters_valid)
      (every-each _ _ 0 _ (λ cell x p. either_line (λ y. valid_mark y ≡ true) _ _ _ (λ _. modified_valid x p) (λ _. p)) marks_valid)

  pub cleared_keeps_valid : valid_page (page_of page.characters (modified_cleared page.marks)) ≡ true
  unfolding valid_page modified_cleared
  cleared_keeps_valid = both_hold _ _ characters_valid (every-each _ _ 0 _ (λ cell x p. sent_valid x p) marks_valid)
