-- What the commands and keys of document 01 do to the lent characters and marks.
use Rattle.std.specs.Prelude.{Bool, List, [], ◌∷◌, ◌++◌, length, take, drop, get_or, set, replicate}
use Rattle.std.specs.Prelude.{◌≡◌, ℕ, ◌+◌, ◌-◌, eqb}
use Rattle.words.specs.Choice.{If◌then◌else◌, ◌and◌, ◌or◌}
use Rattle.words.specs.Lists.{within, every, all_from, some_from, each, numbers_from, on_part}
use Rattle.page.specs.declared.Attribute.{Attribute}
use Rattle.page.specs.declared.Attribute.TheVariants.{Required}
use Rattle.page.specs.Marks.{is_protected, with_modified, without_modified, valid_character, valid_mark}
use Rattle.page.specs.Marks.{has_attribute, takes, unprotected}

-- The two lent slices. A cell's number is its place in them, counted from 0.
pub record Page : Type 0 where
  pub characters : List ℕ
  pub marks : List ℕ

abbrev pub page_of : List ℕ → List ℕ → Page
page_of characters marks = record { characters = characters; marks = marks }

-- How many cells a page has. (A page that passes line 1 has as many marks.)
abbrev pub cells : Page → ℕ
cells page = length page.characters

-- "Numbers a call gives back", 2: every character and every mark is as it may be.
unfoldable pub valid_page : Page → Bool
valid_page page = every valid_character page.characters and every valid_mark page.marks

-- "Reading host bytes", text: the character, and for its marks the pen, which has no modified bit.
unfoldable pub text_stored : ℕ → ℕ → ℕ → Page → Page
text_stored cell character pen page =
    record { characters = set page.characters cell character; marks = set page.marks cell pen }

-- "Fields, keys and blocks", 32 to 126: the character; its cell keeps its marks and becomes modified.
unfoldable pub typed : ℕ → ℕ → Page → Page
typed cell character page =
    record {
      characters = set page.characters cell character;
      marks = set page.marks cell (with_modified (get_or page.marks cell 0));
    }

-- "Commands", erasing the cells from `from` to before `to`: only erasure mode lets it at protected ones.
unfoldable pub erasable : Bool → List ℕ → ℕ → Bool
erasable mode marks cell = mode or unprotected marks cell

unfoldable pub erased : Bool → ℕ → ℕ → Page → Page
erased mode from to page =
    let hit : ℕ → Bool = λ cell. within from to cell and erasable mode page.marks cell in
    record {
      characters = each (λ cell character. If hit cell then 0x20 else character) page.characters;
      marks = each (λ cell mark. If hit cell then 0 else mark) page.marks;
    }

unfoldable pub cells_erased : Bool → ℕ → ℕ → Page → List ℕ
cells_erased mode from to page = numbers_from (erasable mode page.marks) from (to - from)

-- What erasing left, and its count of the cells erased.
pub record HasErased (mode : Bool) (from to : ℕ) (before after : Page) (count : ℕ) : Type 0 where
  pub page : after ≡ erased mode from to before
  pub counted : count ≡ length (cells_erased mode from to before)

-- "Commands", a scroll by a row of so many columns, up and down: a row of 20 with marks 0 comes in.
-- Protected cells move too.
unfoldable pub scrolled_up : ℕ → Page → Page
scrolled_up columns page =
    record {
      characters = drop columns page.characters ++ replicate columns 0x20;
      marks = drop columns page.marks ++ replicate columns 0;
    }

unfoldable pub scrolled_down : ℕ → Page → Page
scrolled_down columns page =
    record {
      characters = replicate columns 0x20 ++ take (cells page - columns) page.characters;
      marks = replicate columns 0 ++ take (cells page - columns) page.marks;
    }

-- "Fields, keys and blocks", 263 to 265: each cell stored, from `from` to before `to`, becomes modified.
unfoldable pub tagged : ℕ → ℕ → List ℕ → List ℕ
tagged from to marks = each (λ cell mark. If within from to cell then with_modified mark else mark) marks

-- 263: the part becomes 20s.
unfoldable pub blanked : List ℕ → List ℕ
blanked part = replicate (length part) 0x20

-- 264: the part closes up, with a 20 at its end.
unfoldable pub closed_up : List ℕ → List ℕ
closed_up part = drop 1 part ++ (0x20 ∷ [])

-- 265: a 20, the rest moves right, and the last character is lost.
unfoldable pub moved_right : List ℕ → List ℕ
moved_right part = 0x20 ∷ take (length part - 1) part

-- One of these three on the part of the characters from `from` to before `to`, and these cells modified.
abbrev pub part_stored : (List ℕ → List ℕ) → ℕ → ℕ → Page → Page
part_stored change from to page =
    record { characters = on_part from to change page.characters; marks = tagged from to page.marks }

-- M-103, 264: whether each of n cells, from `cell` on, takes the character on its right.
unfoldable pub takes_from_right : Page → ℕ → ℕ → Bool
takes_from_right page cell n =
    all_from (λ here. takes (get_or page.marks here 0) (get_or page.characters (here + 1) 0)) cell n

-- 265: whether each of n characters, from that of `cell` on, is taken by the cell on its right.
unfoldable pub takes_from_left : Page → ℕ → ℕ → Bool
takes_from_left page cell n =
    all_from (λ here. takes (get_or page.marks (here + 1) 0) (get_or page.characters here 0)) cell n

-- Whether one of the n cells from `cell` on has an attribute; M-107: whether one is required, and whether they hold
-- nothing but 20s.
abbrev pub some_have : Attribute → List ℕ → ℕ → ℕ → Bool
some_have attribute marks = some_from (λ cell. has_attribute attribute (get_or marks cell 0))

abbrev pub some_required : List ℕ → ℕ → ℕ → Bool
some_required = some_have Required

abbrev pub all_blank : List ℕ → ℕ → ℕ → Bool
all_blank characters = all_from (λ cell. eqb (get_or characters cell 0) 0x20)

-- What a block that was sent leaves of the marks.
unfoldable pub mark_after_block : ℕ → ℕ
mark_after_block mark =
    If is_protected mark then mark
    else without_modified mark

unfoldable pub modified_cleared : List ℕ → List ℕ
modified_cleared marks = each (λ cell mark. mark_after_block mark) marks
