-- What is proved of blocks. The words are in Claims, the proofs in the other files of this folder.
use mathlib.Core.Path.{◌≡◌}
use mathlib.Core.Bool.{Bool, true, false}
use mathlib.Core.List.{List, [], ◌∷◌, ◌++◌}
use Prim.Native.Nat.{ℕ, ◌*◌, ◌≤◌}
use lib.ListN.{length}
use Rattle.words.specs.Lists.{every}
use Rattle.page.specs.Page.{Page, cells}
use Rattle.blocks.specs.Blocks.{Entry, encode, entries_sent, block}
use Rattle.blocks.specs.Decode.{decode, valid_entry}
use Rattle.blocks.specs.Lay.{lay}
use Rattle.blocks.specs.Finding.{blocks_in}
use Rattle.page.proofs.Keeping.{SameSize}
use Rattle.blocks.proofs.Claims.{Sendable, Whole, IsReport, SameForm, FilledAlike, NothingModified, UnmodifiedKept, blank_form, first_and_even}
use Rattle.blocks.proofs.Decoding
use Rattle.blocks.proofs.Pages
use Rattle.blocks.proofs.Recovering
use Rattle.blocks.proofs.Laying
use Rattle.blocks.proofs.Bound
use Rattle.blocks.proofs.Finding

-- A block read back gives its entries.
pub entries_read_back : (entries : List Entry) → every valid_entry entries ≡ true → decode (encode entries) ≡ entries
entries_read_back = Decoding.decode-encode

-- A page's block read back gives the entries that it sent.
pub block_read_back : (columns : ℕ) (page : Page) → Sendable columns page → (full : Bool) → decode (block full columns page) ≡ entries_sent full columns page
block_read_back = Pages.decode-block

-- From the bytes of a stream alone, a host finds a page's block, whatever comes after it, and passes a report by.
pub page_block_found : (columns : ℕ) (page : Page) → Sendable columns page → (full : Bool) (later : List ℕ) → blocks_in (block full columns page ++ later) ≡ block full columns page ∷ blocks_in later
page_block_found = Finding.page_block_found

pub report_passed : (bytes later : List ℕ) → IsReport bytes → blocks_in (bytes ++ later) ≡ blocks_in later
report_passed = Finding.report_passed

-- Two pages of one size with equal full blocks have the same fields, the same unprotected cells,
-- and in these the same characters.
pub equal_blocks : (columns : ℕ) (p q : Page) → SameSize p q → Whole p → Sendable columns p → Sendable columns q → block true columns p ≡ block true columns q → FilledAlike columns p q
equal_blocks = Recovering.equal_blocks

-- The copy of a form is its full block. A changed block laid over it makes it the copy of what is there now,
pub copy_changed : (columns : ℕ) (p q : Page) → Sendable columns p → Sendable columns q → SameForm p q → UnmodifiedKept p q → lay (block false columns q) (block true columns p) ≡ block true columns q
copy_changed = Laying.changed_laid

-- and so does a full block, whatever has changed.
pub copy_replaced : (columns : ℕ) (p q : Page) → Sendable columns p → Sendable columns q → SameForm p q → lay (block true columns q) (block true columns p) ≡ block true columns q
copy_replaced = Laying.full_laid

-- With no unprotected cell modified, a changed block is 03 alone.
pub nothing_modified : (columns : ℕ) (page : Page) → NothingModified page → block false columns page ≡ 0x03 ∷ []
nothing_modified = Pages.nothing_sent

-- No block of a page of up to 48 rows and 160 columns has more than 35,138 bytes,
pub longest_block : (full : Bool) (rows columns : ℕ) (page : Page) → rows ≤ 48 → columns ≤ 160 → cells page ≡ rows * columns → length (block full columns page) ≤ 35138
longest_block = Bound.bounded

-- and one has as many: 48 rows of a field in each even column, the first of which begins in column 1.
pub longest_reached : length (block true 160 (blank_form first_and_even (48 * 160))) ≡ 35138
longest_reached = Bound.reached
