-- The words in which the theorems on blocks are stated.
use mathlib.Core.Path.{◌≡◌}
use mathlib.Core.Bool.{Bool, true, false, not}
use mathlib.Core.List.{List, [], ◌∷◌, ◌++◌}
use Prim.Native.Nat.{ℕ, ◌*◌, ◌%◌, ◌<◌, ◌≤◌}
use lib.Dec.{eqb}
use lib.ListN.{length, get_or, replicate}
use Rattle.words.specs.Choice.{If◌then◌else◌, ◌or◌}
use Rattle.words.specs.Lists.{every, each}
use Rattle.page.specs.Marks.{is_modified, valid_character, unprotected}
use Rattle.page.specs.Page.{Page, cells}
use Rattle.page.proofs.Keeping.{SameSize}
use Rattle.places.specs.Places.{place_of}
use Rattle.fields.specs.Fields.{Field, fields_of}
use Rattle.blocks.specs.Blocks.{entries_sent}
use Rattle.blocks.specs.Finding.{ends_report, ends_head}

-- A page of no more than 48 rows of no more than 160 columns, with characters 20 to 7E.
pub record Sendable (columns : ℕ) (page : Page) : Type 0 where
  pub some_columns : 0 < columns
  pub columns_fit : columns ≤ 160
  pub rows_fit : cells page ≤ 48 * columns
  pub characters_valid : every valid_character page.characters ≡ true

-- Marks for each cell.
abbrev pub Whole : Page → Type 0
Whole page = cells page ≡ length page.marks

-- The fields of a page.
abbrev pub fields_on : Page → List Field
fields_on page = fields_of (unprotected page.marks) (cells page)

-- Two pages of one size with the same unprotected cells.
pub record SameForm (p q : Page) : Type 0 where
  pub size : SameSize p q
  pub unprotected-cells : (k : ℕ) → k < length q.marks → unprotected p.marks k ≡ unprotected q.marks k

-- Two pages with the same fields, and in these the same characters.
pub record FilledAlike (columns : ℕ) (p q : Page) : Type 0 where
  pub entries : entries_sent true columns p ≡ entries_sent true columns q
  pub fields : fields_on p ≡ fields_on q
  pub form : SameForm p q
  pub characters : (k : ℕ) → k < cells q → unprotected q.marks k ≡ true → get_or p.characters k 0 ≡ get_or q.characters k 0

-- No unprotected cell of the page is modified.
abbrev pub NothingModified : Page → Type 0
NothingModified page = (k : ℕ) → k < cells page → unprotected page.marks k ≡ true → is_modified (get_or page.marks k 0) ≡ false

-- From the page p to the page q, each unprotected cell that is not modified on q has kept its character.
abbrev pub UnmodifiedKept : Page → Page → Type 0
UnmodifiedKept p q =
    (k : ℕ) → k < cells q → unprotected q.marks k ≡ true → is_modified (get_or q.marks k 0) ≡ false → get_or p.characters k 0 ≡ get_or q.characters k 0

-- A page of 20s on which just these cells are unprotected.
abbrev pub blank_form : (ℕ → Bool) → ℕ → Page
blank_form cell_unprotected cells =
    record {
      characters = replicate cells 0x20;
      marks = each (λ cell mark. If cell_unprotected cell then 0 else 1) (replicate cells 0);
    }

-- Of a page of 160 columns, the first cell and the even columns.
unfoldable pub first_and_even : ℕ → Bool
first_and_even cell = eqb cell 0 or eqb ((place_of 160 cell).column % 2) 0

-- A byte that ends no sequence.
unfoldable pub reads_on : ℕ → Bool
reads_on byte = not (ends_report byte or ends_head byte)

-- A report: ESC, bytes that end no sequence, then n or R.
pub record IsReport (bytes : List ℕ) : Type 0 where
  pub between : List ℕ
  pub final : ℕ
  pub whole : bytes ≡ 0x1B ∷ (between ++ (final ∷ []))
  pub between_reads_on : every reads_on between ≡ true
  pub final_ends : ends_report final ≡ true
