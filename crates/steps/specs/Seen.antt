-- The page as it counts: fields, keys, blocks and promises ask what is seen of a terminal which cells are unprotected
-- or modified, and what they hold. What is stored goes into its page.
use Rattle.std.specs.Prelude.{Bool, List, ℕ, get_or}
use Rattle.page.specs.Marks.{is_modified, is_required, takes, unprotected}
use Rattle.page.specs.Page.{Page, cells}
use Rattle.places.specs.declared.Place.{Place}
use Rattle.places.specs.Places.{place_of}
use Rattle.std.specs.Prelude.{Option}
use Rattle.fields.specs.Fields.{Field, fields_of, field_start, field_end}
use Rattle.fields.specs.Searches.{next_field, previous_field, first_unprotected, next_unprotected}
use Rattle.blocks.specs.Blocks.{Entry, entry_of, block}
use Rattle.steps.specs.Steps.{Terminal, cursor_cell}

-- It is the page itself.
abbrev pub seen : Terminal → Page
seen t = t.page

-- How many cells it has, and the character of one.
abbrev pub cells_here : Terminal → ℕ
cells_here t = cells (seen t)

abbrev pub character_at : Terminal → ℕ → ℕ
character_at t cell = get_or (seen t).characters cell 0

-- Whether a cell is unprotected.
abbrev pub unprotected_at : Terminal → ℕ → Bool
unprotected_at t cell = unprotected (seen t).marks cell

-- Whether it is modified.
abbrev pub modified_at : Terminal → ℕ → Bool
modified_at t cell = is_modified (get_or (seen t).marks cell 0)

-- M-103: whether it takes a character that a key brings.
abbrev pub takes_at : Terminal → ℕ → ℕ → Bool
takes_at t cell character = takes (get_or (seen t).marks cell 0) character

-- M-107: whether it is required.
abbrev pub required_at : Terminal → ℕ → Bool
required_at t cell = is_required (get_or (seen t).marks cell 0)

-- The row and column of a cell.
abbrev pub place_here : Terminal → ℕ → Place
place_here t cell = place_of t.state.size.columns cell

-- The fields, in page order, and what a block says of one.
abbrev pub fields_here : Terminal → List Field
fields_here t = fields_of (unprotected_at t) (cells_here t)

abbrev pub entry_here : Terminal → Field → Entry
entry_here t field = entry_of t.state.size.columns (seen t).characters field

-- The first cell of the cursor's field, and the one after its last.
abbrev pub start_here : Terminal → ℕ
start_here t = field_start (unprotected_at t) (cursor_cell t.state)

abbrev pub end_here : Terminal → ℕ
end_here t = field_end (unprotected_at t) (cells_here t) (cursor_cell t.state)

-- Where keys look for a field or an unprotected cell, from the cursor's cell on.
abbrev pub next_field_here : Terminal → Option Place
next_field_here t = next_field t.state.size.columns (cursor_cell t.state) (fields_here t)

abbrev pub previous_field_here : Terminal → Option Place
previous_field_here t = previous_field t.state.size.columns (cursor_cell t.state) (fields_here t)

abbrev pub first_unprotected_here : Terminal → Option Place
first_unprotected_here t = first_unprotected (unprotected_at t) t.state.size.columns (cells_here t)

abbrev pub next_unprotected_here : Terminal → Option Place
next_unprotected_here t =
    next_unprotected (unprotected_at t) t.state.size.columns (cells_here t) (cursor_cell t.state)

-- The block of the page as it stands, full or changed.
abbrev pub block_here : Bool → Terminal → List ℕ
block_here full t = block full t.state.size.columns (seen t)
