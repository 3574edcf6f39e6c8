-- Document 01, "Fields, keys and blocks": the cells and fields that keys look for.
use Rattle.std.specs.Prelude.{Bool, List, [], ◌∷◌, ℕ, zero, suc, ◌+◌, ◌-◌, ltb}
use Rattle.words.specs.Choice.{If◌then◌else◌}
use Rattle.places.specs.Places.{place_of}
use Rattle.places.specs.declared.Place.{Place}
use Rattle.std.specs.Prelude.{Option, Some, None}
use Rattle.fields.specs.Fields.{Field}

-- What was found, or else the other.
unfoldable pub or_else : Option Place → Option Place → Option Place
or_else (Some place) other = Some place
or_else None other = other

-- Where a field starts.
abbrev pub start_of : ℕ → Field → Option Place
start_of columns field = Some (place_of columns field.start)

-- The first field of a list, and the last.
unfoldable pub first_field : ℕ → List Field → Option Place
first_field columns [] = None
first_field columns (field ∷ later) = start_of columns field

unfoldable pub last_field : ℕ → List Field → Option Place
last_field columns [] = None
last_field columns (field ∷ later) = or_else (last_field columns later) (start_of columns field)

-- The first field that starts after a cell, and the last that starts before it.
unfoldable pub first_after : ℕ → ℕ → List Field → Option Place
first_after columns cell [] = None
first_after columns cell (field ∷ later) =
    let further = first_after columns cell later in
    If ltb cell field.start then start_of columns field
    else further

unfoldable pub last_before : ℕ → ℕ → List Field → Option Place
last_before columns cell [] = None
last_before columns cell (field ∷ later) =
    let further = last_before columns cell later in
    If ltb field.start cell then or_else further (start_of columns field)
    else None

-- Keys 260 and 261.
unfoldable pub next_field : ℕ → ℕ → List Field → Option Place
next_field columns cell fields = or_else (first_after columns cell fields) (first_field columns fields)

unfoldable pub previous_field : ℕ → ℕ → List Field → Option Place
previous_field columns cell fields = or_else (last_before columns cell fields) (last_field columns fields)

-- The first of the n cells from `cell` on that is unprotected.
unfoldable pub first_unprotected_from : (ℕ → Bool) → ℕ → ℕ → ℕ → Option Place
first_unprotected_from unprotected columns cell zero = None
first_unprotected_from unprotected columns cell (suc n) =
    let further = first_unprotected_from unprotected columns (cell + 1) n in
    If unprotected cell then Some (place_of columns cell)
    else further

-- Key 262; and after a typed character: the next unprotected cell, going round the page.
unfoldable pub first_unprotected : (ℕ → Bool) → ℕ → ℕ → Option Place
first_unprotected unprotected columns cells = first_unprotected_from unprotected columns 0 cells

unfoldable pub next_unprotected : (ℕ → Bool) → ℕ → ℕ → ℕ → Option Place
next_unprotected unprotected columns cells cell =
    or_else (first_unprotected_from unprotected columns (cell + 1) (cells - (cell + 1)))
    (first_unprotected unprotected columns cells)
