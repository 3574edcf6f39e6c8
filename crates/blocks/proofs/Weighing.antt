-- The length of a full block, cell by cell.
use mathlib.Core.Path.{◌≡◌, refl, ap}
use mathlib.Core.Bool.{Bool, true}
use mathlib.Core.List.{List, [], ◌∷◌, map, flat_map, Memᴰ}
use Prim.Native.Nat.{ℕ, zero, suc, ◌+◌, ◌<◌, ◌≤◌}
use native.Mathlib.Omega.{arith}
use lib.ListN.{length, length-append, length-take, length-drop}
use Rattle.words.specs.Choice.{If◌then◌else◌}
use Rattle.words.specs.Lists.{numbers_from, selected}
use Rattle.words.proofs.Elements.{run_length}
use Rattle.words.proofs.Choosing.{either_line, either_way}
use Rattle.page.specs.Marks.{unprotected}
use Rattle.page.specs.Page.{Page, cells}
use Rattle.places.specs.Places.{place_of}
use Rattle.fields.specs.Fields.{starts_field, Field, fields_from, fields_of}
use Rattle.output.specs.Decimal.{decimal, place_bytes}
use Rattle.blocks.specs.Blocks.{Entry, entry_bytes, encode, entry_of, is_in_block, entries_sent, block}
use Rattle.blocks.proofs.Claims.{fields_on}
use Rattle.blocks.proofs.Listing.{listed, field_bounds, cells_of, unprotected-cells}
use Rattle.blocks.proofs.Pages.{all_sent}

-- What f gives at the n places from i on, added up.
unfoldable pub total : (ℕ → ℕ) → ℕ → ℕ → ℕ
total f i zero = 0
total f i (suc n) = f i + total f (i + 1) n

total_sum : (f g : ℕ → ℕ) (i n : ℕ) → total (λ k. f k + g k) i n ≡ total f i n + total g i n
unfolding total
total_sum f g i zero = refl
total_sum f g i (suc n) = omega (arith, total_sum f g (i + 1) n)

pub total-append : (f : ℕ → ℕ) (i n m : ℕ) → total f i (n + m) ≡ total f i n + total f (i + n) m
unfolding total
total-append f i zero m = let p : 0 + m ≡ m = omega arith in let q : i + 0 ≡ i = omega arith in rw (p, q) (omega arith)
total-append f i (suc n) m =
    let p : suc n + m ≡ suc (n + m) = omega arith in
    let q : i + suc n ≡ i + 1 + n = omega arith in
    rw (p, q, total-append f (i + 1) n m) (omega arith)

pub total_same : (f g : ℕ → ℕ) (i n : ℕ) → ((k : ℕ) → i ≤ k → k < i + n → f k ≡ g k) → total f i n ≡ total g i n
unfolding total
total_same f g i zero h = refl
total_same f g i (suc n) h = rw (h i (omega arith) (omega arith), total_same f g (i + 1) n (λ k l m. h k (omega arith) (omega arith)))

-- The bytes in front of the characters of a field that starts at the cell.
unfoldable pub opening : ℕ → ℕ → ℕ
opening columns cell = 4 + length (decimal (place_of columns cell).row) + length (decimal (place_of columns cell).column)

-- What a cell adds to a full block.
unfoldable pub weight : (ℕ → Bool) → ℕ → ℕ → ℕ
weight is_unprotected columns cell = (If starts_field is_unprotected cell then opening columns cell else 0) + (If is_unprotected cell then 1 else 0)

-- The length of the entries of a list of fields: what their starts need, and a byte for each cell.
openings : ℕ → List Field → ℕ
openings columns [] = 0
openings columns (field ∷ later) = opening columns field.start + openings columns later

entry_length : (columns : ℕ) (characters : List ℕ) (field : Field) → field.start + field.length ≤ length characters
    → length (entry_bytes (entry_of columns characters field)) ≡ opening columns field.start + field.length
unfolding entry_bytes place_bytes entry_of opening
entry_length columns characters field h = simp (length-append, length-take, length-drop) (omega arith)

encode-length : (columns : ℕ) (characters : List ℕ) (fields : List Field) → ((field : Field) → Memᴰ field fields → field.start + field.length ≤ length characters)
    → length (encode (map (entry_of columns characters) fields)) ≡ 1 + openings columns fields + length (flat_map cells_of fields)
unfolding encode openings flat_map cells_of
encode-length columns characters [] h = refl
encode-length columns characters (field ∷ fields) h =
    omega (
      arith,
      length-append (entry_bytes (entry_of columns characters field)) (encode (map (entry_of columns characters) fields)),
      entry_length columns characters field (h field (Memᴰ.head refl)),
      encode-length columns characters fields (λ f m. h f (Memᴰ.tail m)),
      length-append (numbers_from (λ _. true) field.start field.length) (flat_map cells_of fields),
      run_length field.start field.length,
    )

openings_total : (is_unprotected : ℕ → Bool) (columns cells n cell : ℕ) → openings columns (fields_from is_unprotected cells cell n) ≡ total (λ k. If starts_field is_unprotected k then opening columns k else 0) cell n
unfolding openings fields_from total If◌then◌else◌
openings_total is_unprotected columns cells zero cell = refl
openings_total is_unprotected columns cells (suc n) cell =
    let later = openings_total is_unprotected columns cells n (cell + 1) in
    either_way (starts_field is_unprotected cell) (λ s. rw s (omega arith)) (λ s. rw s (omega arith))

places_total : (is_unprotected : ℕ → Bool) (n i : ℕ) → length (numbers_from is_unprotected i n) ≡ total (λ k. If is_unprotected k then 1 else 0) i n
unfolding numbers_from total If◌then◌else◌
places_total is_unprotected zero i = refl
places_total is_unprotected (suc n) i =
    let later = places_total is_unprotected n (i + 1) in
    either_way (is_unprotected i) (λ f. rw f (omega arith)) (λ f. rw f (omega arith))

fewer_no_longer : (entry : Field → Entry) (chosen : Field → Bool) (fields : List Field) → length (encode (map entry (selected chosen fields))) ≤ length (encode (map entry fields))
unfolding encode selected
fewer_no_longer entry chosen [] = omega arith
fewer_no_longer entry chosen (field ∷ fields) =
    let later = fewer_no_longer entry chosen fields in
    let first = length-append (entry_bytes (entry field)) in
    either_line (λ (l : List Field). length (encode (map entry l)) ≤ length (encode (map entry (field ∷ fields)))) (chosen field) _ _
    (λ _. omega (arith, first (encode (map entry (selected chosen fields))), first (encode (map entry fields))))
    (λ _. omega (arith, first (encode (map entry fields))))

pub block-length : (columns : ℕ) (page : Page) → length (block true columns page) ≡ 1 + total (weight (unprotected page.marks) columns) 0 (cells page)
unfolding block weight fields_of
block-length columns page =
    let is_unprotected = unprotected page.marks in
    omega (
      arith,
      ap (λ (entries : List Entry). length (encode entries)) (all_sent columns page),
      encode-length columns page.characters (fields_on page) (λ field m. omega (arith, field_bounds _ _ field (listed _ _ field m))),
      openings_total is_unprotected columns (cells page) (cells page) 0,
      ap length (unprotected-cells is_unprotected (cells page)),
      places_total is_unprotected (cells page) 0,
      total_sum (λ k. If starts_field is_unprotected k then opening columns k else 0) (λ k. If is_unprotected k then 1 else 0) 0 (cells page),
    )

-- No block is longer than the full one.
pub no_longer : (full : Bool) (columns : ℕ) (page : Page) → length (block full columns page) ≤ length (block true columns page)
unfolding block entries_sent
no_longer full columns page = rw (all_sent columns page) (fewer_no_longer (entry_of columns page.characters) (is_in_block full page.marks) (fields_on page))
