-- A block of the sender's fields: each entry puts the cursor at its field and fills it; 03 does nothing.
use mathlib.Core.Path.{◌≡◌, refl, sym, ap, ◌∙◌, subst}
use mathlib.Core.List.Memᴰ
use mathlib.Core.List.{List, [], ◌∷◌, map, Memᴰ}
use mathlib.Core.Logic.{inl, inr, ⊎_elim}
use Prim.Native.Nat.{ℕ, ◌+◌, ◌-◌, ◌*◌, ◌/◌, ◌%◌, ◌<◌, ◌≤◌}
use native.Mathlib.Omega.{arith}
use Rattle.words.specs.Choice.{If◌then◌else◌, ◌and◌, ◌or◌, ◌is◌to◌}
use Rattle.sequence.specs.declared.HalfRead.{HalfRead}
use Rattle.sequence.specs.declared.Event.TheVariants.{Nothing}
use Rattle.sequence.specs.Record.{nothing_read}
use Rattle.sequence.specs.Reading.{ends, is_control, outside_sequence, advance_of}
use Rattle.page.specs.Marks.{unprotected}
use Rattle.page.specs.Page.{cells}
use Rattle.places.specs.declared.Place.{Place}
use Rattle.places.specs.Places.{place_of, cell_at}
use Rattle.places.proofs.Counting.{spelt, on_rows}
use Rattle.fields.specs.Fields.{Field}
use Rattle.fields.proofs.Claims.{IsField, ◌has◌}
use Rattle.blocks.specs.Blocks.{head_bytes, entry_bytes, entry_of, encode}
use Rattle.state.specs.declared.Size.{Size}
use Rattle.steps.specs.Steps.{Terminal, Valid}
use Rattle.commands.specs.Host.{event_step}
use Rattle.steps.proofs.Measuring.{measured}
use Rattle.promises.proofs.FeedingRuns.{reading, step_is, Leads, arrived, leads_on}
use Rattle.promises.proofs.FeedingPlace.{placed_at, place_leads}
use Rattle.promises.proofs.FeedingCells.{Ready, Feeds, ready_again, feeds_none, feeds_then}
use Rattle.promises.proofs.FeedingText.{text_feeds}

-- 03 outside a sequence.
last_event : advance_of nothing_read 0x03 ≡ ends Nothing
unfolding advance_of outside_sequence is_control If◌then◌else◌ ◌or◌ ◌is◌to◌ ◌and◌
last_event = refl

last_leads : (t : Terminal) → t.state.half ≡ nothing_read → Leads t (0x03 ∷ []) (reading t nothing_read)
unfolding event_step
last_leads t nothing =
    leads_on 0x03 (step_is t 0x03 (ap (λ (half : HalfRead). advance_of half 0x03) nothing ∙ last_event) refl) refl refl (arrived refl)

-- A place's row and column are on the page, and they are the cell's.
record RightPlace (size : Size) (cell : ℕ) (place : Place) : Type 0 where
  some_row : 1 ≤ place.row
  row_fits : place.row ≤ size.rows
  some_column : 1 ≤ place.column
  column_fits : place.column ≤ size.columns
  cell_there : cell_at size.columns place.row place.column ≡ cell

right_place : (size : Size) (cell : ℕ) → 0 < size.columns → cell < size.rows * size.columns → RightPlace size cell (place_of size.columns cell)
unfolding place_of
right_place size cell some inside =
    let place = place_of size.columns cell in
    let now = spelt size.columns cell place.row place.column place.counted some in
    let fits = on_rows place size.rows some inside in
    let above : place.row - 1 ≡ cell / size.columns = omega arith in
    let left : place.column - 1 ≡ cell % size.columns = omega arith in
    record {
      some_row = omega arith;
      row_fits = fits.0;
      some_column = omega arith;
      column_fits = fits.1;
      cell_there = (λ i. above i * size.columns + left i) ∙ sym now.cell;
    }

module _ (sender : Terminal) (valid : Valid sender) where
  -- The head of an entry puts the cursor at its field's first cell.
  module _ (t : Terminal) (ready : Ready sender t) (cell : ℕ) (on_page : cell < cells sender.page) where
    abbrev here : Place
    here = place_of sender.state.size.columns cell

    abbrev there : Terminal
    there = placed_at t here.row here.column

    right : RightPlace t.state.size cell here
    right =
        let known = measured valid in
        subst (λ (size : Size). RightPlace size cell here) (sym ready.size)
        (right_place sender.state.size cell known.some_columns (omega (arith, known.all_cells, known.as_many)))

    head_feeds : Feeds sender t (head_bytes here.row here.column) there (λ _. ⊥)
    head_feeds =
        let sizes = (measured ready.valid).on_page in
        let leads =
        place_leads t here.row here.column right.some_row right.row_fits right.some_column right.column_fits
        (omega (arith, right.row_fits)) (omega (arith, right.column_fits)) in
        feeds_none leads refl refl refl (λ _ none. none)

  -- The sender's fields, and the cells that some of them have.
  abbrev pub SendersField : Field → Type 0
  SendersField field = IsField (unprotected sender.page.marks) (cells sender.page) field

  abbrev pub SomeHas : List Field → ℕ → Type 0
  SomeHas fields cell = (field : Field) × Memᴰ field fields × (field has cell)

  entry_feeds : (field : Field) → SendersField field → (t : Terminal) → Ready sender t
      → (end : Terminal) × Feeds sender t (entry_bytes (entry_of sender.state.size.columns sender.page.characters field)) end (λ cell. field has cell)
  unfolding entry_bytes entry_of
  entry_feeds field whole t ready =
      let on_page : field.start < cells sender.page = omega (arith, whole.on_page, whole.some-cells) in
      let head = head_feeds t ready field.start on_page in
      let text =
      text_feeds sender valid field.length field.start (there t ready field.start on_page) (ready_again ready head)
      (λ _. (right t ready field.start on_page).cell_there)
      whole.on_page in
      (text.0, feeds_then head text.1 (λ _ fed. inr fed) (λ _ none. absurd none) (λ _ fed. fed))

  pub fields_feed : (fields : List Field) → ((field : Field) → Memᴰ field fields → SendersField field) → (t : Terminal) → Ready sender t
      → (end : Terminal) × Feeds sender t (encode (map (entry_of sender.state.size.columns sender.page.characters) fields)) end (SomeHas fields)
  unfolding encode
  fields_feed [] fields t ready =
      (reading t nothing_read, feeds_none (last_leads t ready.nothing_half_read) refl refl refl (λ cell fed. Memᴰ.not-nil fed.1))
  fields_feed (field ∷ later) fields t ready =
      let one = entry_feeds field (fields field (Memᴰ.head refl)) t ready in
      let rest = fields_feed later (λ other m. fields other (Memᴰ.tail m)) one.0 (ready_again ready one.1) in (
        rest.0,
        feeds_then one.1 rest.1
            (λ cell fed. ⊎_elim (λ same. inl (subst (λ (f : Field). f has cell) same fed.2)) (λ m. inr (fed.0, m, fed.2)) (Memᴰ.cases_cons fed.1))
            (λ cell inside. (field, Memᴰ.head refl, inside))
            (λ cell fed. (fed.0, Memᴰ.tail fed.1, fed.2)),
      )
