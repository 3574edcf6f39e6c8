-- What a run of host bytes is made of: text that follows on text, and events that are light.
use mathlib.Core.Path.{◌≡◌, refl, sym, ap, ◌∙◌, subst}
use mathlib.Core.Bool.{true, false}
use mathlib.Core.List.{List, [], ◌∷◌}
use Prim.Native.Nat.{ℕ, zero, suc, ◌+◌, ◌-◌, ◌<◌, ◌≤◌}
use native.Mathlib.Numerals.{add-one}
use native.Mathlib.Omega.{arith}
use borrow.Author.Tests.{lt-ltb, le-ltb, leb-true, eq-eqb}
use lib.Dec.{ltb}
use lib.ListN.{length, drop, get_or, replicate, length-set, drop_of_length-le}
use lib.Seq.{drop-cons}
use Rattle.words.specs.Choice.{◌is◌to◌}
use Rattle.words.proofs.Choosing.{then_case, else_case, either_line, either_way, less_or_not, both}
use Rattle.words.proofs.Walking.{once_more}
use Rattle.sequence.specs.declared.HalfRead.{HalfRead}
use Rattle.sequence.specs.Record.{nothing_read, largest_argument, arguments_fit, valid_half_read}
use Rattle.sequence.specs.declared.Advanced.{Advanced}
use Rattle.sequence.specs.declared.Event.TheVariants.{Text}
use Rattle.sequence.specs.Reading.{ends, outside_sequence, advance_of}
use Rattle.sequence.proofs.Cases.{one_of_five}
use Rattle.sequence.proofs.Events.{Tells, event_tells}
use Rattle.sequence.proofs.Keeping.{eight_at_most}
use Rattle.page.specs.Page.{Page, text_stored}
use Rattle.state.specs.declared.State.{State}
use Rattle.places.specs.Places.{cell_at}
use Rattle.state.specs.State.{OnPage, with_cursor, cursor_at, with_half}
use Rattle.state.specs.Moves.{to_next_cell}
use Rattle.state.proofs.Keeping.{parts}
use Rattle.steps.specs.declared.Light.{Light}
use Rattle.steps.specs.declared.Light.TheVariants.{Cursor as Moved, Modes as Set, Refused}
use Rattle.steps.specs.Steps.{Terminal, silent, cursor_cell, Valid}
use Rattle.steps.specs.Light.{light_step}
use Rattle.commands.specs.Text.{text_step, text_length, after_text}
use Rattle.commands.specs.declared.texts.TextRun.{TextRun}
use Rattle.commands.specs.Host.{FinalInTable, event_step, host_step}
use Rattle.commands.proofs.Stepping.{host_is}
use Rattle.commands.proofs.Tables.{text_holds}

-- The step of a text byte.
module _ (byte : ℕ) (t : Terminal) where
  pub text_keeps_valid : Valid t → (byte is 0x20 to 0x7E) ≡ true → Valid (text_step byte t).terminal
  text_keeps_valid valid text = (text_holds ⊥ byte t valid byte text).host.sound.valid

  -- Of the state only the cursor changes.
  pub text_moves_cursor : (text_step byte t).terminal.state ≡ with_cursor t.state (text_step byte t).terminal.state.cursor
  unfolding text_step to_next_cell
  text_moves_cursor =
      let OnlyCursor : State → Type 0 = λ s. s ≡ with_cursor t.state s.cursor in
      either_line OnlyCursor _ _ _ (λ _. refl) (λ _. either_line OnlyCursor _ _ _ (λ _. refl) (λ _. refl))

  pub text_keeps_half : (text_step byte t).terminal.state.half ≡ t.state.half
  text_keeps_half = ap (λ (s : State). s.half) text_moves_cursor

  -- The page stays as long.
  pub text_keeps_characters : length (text_step byte t).terminal.page.characters ≡ length t.page.characters
  unfolding text_step text_stored
  text_keeps_characters = length-set t.page.characters (cursor_cell t.state) byte

  pub text_keeps_marks : length (text_step byte t).terminal.page.marks ≡ length t.page.marks
  unfolding text_step text_stored
  text_keeps_marks = length-set t.page.marks (cursor_cell t.state) t.state.modes.pen

  -- One cell is named, nothing is sent or refused, and protection may have changed.
  pub text_sends_nothing : (text_step byte t).transmission ≡ silent
  unfolding text_step
  text_sends_nothing = refl

  pub text_names_one : length (text_step byte t).cells ≡ 1
  unfolding text_step
  text_names_one = refl

  pub text_not_refused : (text_step byte t).was_refused ≡ false
  unfolding text_step
  text_not_refused = refl

-- A valid record in which nothing is half read has nothing in it: arguments that aren't reached are 0.
largest_none : (i : ℕ) → largest_argument i 0 ≡ 0
unfolding largest_argument
largest_none i = else_case {A = ℕ} (ltb i 0) 9999 0 (le-ltb i 0 (omega arith))

all_zero : (i : ℕ) (arguments : List ℕ) → arguments_fit 0 i arguments ≡ true → arguments ≡ replicate (length arguments) 0
unfolding arguments_fit
all_zero i [] fit = refl
all_zero i (argument ∷ rest) fit =
    let least = leb-true argument (largest_argument i 0) (both fit).0 in
    let none : argument ≡ 0 = omega (arith, least, largest_none i) in
    λ k. none k ∷ all_zero (i + 1) rest (both fit).1 k

nothing_half_read : (half : HalfRead) → length half.arguments ≡ 8 → valid_half_read half ≡ true → half.kind ≡ 0 → half ≡ nothing_read
nothing_half_read half eight valid kind =
    one_of_five half valid
    (λ k c f. absurd (omega arith))
    (λ s k l m f. absurd (omega arith))
    (λ s k c f. absurd (omega arith))
    (λ s k c f. absurd (omega arith))
    (λ whole k none fit.
    let zeros = all_zero 0 half.arguments fit ∙ ap (λ (n : ℕ). replicate {A = ℕ} n 0) eight in
    λ i. record { kind = kind i; arguments = zeros i; count = none i; spoilt = whole i })

-- Where nothing is half read, a byte that is text is text.
module _ (byte : ℕ) (t : Terminal) (text : (byte is 0x20 to 0x7E) ≡ true) where
  advanced_by_text : (half : HalfRead) → half.kind ≡ 0 → advance_of half byte ≡ ends (Text byte)
  unfolding advance_of outside_sequence
  advanced_by_text half kind = then_case _ _ _ (eq-eqb _ _ kind) ∙ then_case _ _ _ text

  pub text_is_host_step : Valid t → length t.state.half.arguments ≡ 8 → t.state.half.kind ≡ 0 → host_step byte t ≡ text_step byte t
  unfolding event_step
  text_is_host_step valid eight kind =
      let none = nothing_half_read t.state.half eight (parts t.state valid.state).half kind in
      host_is t byte (ends (Text byte)) t.state (sym (advanced_by_text t.state.half kind)) (λ i. with_half t.state (none i)) (Text byte) refl

-- Text that follows on text: a byte of it, one that isn't, and none.
module _ (bytes : List ℕ) (at : ℕ) where
  module _ (here : at < length bytes) where
    pub text_goes_on : (get_or bytes at 0 is 0x20 to 0x7E) ≡ true → (t : Terminal) → after_text (drop at bytes) t ≡ after_text (drop (at + 1) bytes) (text_step (get_or bytes at 0) t).terminal
    unfolding after_text
    text_goes_on text t = rw (add-one at, drop-cons bytes at 0 here) (then_case _ _ _ text)

    pub text_stops : (get_or bytes at 0 is 0x20 to 0x7E) ≡ false → (t : Terminal) → after_text (drop at bytes) t ≡ t
    unfolding after_text
    text_stops other t = rw (drop-cons bytes at 0 here) (else_case _ _ _ other)

    pub length_goes_on : (get_or bytes at 0 is 0x20 to 0x7E) ≡ true → text_length (drop at bytes) ≡ text_length (drop (at + 1) bytes) + 1
    unfolding text_length
    length_goes_on text = rw (add-one at, drop-cons bytes at 0 here) (then_case _ _ _ text)

    pub length_stops : (get_or bytes at 0 is 0x20 to 0x7E) ≡ false → text_length (drop at bytes) ≡ 0
    unfolding text_length
    length_stops other = rw (drop-cons bytes at 0 here) (else_case _ _ _ other)

  module _ (over : length bytes ≤ at) where
    pub text_ends : (t : Terminal) → after_text (drop at bytes) t ≡ t
    unfolding after_text
    text_ends t = rw (drop_of_length-le bytes over)

    pub length-ends : text_length (drop at bytes) ≡ 0
    unfolding text_length
    length-ends = rw (drop_of_length-le bytes over)

-- The run is no longer than the bytes.
pub length_fits : (bytes : List ℕ) → text_length bytes ≤ length bytes
unfolding text_length
length_fits [] = omega arith
length_fits (byte ∷ later) =
    let further = length_fits later in
    either_line (λ (n : ℕ). n ≤ suc (length later)) (byte is 0x20 to 0x7E) (text_length later + 1) 0 (λ _. omega (arith, further)) (λ _. omega arith)

pub run_goes_on : (bytes : List ℕ) (at : ℕ) → at < length bytes → (get_or bytes at 0 is 0x20 to 0x7E) ≡ true → at < at + text_length (drop at bytes)
run_goes_on bytes at here text = let some = length_goes_on bytes at here text in omega (arith, some)

-- It leaves the terminal valid, and nothing half read where nothing was.
pub after_text_valid : (bytes : List ℕ) (t : Terminal) → Valid t → Valid (after_text bytes t)
unfolding after_text
after_text_valid [] t valid = valid
after_text_valid (byte ∷ later) t valid =
    either_line Valid (byte is 0x20 to 0x7E) _ _ (λ text. after_text_valid later (text_step byte t).terminal (text_keeps_valid byte t valid text)) (λ _. valid)

pub after_text_half : (bytes : List ℕ) (t : Terminal) → (after_text bytes t).state.half ≡ t.state.half
unfolding after_text
after_text_half [] t = refl
after_text_half (byte ∷ later) t =
    either_line (λ (after : Terminal). after.state.half ≡ t.state.half) (byte is 0x20 to 0x7E) _ _
    (λ _. after_text_half later (text_step byte t).terminal ∙ text_keeps_half byte t)
    (λ _. refl)

-- Where nothing is half read, what the step of every text byte hands on, the whole run hands on.
module _ (bytes : List ℕ) (P : ℕ → Terminal → Type 0) where
  abbrev HandsOn : Type 0
  HandsOn =
      (at : ℕ) (t : Terminal) → at < length bytes → Valid t → host_step (get_or bytes at 0) t ≡ text_step (get_or bytes at 0) t → P at t → P (at + 1) (text_step (get_or bytes at 0) t).terminal

  none_left : (at : ℕ) (t : Terminal) → after_text (drop at bytes) t ≡ t → text_length (drop at bytes) ≡ 0 → P at t → P (at + text_length (drop at bytes)) (after_text (drop at bytes) t)
  none_left at t over none holds =
      let same : at + text_length (drop at bytes) ≡ at = omega (arith, none) in
      rw (same, over) holds

  along : HandsOn → (most at : ℕ) (t : Terminal) → length bytes ≤ at + most → Valid t → length t.state.half.arguments ≡ 8 → t.state.half.kind ≡ 0 → P at t → P (at + text_length (drop at bytes)) (after_text (drop at bytes) t)
  along step zero at t few valid eight kind holds =
      let over : length bytes ≤ at = omega (arith, few) in
      none_left at t (text_ends bytes at over t) (length-ends bytes at over) holds
  along step (suc most) at t few valid eight kind holds =
      less_or_not at (length bytes)
      (λ here. either_way (get_or bytes at 0 is 0x20 to 0x7E)
      (λ text.
      let byte = get_or bytes at 0 in
      let next = (text_step byte t).terminal in
      let fewer : length bytes ≤ at + 1 + most = omega (arith, few) in
      let half = text_keeps_half byte t in
      let one_more = length_goes_on bytes at here text in
      let same : at + text_length (drop at bytes) ≡ at + 1 + text_length (drop (at + 1) bytes) = omega (arith, one_more) in
      rw (same, text_goes_on bytes at here text t)
      (along step most (at + 1) next fewer (text_keeps_valid byte t valid text) (ap (λ (h : HalfRead). length h.arguments) half ∙ eight) (ap (λ (h : HalfRead). h.kind) half ∙ kind)
      (step at t here valid (text_is_host_step byte t text valid eight kind) holds)))
      (λ other. none_left at t (text_stops bytes at here other t) (length_stops bytes at here other) holds))
      (λ over. none_left at t (text_ends bytes at over t) (length-ends bytes at over) holds)

  pub along_text : HandsOn → (at : ℕ) (t : Terminal) → Valid t → length t.state.half.arguments ≡ 8 → t.state.half.kind ≡ 0 → P at t → P (at + text_length (drop at bytes)) (after_text (drop at bytes) t)
  along_text step at t valid eight kind holds = along step (length bytes) at t (omega arith) valid eight kind holds

-- A run of text, begun at one place and gone on to another: what is left of it does what all of it does.
pub record Going (bytes : List ℕ) (from : ℕ) (begun : Terminal) (at : ℕ) (t : Terminal) : Type 0 where
  pub valid : Valid t
  pub only_cursor : t.state ≡ with_cursor begun.state t.state.cursor
  pub characters : length t.page.characters ≡ length begun.page.characters
  pub marks : length t.page.marks ≡ length begun.page.marks
  pub left : after_text (drop from bytes) begun ≡ after_text (drop at bytes) t
  pub counted : from + text_length (drop from bytes) ≡ at + text_length (drop at bytes)

pub sets_out : (bytes : List ℕ) (from : ℕ) (t : Terminal) → Valid t → Going bytes from t from t
sets_out bytes from t valid = record { valid = valid; only_cursor = refl; characters = refl; marks = refl; left = refl; counted = refl }

module _ {bytes : List ℕ} {from : ℕ} {begun : Terminal} {at : ℕ} {t : Terminal} (going : Going bytes from begun at t) where
  -- The cursor's cell takes the byte, and the cursor goes on.
  is_text_step : (byte : ℕ) (next : State) (cell : ℕ) (page : Page) → next ≡ to_next_cell t.state → page ≡ text_stored cell byte t.state.modes.pen t.page → cell ≡ cursor_cell t.state → record { state = next; page = page } ≡ (text_step byte t).terminal
  unfolding text_step
  is_text_step byte next cell page moved stored found =
      λ i. record { state = moved i; page = (stored ∙ ap (λ (n : ℕ). text_stored n byte t.state.modes.pen t.page) found) i }

  pub goes_on : at < length bytes → (get_or bytes at 0 is 0x20 to 0x7E) ≡ true → (next : State) (cell : ℕ) (page : Page) → next ≡ to_next_cell t.state → page ≡ text_stored cell (get_or bytes at 0) t.state.modes.pen t.page → cell ≡ cursor_cell t.state → Going bytes from begun (at + 1) (record { state = next; page = page })
  goes_on here text next cell page moved stored found =
      let further = length_goes_on bytes at here text in
      let so_far = going.counted in
      rw (is_text_step (get_or bytes at 0) next cell page moved stored found) (record {
        valid = text_keeps_valid (get_or bytes at 0) t going.valid text;
        only_cursor = text_moves_cursor (get_or bytes at 0) t ∙ ap (λ (s : State). with_cursor s (text_step (get_or bytes at 0) t).terminal.state.cursor) going.only_cursor;
        characters = text_keeps_characters (get_or bytes at 0) t ∙ going.characters;
        marks = text_keeps_marks (get_or bytes at 0) t ∙ going.marks;
        left = going.left ∙ text_goes_on bytes at here text t;
        counted = omega (arith, further, so_far);
      })

  -- Nothing is left of it.
  abbrev Ran : TextRun → Type 0
  Ran run =
      (record { state = with_cursor begun.state run.cursor; page = t.page } ≡ after_text (drop from bytes) begun) ×
      (run.end ≡ from + text_length (drop from bytes))

  ran : after_text (drop at bytes) t ≡ t → text_length (drop at bytes) ≡ 0 → Ran (record { cursor = t.state.cursor; end = at })
  ran over none =
      let so_far = going.counted in
      ((λ i. record { state = sym going.only_cursor i; page = t.page }) ∙ sym (going.left ∙ over), omega (arith, none, so_far))

  pub stops_here : at < length bytes → (get_or bytes at 0 is 0x20 to 0x7E) ≡ false → Ran (record { cursor = t.state.cursor; end = at })
  stops_here here other = ran (text_stops bytes at here other t) (length_stops bytes at here other)

  pub ends_here : length bytes ≤ at → Ran (record { cursor = t.state.cursor; end = at })
  ends_here over = ran (text_ends bytes at over t) (length-ends bytes at over)

-- The next cell, counted along: in the row, in the next row, and round the page.
module _ (s : State) (row column : ℕ) where
  abbrev at_cursor : State
  at_cursor = with_cursor s (cursor_at row column)

  module _ (inside : column < s.size.columns) where
    pub next_in_row : with_cursor s (cursor_at row (column + 1)) ≡ to_next_cell at_cursor
    unfolding to_next_cell
    next_in_row = sym (then_case _ _ _ (lt-ltb column s.size.columns inside))

    pub cell_in_row : 1 ≤ column → cell_at s.size.columns row column + 1 ≡ cell_at s.size.columns row (column + 1)
    cell_in_row least = omega arith

  module _ (edge : s.size.columns ≤ column) where
    pub next_row : row < s.size.rows → with_cursor s (cursor_at (row + 1) 1) ≡ to_next_cell at_cursor
    unfolding to_next_cell
    next_row above = sym (else_case _ _ _ (le-ltb column s.size.columns edge) ∙ then_case _ _ _ (lt-ltb row s.size.rows above))

    pub cell_in_next_row : OnPage at_cursor → cell_at s.size.columns row column + 1 ≡ cell_at s.size.columns (row + 1) 1
    cell_in_next_row on_page =
        let row_before : row - 1 + 1 ≡ row = omega (arith, on_page.row_least) in
        let rows = rw row_before at (once_more (row - 1) s.size.columns) in
        let same : row + 1 - 1 ≡ row = omega arith in
        rw same (omega (arith, rows, on_page.column_least, on_page.column_most))

    pub round_the_page : s.size.rows ≤ row → with_cursor s (cursor_at 1 1) ≡ to_next_cell at_cursor
    unfolding to_next_cell
    round_the_page last = sym (else_case _ _ _ (le-ltb column s.size.columns edge) ∙ else_case _ _ _ (le-ltb row s.size.rows last))

-- What the functions for events ask of a byte's event: its final byte, and the count of the record before it.
pub final_in_table : (half : HalfRead) (byte : ℕ) (advanced : Advanced) → advanced ≡ advance_of half byte → FinalInTable advanced.event
unfolding Tells
final_in_table half byte advanced told final gives =
    let tells = subst (Tells half byte) (ap (λ (a : Advanced). a.event) (sym told) ∙ gives) (event_tells half byte) in
    (tells.0, tells.1)

pub eight_arguments : (t : Terminal) → Valid t → t.state.half.count ≤ 8
eight_arguments t valid = eight_at_most t.state.half (parts t.state valid.state).half

-- Whichever a light step is, it sends nothing, names no cell, and leaves protection.
module _ (t : Terminal) where
  pub light_sends_nothing : (light : Light) → (light_step light t).transmission ≡ silent
  unfolding light_step
  light_sends_nothing (Moved cursor) = refl
  light_sends_nothing (Set modes) = refl
  light_sends_nothing (Refused reason byte) = refl

  pub light_names_none : (light : Light) → (light_step light t).cells ≡ []
  unfolding light_step
  light_names_none (Moved cursor) = refl
  light_names_none (Set modes) = refl
  light_names_none (Refused reason byte) = refl

  pub light_protects_none : (light : Light) → (light_step light t).protection ≡ false
  unfolding light_step
  light_protects_none (Moved cursor) = refl
  light_protects_none (Set modes) = refl
  light_protects_none (Refused reason byte) = refl
