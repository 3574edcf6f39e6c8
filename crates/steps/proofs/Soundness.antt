-- What holds of every step, of a host byte and of a key: each kind of step is sound, a change of the state alone, a
-- refusal, cells stored, a transmission sent.
use mathlib.Core.Path.{◌≡◌, refl, sym, ◌∙◌}
use mathlib.Core.Bool.{Bool, true, false}
use mathlib.Core.List.{List, []}
use Prim.Native.Nat.{ℕ, ◌+◌, ◌*◌, ◌-◌, ◌<◌, ◌≤◌}
use native.Mathlib.Nat.{mul-le-mul_right}
use native.Mathlib.Omega.{arith}
use borrow.Author.Tests.{eqb-true}
use lib.ListN.{length, get_or}
use Rattle.words.proofs.Choosing.{both}
use Rattle.words.proofs.Walking.{once_more}
use Rattle.words.proofs.Writing.{each_at}
use Rattle.page.specs.Page.{Page, page_of, valid_page, mark_after_block, modified_cleared}
use Rattle.page.proofs.Keeping.{SameSize, cleared_same_size, cleared_keeps_valid}
use Rattle.state.specs.declared.Size.{Size}
use Rattle.sequence.specs.declared.Reason.{Reason}
use Rattle.state.specs.declared.State.{State}
use Rattle.state.specs.State.{refused}
use Rattle.state.specs.Tests.{listed_size, size_fits}
use Rattle.state.proofs.Keeping.{KeepsValid, on_page, refused_keeps_valid}
use Rattle.steps.specs.Steps.{Terminal, Transmission, silent, report, Stepped, goes_to, stores, sends, refusing, cursor_cell, Valid}
use Rattle.steps.specs.Claims.{Rising, none, mark_left, TouchesOnly, KeepsProtection, KeepsText}
use Rattle.steps.proofs.Naming.{all_stay_protected, same_characters}
use Rattle.steps.proofs.Storing.{Stored}

-- All that is claimed of every step, from a terminal.
pub record Sound (t : Terminal) (step : Stepped) : Type 0 where
  pub valid : Valid step.terminal
  pub size : step.terminal.state.size ≡ t.state.size
  pub touches : TouchesOnly step.cells step.transmission t.page step.terminal.page
  pub once : Rising (length t.page.marks) 0 step.cells
  pub protection : step.protection ≡ false → KeepsProtection t.page step.terminal.page

-- A page of the size that the state says.
pub record Sized (size : Size) (page : Page) : Type 0 where
  pub listed : listed_size size ≡ true
  pub characters : length page.characters ≡ size.rows * size.columns
  pub marks : length page.marks ≡ size.rows * size.columns

pub sized : (size : Size) (page : Page) → size_fits size page ≡ true → Sized size page
unfolding size_fits
sized size page fits =
    let lengths = both (both fits).1 in
    record { listed = (both fits).0; characters = eqb-true _ _ lengths.0; marks = eqb-true _ _ lengths.1 }

pub still_fits : (size after : Size) (page stored : Page) → size_fits size page ≡ true → after ≡ size → SameSize page stored → size_fits after stored ≡ true
unfolding size_fits
still_fits size after page stored fits e same = rw (e, same.characters, same.marks) fits

sent_at : (marks : List ℕ) (cell : ℕ) → cell < length marks → get_or (modified_cleared marks) cell 0 ≡ mark_after_block (get_or marks cell 0)
unfolding modified_cleared
sent_at marks cell here = each_at (λ _ mark. mark_after_block mark) marks cell here

module _ (t : Terminal) (valid : Valid t) where
  -- The cursor's row and its cell are on the page.
  pub row_on_page : (t.state.cursor.row - 1) * t.state.size.columns + t.state.size.columns ≤ length t.page.marks
  row_on_page =
      let size = sized t.state.size t.page valid.size in
      let cursor = on_page t.state size.listed valid.state in
      let rows : (t.state.cursor.row - 1 + 1) * t.state.size.columns ≤ t.state.size.rows * t.state.size.columns = mul-le-mul_right t.state.size.columns (omega arith) in
      let last = once_more (t.state.cursor.row - 1) t.state.size.columns in
      omega arith

  pub cursor_on_page : cursor_cell t.state < length t.page.marks
  cursor_on_page =
      let size = sized t.state.size t.page valid.size in
      let cursor = on_page t.state size.listed valid.state in
      let row = row_on_page in
      omega arith

  same_size : SameSize t.page t.page
  same_size = record { characters = refl; marks = refl }

  stays_valid : (s : State) (page : Page) → KeepsValid t.state s → SameSize t.page page → valid_page page ≡ true → Valid (record { state = s; page = page })
  stays_valid s page keeps same p =
      record { size = still_fits t.state.size s.size t.page page valid.size keeps.size same; state = keeps.valid; page = p }

  untouched : (transmission : Transmission) → ((mark : ℕ) → mark_left transmission mark ≡ mark) → TouchesOnly [] transmission t.page t.page
  untouched transmission leaves cell here unnamed = record { character = refl; mark = sym (leaves _) }

  pub goes_soundly : (s : State) → KeepsValid t.state s → Sound t (goes_to s t)
  unfolding mark_left
  goes_soundly s keeps = record {
    valid = stays_valid s t.page keeps same_size valid.page;
    size = keeps.size;
    touches = untouched silent (λ mark. refl);
    once = none;
    protection = λ _ cell here. refl;
  }

  pub refuses_soundly : (reason : Reason) (byte : ℕ) → Sound t (refusing reason byte t)
  unfolding mark_left
  refuses_soundly reason byte = let keeps = refused_keeps_valid t.state valid.state reason byte in record {
    valid = stays_valid (refused reason byte t.state) t.page keeps same_size valid.page;
    size = keeps.size;
    touches = untouched silent (λ mark. refl);
    once = none;
    protection = λ _ cell here. refl;
  }

  pub stores_soundly : (cells : List ℕ) (unlocks : Bool) (s : State) (page : Page) → KeepsValid t.state s → Stored t.page cells unlocks page → Sound t (stores cells unlocks s page)
  stores_soundly cells unlocks s page keeps stored = record {
    valid = stays_valid s page keeps stored.size stored.valid;
    size = keeps.size;
    touches = stored.touches;
    once = stored.once;
    protection = stored.protection;
  }

  -- A transmission that leaves the marks, and one that clears modified.
  pub reports_soundly : (bytes : List ℕ) → Sound t (sends (report bytes) t.state t.page)
  unfolding mark_left
  reports_soundly bytes = record {
    valid = valid;
    size = refl;
    touches = untouched (report bytes) (λ mark. refl);
    once = none;
    protection = λ _ cell here. refl;
  }

  pub clears_soundly : (transmission : Transmission) → ((mark : ℕ) → mark_left transmission mark ≡ mark_after_block mark) → Sound t (sends transmission t.state (page_of t.page.characters (modified_cleared t.page.marks)))
  clears_soundly transmission leaves = record {
    valid = stays_valid t.state cleared (record { size = refl; valid = valid.state }) (cleared_same_size t.page) (cleared_keeps_valid t.page valid.page);
    size = refl;
    touches = touches;
    once = none;
    protection = λ _. all_stay_protected transmission t.page cleared touches;
  }
    where
      cleared : Page
      cleared = page_of t.page.characters (modified_cleared t.page.marks)

      touches : TouchesOnly [] transmission t.page cleared
      touches cell here unnamed = record { character = refl; mark = sent_at t.page.marks cell here ∙ sym (leaves _) }

-- A sound step that names no cell.
pub names_none : (t : Terminal) (step : Stepped) → Valid t → Sound t step → step.cells ≡ [] → KeepsText t.page step.terminal.page
names_none t step valid sound no_cell =
    let was = sized t.state.size t.page valid.size in
    let is = sized t.state.size step.terminal.page (rw sound.size at sound.valid.size) in
    let touches = rw no_cell at sound.touches in
    record {
      characters = same_characters step.transmission t.page step.terminal.page touches
          (record { characters = is.characters ∙ sym was.characters; marks = is.marks ∙ sym was.marks })
          (was.characters ∙ sym was.marks);
      protection = all_stay_protected step.transmission t.page step.terminal.page touches;
    }
