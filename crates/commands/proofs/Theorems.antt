-- What holds of the step of every host byte, from every valid terminal.
use mathlib.Core.Path.{◌≡◌, refl, ◌∙◌}
use mathlib.Core.Bool.{Bool, true, false}
use mathlib.Core.List.{List, [], Memᴰ}
use mathlib.Core.Logic.{◌↔◌}
use Prim.Native.Nat.{ℕ, ◌-◌, ◌*◌, ◌<◌, ◌≤◌}
use native.Mathlib.Omega.{arith}
use lib.Dec.{ltb}
use lib.ListN.{length}
use Rattle.words.specs.Choice.{If◌then◌else◌}
use Rattle.words.proofs.Elements.{place_passes, place_listed, run_length}
use Rattle.page.specs.Page.{Page, cells, erasable, cells_erased}
use Rattle.blocks.proofs.Claims.{IsReport}
use Rattle.sequence.specs.declared.Reason.{Reason}
use Rattle.state.specs.declared.State.{State}
use Rattle.state.specs.Moves.{to_margin}
use Rattle.steps.specs.Steps.{Terminal, Transmission, report, full_block, changed_block, Stepped, goes_to, sends, refusing, all_cells, Valid}
use Rattle.steps.specs.Claims.{Rising, TouchesOnly, KeepsProtection, KeepsText, Refusal, SendsBlock, counted}
use Rattle.steps.proofs.Naming.{named_between, places_rise}
use Rattle.steps.proofs.Soundness.{sized, names_none}
use Rattle.commands.specs.Text.{text_step, line_down, line_up, next_line}
use Rattle.commands.specs.Commands.{fresh_step, erasing}
use Rattle.commands.specs.Host.{host_step}
use Rattle.commands.proofs.Claims.{EndsEscS, Stores}
use Rattle.commands.proofs.Tables.{host_holds, host_refusal}

module _ (byte : ℕ) (t : Terminal) (valid : Valid t) where
  -- The terminal stays valid, and its size the same.
  pub step_keeps_valid : Valid (host_step byte t).terminal
  step_keeps_valid = (host_holds byte t valid).sound.valid

  pub step_keeps_size : (host_step byte t).terminal.state.size ≡ t.state.size
  step_keeps_size = (host_holds byte t valid).sound.size

  -- No character and no mark changes outside the cells named, but for modified where a block is sent.
  pub step_touches_only : TouchesOnly (host_step byte t).cells (host_step byte t).transmission t.page (host_step byte t).terminal.page
  step_touches_only = (host_holds byte t valid).sound.touches

  -- Each cell is named once, and is on the page.
  pub step_names_once : Rising (length t.page.marks) 0 (host_step byte t).cells
  step_names_once = (host_holds byte t valid).sound.once

  pub step_names_on_page : (cell : ℕ) → Memᴰ cell (host_step byte t).cells → cell < length t.page.marks
  step_names_on_page cell named = (named_between step_names_once cell named).1

  -- The cells named are none, the one of text, those erased, or all R x C; their counts stand below.
  pub step_stores : Stores t (host_step byte t).cells
  step_stores = (host_holds byte t valid).stored

  -- Where no cell is named, all characters stay, and all protection.
  pub step_names_none : (host_step byte t).cells ≡ [] → KeepsText t.page (host_step byte t).terminal.page
  step_names_none no_cell = names_none t (host_step byte t) valid (host_holds byte t valid).sound no_cell

  -- A refused command sets the soft lock, a reason's message and this byte; all else stays but the half-read record.
  pub step_refused : (host_step byte t).was_refused ≡ true → Refusal byte t (host_step byte t)
  step_refused was = host_refusal byte t valid was

  -- Only ESC S sends a full block, and it has all fields of the page; no byte sends a changed block.
  pub step_sends_full : (bytes : List ℕ) → (host_step byte t).transmission ≡ full_block bytes → SendsBlock true (EndsEscS t.state.half byte) t (host_step byte t) bytes
  step_sends_full bytes sent = (host_holds byte t valid).by_full_block bytes sent

  pub step_sends_no_changed : (bytes : List ℕ) → (host_step byte t).transmission ≡ changed_block bytes → ⊥
  step_sends_no_changed bytes sent = (host_holds byte t valid).no_changed_block bytes sent

  -- A report is ESC, bytes that end no sequence, then n or R, so that a host can tell it from a block.
  pub step_reports : (bytes : List ℕ) → (host_step byte t).transmission ≡ report bytes → IsReport bytes
  step_reports bytes sent = (host_holds byte t valid).is_report bytes sent

  -- Protection changes only where the step says so.
  pub step_keeps_protection : (host_step byte t).protection ≡ false → KeepsProtection t.page (host_step byte t).terminal.page
  step_keeps_protection same = (host_holds byte t valid).sound.protection same

-- The count of cells stored is the number of cells named, by the kinds of steps.
either_count : (test : Bool) (a b : Stepped) (m n : ℕ) → counted a ≡ m → counted b ≡ n → counted (If test then a else b) ≡ (If test then m else n)
unfolding If◌then◌else◌
either_count true a b m n p q = p
either_count false a b m n p q = q

module _ (t : Terminal) where
  -- 1 for text.
  pub text_count : (character : ℕ) → counted (text_step character t) ≡ 1
  unfolding text_step
  text_count character = refl

  -- Each cell erased, for J and K: those of the range, but with erasure mode reset no protected one.
  pub erasing_names : (from to : ℕ) → from ≤ to → (cell : ℕ) → Memᴰ cell (erasing from to t).cells ↔ ((from ≤ cell) × (cell < to) × (erasable t.state.modes.erasure t.page.marks cell ≡ true))
  unfolding erasing cells_erased
  erasing_names from to h cell =
      let test = erasable t.state.modes.erasure t.page.marks in (
        λ named.
            let between = named_between (places_rise test to from (to - from) (omega arith)) cell named in
            (between.0, between.1, place_passes test cell from (to - from) named),
        λ erased. place_listed test cell from (to - from) erased.0 (omega arith) erased.2,
      )

  -- R x C for a scroll, which is at the last row or at the first, and for ESC c.
  module _ (valid : Valid t) where
    page_count : length (all_cells t.page) ≡ t.state.size.rows * t.state.size.columns
    page_count = run_length 0 (cells t.page) ∙ (sized t.state.size t.page valid.size).characters

    pub line_down_count : counted (line_down t) ≡ (If ltb t.state.cursor.row t.state.size.rows then 0 else t.state.size.rows * t.state.size.columns)
    unfolding line_down
    line_down_count = either_count _ _ _ 0 _ refl page_count

    pub next_line_count : counted (next_line t) ≡ (If ltb t.state.cursor.row t.state.size.rows then 0 else t.state.size.rows * t.state.size.columns)
    unfolding next_line line_down to_margin
    next_line_count = either_count _ _ _ 0 _ refl page_count

    pub line_up_count : counted (line_up t) ≡ (If ltb 1 t.state.cursor.row then 0 else t.state.size.rows * t.state.size.columns)
    unfolding line_up
    line_up_count = either_count _ _ _ 0 _ refl page_count

    pub fresh_count : counted (fresh_step t) ≡ t.state.size.rows * t.state.size.columns
    unfolding fresh_step
    fresh_count = page_count

  -- 0 where the state alone changes, a command is refused or a transmission is sent.
  pub state_count : (s : State) → counted (goes_to s t) ≡ 0
  state_count s = refl

  pub refusal_count : (reason : Reason) (byte : ℕ) → counted (refusing reason byte t) ≡ 0
  refusal_count reason byte = refl

  pub transmission_count : (transmission : Transmission) (s : State) (page : Page) → counted (sends transmission s page) ≡ 0
  transmission_count transmission s page = refl
