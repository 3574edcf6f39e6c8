-- Wrong answers and refusals are caught by demand 1, states out of range by validity through calls.
use mathlib.Core.Path.{◌≡◌, refl, sym, ap, ◌∙◌}
use mathlib.Core.Bool.{true, false}
use mathlib.Core.List.{List, [], ◌∷◌}
use Prim.Native.Nat.{ℕ}
use Prim.Native.Char.{code}
use native.Mathlib.Omega.{arith}
use borrow.Author.Tests.{eqb-false}
use lib.ListN.{length, get_or}
use Rattle.words.proofs.Choosing.{true_is_not_false}
use Rattle.words.specs.Lists.{each_from}
use Rattle.page.specs.Page.{Page, page_of, mark_after_block, modified_cleared}
use Rattle.blocks.specs.Blocks.{block}
use Rattle.state.specs.declared.Size.{Size}
use Rattle.state.specs.State.{with_locks}
use Rattle.steps.specs.Steps.{Terminal, with_state, Valid}
use Rattle.terminal.specs.Runs.{after}
use Rattle.terminal.specs.Calls.{host_call, key_call}
use Rattle.terminal.specs.declared.Answer.TheVariants.{NoRoom}
use Rattle.terminal.specs.Answers.{number_of, unchanged}
use Rattle.terminal.proofs.Deciding.{key_no_room}
use Rattle.terminal.proofs.Exceeding.{line_3_done}
use Rattle.words.specs.Text.{bytes}
use Rattle.promises.specs.Rules.{our_rules, byte_steps}
use Rattle.promises.specs.Entries.{Entries, read, key_press}
use Rattle.promises.specs.Demands.{Numbers, Refusals}
use Rattle.promises.specs.Further.{StaysValid}
use Rattle.wrong.specs.Entries.{always_refuses, locked_before_unknown, blanks_refused_start, clears_tags_refused, loses_sequence_on3, leaves_row0, sets_message5, leaves_byte}
use Rattle.promises.proofs.Theorems.{demand_1}
use Rattle.promises.proofs.Sheets.{sheet, at, sheet_block}
use Rattle.promises.proofs.Computing.{tests, validity, block_bytes, host_steps, key_steps, calls, streams}

-- The number of a call is one alone: a terminal that keeps the promise gives those of ours.
module _ (entries : Entries) (kept : Numbers our_rules entries) where
  host_number : (t : Terminal) (bytes output : List ℕ) → (entries.host t bytes output).number ≡ (host_call t bytes output).number
  host_number t bytes output = sym ((demand_1.numbers.of_host t bytes output _).1 ((kept.of_host t bytes output _).0 refl))

  key_number : (t : Terminal) (key : ℕ) (output : List ℕ) → (entries.key t key output).number ≡ (key_call t key output).number
  key_number t key output = sym ((demand_1.numbers.of_key t key output _).1 ((kept.of_key t key output _).0 refl))

-- A field of one cell, modified, with the cursor on it; and the same terminal under the soft lock.
abbrev pub one_field : Terminal
one_field = at 1 (sheet (bytes "A    ") (2 ∷ 1 ∷ 1 ∷ 1 ∷ 1 ∷ []))

abbrev locked : Terminal
locked = with_state one_field (with_locks one_field.state (record { manual = false; soft = true; message = 1; byte = 0x42 }))

pub one_field_valid : Valid one_field
unfolding validity
one_field_valid = record { size = refl; state = refl; page = refl }

one_field_changed : block false 80 one_field.page ≡ bytes "\u{1b}[1;1fA\u{3}"
unfolding block_bytes
one_field_changed = sheet_block (bytes "A    ") (2 ∷ 1 ∷ 1 ∷ 1 ∷ 1 ∷ []) refl refl false ∙ refl

-- An empty host call is given 0, and not 6.
empty_done : (host_call one_field [] []).number ≡ 0
unfolding calls
empty_done = refl

pub always_refuses_breaks_numbers : Numbers our_rules always_refuses → ⊥
unfolding calls
always_refuses_breaks_numbers kept = eqb-false 6 0 refl (host_number always_refuses kept one_field [] [] ∙ empty_done)

-- Key 0 is unknown, and under a lock too.
unknown_locked : (key_call locked 0 []).number ≡ 4
unfolding calls key_steps
unknown_locked = refl

pub locked_before_unknown_breaks_numbers : Numbers our_rules locked_before_unknown → ⊥
unfolding calls key_steps
locked_before_unknown_breaks_numbers kept = eqb-false 5 4 refl (key_number locked_before_unknown kept locked 0 [] ∙ unknown_locked)

-- A page of one cell is of no listed size: a start is given 1, and hands the page back as it was.
abbrev pub tiny : Page
tiny = page_of (code "A" ∷ []) (0 ∷ [])

abbrev pub one_by_one : Size
one_by_one = record { rows = 1; columns = 1 }

pub blanks_refused_start_breaks_refusals : Refusals our_rules blanks_refused_start → ⊥
unfolding calls
blanks_refused_start_breaks_refusals kept =
    let left = (kept.of_start one_by_one tiny (eqb-false 1 0 refl)).terminal in
    eqb-false (code " ") (code "A") refl (ap (λ (t : Terminal). get_or t.page.characters 0 0) left)

-- 266 with no room at all is given 3, since the block has a byte at least; and the cell is modified still.
block_refused : key_call one_field 266 [] ≡ unchanged NoRoom one_field []
unfolding validity key_steps
block_refused =
    key_no_room one_field 266 []
    (record { valid = one_field_valid; known = refl; not_locked_out = refl; has_cell = refl; taken = refl; not_held_back = refl })
    (omega (arith, ap length one_field_changed))

pub clears_tags_refused_breaks_refusals : Refusals our_rules clears_tags_refused → ⊥
unfolding tests number_of unchanged modified_cleared each_from mark_after_block
clears_tags_refused_breaks_refusals kept =
    let left = ((rw block_refused at (kept.of_key one_field 266 [])) (eqb-false 3 0 refl)).terminal in
    eqb-false 0 2 refl (ap (λ (t : Terminal). get_or t.page.marks 0 0) left)

-- ESC [ 5 n with no room is given 3: its n isn't taken, and ESC [ 5 stays half read.
abbrev ask_ready : List ℕ
ask_ready = bytes "\u{1b}[5n"

pub loses_sequence_on3_breaks_refusals : Refusals our_rules loses_sequence_on3 → ⊥
unfolding calls host_steps streams
loses_sequence_on3_breaks_refusals kept =
    let stopped = kept.of_host_3 one_field ask_ready [] refl in
    let left = stopped.1.terminal ∙ ap (after one_field) (sym (line_3_done 0 (byte_steps our_rules one_field ask_ready) stopped.0)) in
    eqb-false 0 3 refl (ap (λ (t : Terminal). t.state.half.kind) left)

-- What calls leave of a valid terminal is valid.
pub leaves_row0_breaks_stays_valid : StaysValid leaves_row0 → ⊥
unfolding calls streams
leaves_row0_breaks_stays_valid kept =
    let off-page : false ≡ true = (kept.through_calls one_field one_field_valid (read [] [] ∷ [])).state in
    true_is_not_false (sym off-page)

pub sets_message5_breaks_stays_valid : StaysValid sets_message5 → ⊥
unfolding calls key_steps streams
sets_message5_breaks_stays_valid kept =
    let out_of_range : false ≡ true = (kept.through_calls one_field one_field_valid (key_press 259 [] ∷ [])).state in
    true_is_not_false (sym out_of_range)

-- 268 under the soft lock leaves a byte and no message.
pub leaves_byte_breaks_stays_valid : StaysValid leaves_byte → ⊥
unfolding calls key_steps streams
leaves_byte_breaks_stays_valid kept =
    let valid : Valid locked = record { size = refl; state = refl; page = refl } in
    let byte-alone : false ≡ true = (kept.through_calls locked valid (key_press 268 [] ∷ [])).state in
    true_is_not_false (sym byte-alone)
