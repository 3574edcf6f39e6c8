-- Send keys that look at too few fields, or at too few cells of one, are caught by Required; an ESC S that is held
-- back, by SendsBlocks.
use mathlib.Core.Path.{◌≡◌, refl, sym, ap, ◌∙◌, subst}
use mathlib.Core.Bool.{true, false}
use mathlib.Core.List.{List, [], ◌∷◌, ◌++◌, Memᴰ}
use Prim.Native.Nat.{ℕ}
use Prim.Native.Char.{code}
use native.Mathlib.Omega.{arith}
use borrow.Author.Tests.{eqb-false}
use lib.Dec.{eqb}
use lib.ListN.{take, get_or}
use Rattle.words.specs.Choice.{If◌then◌else◌, ◌and◌}
use Rattle.words.specs.Lists.{some}
use Rattle.words.specs.Text.{bytes}
use Rattle.words.proofs.Choosing.{true_is_not_false, then_case}
use Rattle.sequence.specs.Record.{esc_read}
use Rattle.page.specs.Marks.{is_required}
use Rattle.fields.specs.Fields.{Field}
use Rattle.fields.specs.Required.{is_left_blank, some_left_blank}
use Rattle.blocks.specs.Blocks.{block}
use Rattle.steps.specs.Steps.{Terminal, Stepped, silent, changed_block, block_transmission, goes_to, Valid}
use Rattle.steps.specs.Seen.{seen, fields_here, block_here}
use Rattle.keys.specs.Keys.{taken_step}
use Rattle.terminal.specs.declared.Answer.{Answer}
use Rattle.terminal.specs.declared.Answer.TheVariants.{NoRoom, RequiredBlank}
use Rattle.terminal.specs.Tests.{◌answers◌, exceeds_room, key_lines}
use Rattle.terminal.specs.Runs.{fitting}
use Rattle.terminal.specs.Answers.{gives}
use Rattle.terminal.specs.Lines.{HasRequired}
use Rattle.terminal.proofs.Firsts.{First, this, past, decided}
use Rattle.promises.specs.Rules.{byte}
use Rattle.promises.specs.Further.{Filled, Required, full_by_esc_s, SendsBlocks}
use Rattle.wrong.specs.Rules.{is_block, some_sent_blank, looks_at_what_it_sends, looks_at_what_it_sends_calls, required_blank, looks_at_required_cells, looks_at_required_cells_calls, holds_esc_sback}
use Rattle.promises.proofs.Sheets.{sheet, at, sheet_fields}
use Rattle.promises.proofs.Computing.{validity, block_bytes, blank_fields, key_steps, calls, streams}
use Rattle.wrong.proofs.WrongModes.{half_read}

-- A required field of one cell, blank and not modified; the one field of its page.
abbrev blank_field : Terminal
blank_field = at 1 (sheet (bytes "     ") (512 ∷ 1 ∷ 1 ∷ 1 ∷ 1 ∷ []))

abbrev first_cell : Field
first_cell = record { start = 0; length = 1 }

one_cell : fields_here blank_field ≡ first_cell ∷ []
unfolding block_bytes
one_cell = sheet_fields (bytes "     ") (512 ∷ 1 ∷ 1 ∷ 1 ∷ 1 ∷ []) refl refl ∙ refl

-- A changed block omits it, and is sent.
sends_without : (looks_at_what_it_sends.on_key 266 blank_field).transmission ≡ changed_block (block false 80 blank_field.page)
unfolding key_steps blank_fields block_bytes some_sent_blank
sends_without = ap (λ (fields : List Field). (If some_sent_blank blank_field fields then goes_to blank_field.state blank_field else taken_step 266 blank_field).transmission) one_cell

pub looks_at_what_it_sends_breaks_required : Required looks_at_what_it_sends looks_at_what_it_sends_calls → ⊥
unfolding block_transmission
looks_at_what_it_sends_breaks_required kept =
    let listed : Memᴰ first_cell (fields_here blank_field) = subst (Memᴰ first_cell) (sym one_cell) (mathlib.Core.List.Memᴰ.head refl) in
    let has : HasRequired blank_field first_cell = record { cell = 0; from_start = omega arith; before_end = omega arith; is_required = refl } in
    unfilled (kept.filled blank_field 266 false _ sends_without first_cell listed has)
  where
    at_0 : (filled : Filled blank_field first_cell) → filled.cell ≡ 0
    at_0 filled = omega (arith, filled.before_end)

    unfilled : Filled blank_field first_cell → ⊥
    unfilled filled = filled.not_20 (ap (λ (cell : ℕ). get_or blank_field.page.characters cell 0) (at_0 filled))

-- A field of two cells: the first is required and blank, the other holds a 5.
abbrev half_filled : Terminal
half_filled = at 1 (sheet (bytes " 5   ") (512 ∷ 0 ∷ 1 ∷ 1 ∷ 1 ∷ []))

abbrev two_cells : Field
two_cells = record { start = 0; length = 2 }

two_cells_lem : fields_here half_filled ≡ two_cells ∷ []
unfolding block_bytes
two_cells_lem = sheet_fields (bytes " 5   ") (512 ∷ 0 ∷ 1 ∷ 1 ∷ 1 ∷ []) refl refl ∙ refl

-- It is held back, though the field is filled.
required_blank_lem : some (required_blank half_filled) (fields_here half_filled) ≡ true
unfolding blank_fields required_blank
required_blank_lem = ap (some (required_blank half_filled)) two_cells_lem ∙ refl

abbrev pressed : List Stepped
pressed = looks_at_required_cells.on_key 266 half_filled ∷ []

by_line_9 : First (take 6 (key_lines half_filled 266 []) ++ ((eqb 266 266 and some (required_blank half_filled) (fields_here half_filled)) answers RequiredBlank ∷ exceeds_room 0 pressed answers NoRoom ∷ [])) RequiredBlank
unfolding validity calls key_steps
by_line_9 = past refl (past refl (past refl (past refl (past refl (past refl (this required_blank_lem))))))

given_9 : (looks_at_required_cells_calls.key half_filled 266 []).number ≡ 9
unfolding calls
given_9 = ap (λ (answer : Answer). (gives answer 0 half_filled [] (fitting 0 pressed)).number) (decided by_line_9)

pub looks_at_required_cells_breaks_required : Required looks_at_required_cells looks_at_required_cells_calls → ⊥
looks_at_required_cells_breaks_required kept =
    let blank = ((kept.held_back half_filled []).0 given_9).1 in
    let same = mathlib.Core.List.Memᴰ.eq_of_singleton (subst (Memᴰ blank.0) two_cells_lem blank.1) in
    blank.3 (subst (Filled half_filled) (sym same) (record { cell = 1; from_start = omega arith; before_end = omega arith; not_20 = eqb-false (code "5") 0x20 refl }))

-- S after ESC, with the required field blank.
abbrev after_esc : Terminal
after_esc = half_read esc_read blank_field

after_esc_valid : Valid after_esc
unfolding validity
after_esc_valid = record { size = refl; state = refl; page = refl }

left_blank : some_left_blank (seen after_esc) ≡ true
unfolding blank_fields
left_blank = ap (λ (fields : List Field). some is_required blank_field.page.marks and some (is_left_blank blank_field.page) fields) one_cell ∙ refl

s_held_back : (holds_esc_sback.on_byte (code "S") after_esc).transmission ≡ silent
unfolding ◌and◌
s_held_back = ap (λ (step : Stepped). step.transmission) (then_case _ _ _ left_blank)

pub holds_esc_sback_breaks_sends_blocks : SendsBlocks holds_esc_sback → ⊥
unfolding streams is_block block_transmission
holds_esc_sback_breaks_sends_blocks kept =
    let sent = (kept after_esc after_esc_valid (byte (code "S")) true (block_here true after_esc)).1 (full_by_esc_s refl, refl) in
    true_is_not_false (sym (ap is_block (sym s_held_back ∙ sent)))
