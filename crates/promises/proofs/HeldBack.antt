-- Demand 3 worked out across a 266 that is held back (M-107): a required numeric field of two cells, a protected colon,
-- and a field CD. A call given 9 does no step, so the copy and what a changed block omits are as if it had not been.
use mathlib.Core.Path.{◌≡◌, refl, sym, ap, ◌∙◌}
use mathlib.Core.List.{List, [], ◌∷◌, ◌++◌, map}
use mathlib.Core.Bool.{true, false}
use Prim.Native.Nat.{ℕ}
use Prim.Native.Char.{code}
use native.Mathlib.Omega.{arith}
use lib.ListN.{length, replicate}
use Rattle.words.specs.Choice.{◌and◌}
use Rattle.words.specs.Lists.{some}
use Rattle.words.specs.Output.{placed}
use Rattle.words.specs.Text.{bytes}
use Rattle.page.specs.Marks.{is_required}
use Rattle.fields.specs.Fields.{Field}
use Rattle.fields.specs.Required.{is_left_blank}
use Rattle.blocks.specs.Blocks.{block}
use Rattle.blocks.specs.Lay.{lay}
use Rattle.blocks.specs.Finding.{blocks_in}
use Rattle.steps.specs.Steps.{Terminal, bytes_of, full_block, Stepped, Valid}
use Rattle.keys.specs.Keys.{is_held_back, taken_step, key_step}
use Rattle.keys.proofs.Silent.{taken_step_lem}
use Rattle.terminal.specs.declared.Answer.TheVariants.{RequiredBlank}
use Rattle.terminal.specs.Runs.{steps_of, bytes_sent_by, after, count_of}
use Rattle.terminal.specs.Answers.{unchanged}
use Rattle.terminal.specs.Calls.{host_call, key_call}
use Rattle.terminal.proofs.Firsts.{this, past}
use Rattle.terminal.proofs.Deciding.{key_refuses}
use Rattle.terminal.proofs.Cases.{host_did}
use Rattle.promises.specs.Rules.{our_rules, Input, byte, press, step_of}
use Rattle.promises.specs.Entries.{our_entries, Call, read, key_press, outcome_of, call_all, inputs_of}
use Rattle.promises.specs.Copying.{HostStoresNothing, CopyHolds}
use Rattle.promises.proofs.Theorems.{demand_3}
use Rattle.promises.proofs.Sheets.{sheet, at, sheet_fields, sheet_block}
use Rattle.promises.proofs.Computing.{validity, block_bytes, blank_fields, laying, finding, host_steps, key_steps, calls, streams}
use Rattle.promises.proofs.Worked.{esc_s, gives, Told, no_calls, next_call, leaves, sends_known}

-- The form, by the five characters and marks. 640 is numeric and required, 642 modified too.
abbrev no_tag : List ℕ
no_tag = 640 ∷ 640 ∷ 1 ∷ 0 ∷ 0 ∷ []

abbrev tagged : List ℕ
tagged = 642 ∷ 642 ∷ 1 ∷ 0 ∷ 0 ∷ []

-- Where it begins: the cursor at 1;1, a reading of 34, nothing modified. 263 blanks it; 5 is typed; it is sent.
abbrev start : Terminal
start = at 1 (sheet (bytes "34:CD") no_tag)

abbrev blanked_form : Terminal
blanked_form = at 1 (sheet (bytes "  :CD") tagged)

abbrev typed_form : Terminal
typed_form = at 2 (sheet (bytes "5 :CD") tagged)

abbrev sent_form : Terminal
sent_form = at 2 (sheet (bytes "5 :CD") no_tag)

start_valid : Valid start
unfolding validity
start_valid = record { size = refl; state = refl; page = refl }

typed_valid : Valid typed_form
unfolding validity
typed_valid = record { size = refl; state = refl; page = refl }

-- The blocks: ESC [ 1 ; 1 f 3 4 ESC [ 1 ; 4 f C D 03, and ESC [ 1 ; 1 f 5 20 03.
abbrev full_bytes : List ℕ
full_bytes = bytes "\u{1b}[1;1f34\u{1b}[1;4fCD\u{3}"

abbrev changed_bytes : List ℕ
changed_bytes = bytes "\u{1b}[1;1f5 \u{3}"

full_block_lem : block true 80 start.page ≡ full_bytes
unfolding block_bytes
full_block_lem = sheet_block (bytes "34:CD") no_tag refl refl true ∙ refl

changed_block : block false 80 typed_form.page ≡ changed_bytes
unfolding block_bytes
changed_block = sheet_block (bytes "5 :CD") tagged refl refl false ∙ refl

-- 266 is held back on the form that 263 has blanked, and no longer once 5 is typed.
held : is_held_back 266 blanked_form ≡ true
unfolding is_held_back blank_fields
held = ap (λ (fields : List Field). some is_required blanked_form.page.marks and some (is_left_blank blanked_form.page) fields) (sheet_fields (bytes "  :CD") tagged refl refl) ∙ refl

let_go : is_held_back 266 typed_form ≡ false
unfolding is_held_back blank_fields
let_go = ap (λ (fields : List Field). some is_required typed_form.page.marks and some (is_left_blank typed_form.page) fields) (sheet_fields (bytes "5 :CD") tagged refl refl) ∙ refl

-- What happens: the host sends ESC S; 263; 266, which is given 9; 5 is typed; 266.
abbrev session : List Call
session =
    read esc_s (replicate 17 0)
    ∷ key_press 263 []
    ∷ key_press 266 (replicate 9 0)
    ∷ key_press (code "5") []
    ∷ key_press 266 (replicate 9 0)
    ∷ []

-- The inputs that were done: the 266 that was held back is none of them.
abbrev after_first : List Input
after_first = press 263 ∷ press (code "5") ∷ press 266 ∷ []

start_sends : bytes_sent_by (steps_of start esc_s) ≡ full_bytes
unfolding host_steps steps_of bytes_sent_by
start_sends = λ i. full_block_lem i ++ []

call_esc_s : host_call start esc_s (replicate 17 0) ≡ leaves 0 2 0 full_bytes start
unfolding host_steps calls
call_esc_s =
    host_did start esc_s (replicate 17 0) start_valid (omega arith) (omega (arith, ap length start_sends))
    ∙ (λ i. record { number = 0; taken = 2; sent = length (start_sends i); stored = 0; refused = 0; protection = false; terminal = start; output = placed 0 (start_sends i) (replicate 17 0) })

call_held : key_call blanked_form 266 (replicate 9 0) ≡ unchanged RequiredBlank blanked_form (replicate 9 0)
unfolding validity key_steps calls
call_held = key_refuses blanked_form 266 (replicate 9 0) RequiredBlank refl (past refl (past refl (past refl (past refl (past refl (past refl (this held)))))))

sends-typed : key_step 266 typed_form ≡ taken_step 266 typed_form
unfolding key_steps
sends-typed = taken_step_lem 266 typed_form refl let_go

call_sends : key_call typed_form 266 (replicate 9 0) ≡ leaves 0 0 0 changed_bytes sent_form
unfolding validity key_steps calls
call_sends =
    sends_known typed_form 266 changed_bytes (replicate 9 0) (record { valid = typed_valid; known = refl; not_locked_out = refl; has_cell = refl; taken = refl; not_held_back = let_go })
    (ap (λ (step : Stepped). bytes_of step.transmission) sends-typed ∙ changed_block)
    (ap (λ (step : Stepped). length step.cells) sends-typed)
    (ap (λ (step : Stepped). count_of step.was_refused) sends-typed)
    (ap (λ (step : Stepped). step.protection) sends-typed)
    refl refl
    ∙ ap (λ (step : Stepped). leaves 0 0 0 changed_bytes step.terminal) sends-typed

-- All that is seen, call by call.
session_told : Told start session
    (gives 0 0 full_bytes
    ∷ gives 0 2 []
    ∷ gives 9 0 []
    ∷ gives 0 1 []
    ∷ gives 0 0 changed_bytes
    ∷ [])
    (map byte esc_s ++ after_first)
unfolding host_steps key_steps calls outcome_of inputs_of
session_told =
    next_call _ (leaves 0 2 0 full_bytes start) call_esc_s
    (next_call _ (leaves 0 0 2 [] blanked_form) refl
    (next_call _ (unchanged RequiredBlank blanked_form (replicate 9 0)) call_held
    (next_call _ (leaves 0 0 1 [] typed_form) refl
    (next_call _ (leaves 0 0 0 changed_bytes sent_form) call_sends no_calls))))

-- The host finds two blocks, and its copy is then the full block of the page: 5 and a blank, CD, which was omitted.
blocks_found : blocks_in (full_bytes ++ changed_bytes) ≡ full_bytes ∷ changed_bytes ∷ []
unfolding finding
blocks_found = refl

the_copy : lay changed_bytes full_bytes ≡ bytes "\u{1b}[1;1f5 \u{1b}[1;4fCD\u{3}"
unfolding laying
the_copy = refl

full_after : block true 80 sent_form.page ≡ bytes "\u{1b}[1;1f5 \u{1b}[1;4fCD\u{3}"
unfolding block_bytes
full_after = sheet_block (bytes "5 :CD") no_tag refl refl true ∙ refl

copied : lay changed_bytes full_bytes ≡ block true 80 sent_form.page
copied = the_copy ∙ sym full_after

-- Demand 3 speaks of this session: the copy is right after the second block, and it omits what was not stored.
abbrev sent_first : Terminal
sent_first = (step_of our_rules (byte 0x53) (step_of our_rules (byte 0x1B) start).terminal).terminal

session_copied : CopyHolds blocks_in our_rules start (call_all our_entries start session).bytes_sent (byte 0x1B ∷ []) full_bytes sent_first after_first
unfolding host_steps streams after HostStoresNothing
session_copied = demand_3.copying start session (byte 0x1B ∷ []) (byte 0x53) after_first full_bytes session_told.inputs_are (ap full_block full_block_lem) tt
