-- Demands 2 and 3 worked out on a form whose remark field, ABC, begins in the last two cells of row 1 and ends in row
-- 2; behind it are a protected point and a field D.
use mathlib.Core.Path.{◌≡◌, refl, sym, ap, ◌∙◌}
use mathlib.Core.List.{List, [], ◌∷◌, ◌++◌}
use mathlib.Core.Bool.{true, false}
use Prim.Native.Nat.{ℕ}
use native.Mathlib.Omega.{arith}
use lib.ListN.{length, replicate}
use Rattle.words.specs.Text.{bytes}
use Rattle.words.specs.Output.{placed}
use Rattle.page.specs.Page.{Page, closed_up}
use Rattle.blocks.specs.Blocks.{block}
use Rattle.blocks.specs.Lay.{lay}
use Rattle.steps.specs.Steps.{Terminal, Valid}
use Rattle.steps.specs.Seen.{fields_here}
use Rattle.keys.specs.Keys.{rest_shifted}
use Rattle.terminal.specs.Runs.{steps_of, bytes_sent_by}
use Rattle.terminal.specs.Calls.{host_call, key_call}
use Rattle.terminal.proofs.Cases.{host_did}
use Rattle.promises.proofs.Sheets.{sheet_after, at_place, fields_amid, block_amid}
use Rattle.promises.proofs.Worked.{esc_s, leaves, sends_known}
use Rattle.promises.proofs.Computing.{validity, block_bytes, laying, host_steps, key_steps, calls}

-- Cells 78 to 82, counted from 0: 1;79 and 1;80, 2;1 to 2;3.
abbrev form : List ℕ → List ℕ → Page
form characters marks = sheet_after 78 characters marks

abbrev no_tag : List ℕ
no_tag = 0 ∷ 0 ∷ 0 ∷ 1 ∷ 0 ∷ []

-- Where it begins: the cursor on B, nothing modified; and a second terminal with the same form, blank.
abbrev pub sender : Terminal
sender = at_place 1 80 (form (bytes "ABC.D") no_tag)

abbrev receiver : Terminal
receiver = at_place 1 1 (form (bytes "   . ") no_tag)

pub sender_valid : Valid sender
unfolding validity
sender_valid = record { size = refl; state = refl; page = refl }

-- ABC is one field, of three cells.
pub the_fields : fields_here sender ≡ record { start = 78; length = 3 } ∷ record { start = 82; length = 1 } ∷ []
unfolding block_bytes
the_fields = fields_amid 78 (bytes "ABC.D") no_tag (omega arith) refl refl ∙ refl

-- Its block: ESC [ 1 ; 79 f A B C ESC [ 2 ; 3 f D 03.
abbrev pub full_bytes : List ℕ
full_bytes = bytes "\u{1b}[1;79fABC\u{1b}[2;3fD\u{3}"

pub full_block : block true 80 sender.page ≡ full_bytes
unfolding block_bytes
full_block = block_amid 78 (bytes "ABC.D") no_tag (omega arith) refl refl true ∙ refl

sender_sends : bytes_sent_by (steps_of sender esc_s) ≡ full_bytes
unfolding host_steps steps_of bytes_sent_by
sender_sends = λ i. full_block i ++ []

call_esc_s : host_call sender esc_s (replicate 18 0) ≡ leaves 0 2 0 full_bytes sender
unfolding host_steps calls
call_esc_s =
    host_did sender esc_s (replicate 18 0) sender_valid (omega arith) (omega (arith, ap length sender_sends))
    ∙ (λ i. record { number = 0; taken = 2; sent = length (sender_sends i); stored = 0; refused = 0; protection = false; terminal = sender; output = placed 0 (sender_sends i) (replicate 18 0) })

-- Fed back: all 18 bytes are taken, four cells stored, nothing sent or refused, and the second terminal has the
-- sender's page. The cursor is behind D.
fed_back : host_call receiver full_bytes []
    ≡ record { number = 0; taken = 18; sent = 0; stored = 4; refused = 0; protection = true; terminal = at_place 2 4 sender.page; output = [] }
unfolding host_steps calls
fed_back = refl

-- 264 on B stores in B's cell and in C's: C comes up over the row's end, and a 20 comes in.
abbrev carried_tags : List ℕ
carried_tags = 0 ∷ 2 ∷ 2 ∷ 1 ∷ 0 ∷ []

abbrev carried : List ℕ → Terminal
carried marks = at_place 1 80 (form (bytes "AC .D") marks)

call_264 : key_call sender 264 [] ≡ leaves 0 0 2 [] (carried carried_tags)
unfolding key_steps calls closed_up rest_shifted
call_264 = refl

carried_valid : Valid (carried carried_tags)
unfolding validity
carried_valid = record { size = refl; state = refl; page = refl }

-- The changed block has the remark, whole, and omits D: ESC [ 1 ; 79 f A C 20 03.
abbrev changed_bytes : List ℕ
changed_bytes = bytes "\u{1b}[1;79fAC \u{3}"

changed_block : block false 80 (carried carried_tags).page ≡ changed_bytes
unfolding block_bytes
changed_block = block_amid 78 (bytes "AC .D") carried_tags (omega arith) refl refl false ∙ refl

call_266 : key_call (carried carried_tags) 266 (replicate 11 0) ≡ leaves 0 0 0 changed_bytes (carried no_tag)
unfolding validity key_steps calls
call_266 =
    sends_known (carried carried_tags) 266 changed_bytes (replicate 11 0) (record { valid = carried_valid; known = refl; not_locked_out = refl; has_cell = refl; taken = refl; not_held_back = refl })
    changed_block refl refl refl refl refl

-- The copy after it, worked out from the bytes of the two alone, is the full block of the page as it stands.
the_copy : lay changed_bytes full_bytes ≡ bytes "\u{1b}[1;79fAC \u{1b}[2;3fD\u{3}"
unfolding laying
the_copy = refl

full_after : block true 80 (carried no_tag).page ≡ bytes "\u{1b}[1;79fAC \u{1b}[2;3fD\u{3}"
unfolding block_bytes
full_after = block_amid 78 (bytes "AC .D") no_tag (omega arith) refl refl true ∙ refl

copied : lay changed_bytes full_bytes ≡ block true 80 (carried no_tag).page
copied = the_copy ∙ sym full_after
