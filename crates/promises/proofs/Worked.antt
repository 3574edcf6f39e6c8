-- Demand 3 worked out on a form: two fields in row 1, AB and CD, with a protected colon between them. What 266 sends is
-- switched on the way (M-106), and the copy is right after each block.
use mathlib.Core.Path.{◌≡◌, refl, ap, ◌∙◌}
use mathlib.Core.List.{List, [], ◌∷◌, ◌++◌, map}
use mathlib.Core.Bool.{true, false}
use Prim.Native.Nat.{ℕ}
use Prim.Native.Char.{Char, code}
use native.Mathlib.Omega.{arith}
use lib.ListN.{length, replicate}
use Rattle.blocks.specs.Blocks.{block}
use Rattle.blocks.specs.Decode.{decode}
use Rattle.blocks.specs.Lay.{lay}
use Rattle.blocks.specs.Finding.{blocks_in}
use Rattle.page.specs.Page.{Page}
use Rattle.state.specs.Pen.{with_full}
use Rattle.steps.specs.Steps.{Terminal, with_state, bytes_of, silent, report, full_block, changed_block, Stepped, Valid}
use Rattle.words.specs.Output.{placed}
use Rattle.words.specs.Text.{bytes}
use Rattle.keys.specs.Keys.{key_step}
use Rattle.terminal.specs.Runs.{steps_of, after, bytes_sent_by, count_of}
use Rattle.terminal.specs.Answers.{Outcome, number_of, bytes_sent}
use Rattle.terminal.specs.Tests.{Passes}
use Rattle.terminal.specs.Calls.{host_call, key_call}
use Rattle.terminal.proofs.Deciding.{key_done}
use Rattle.terminal.proofs.Cases.{host_did}
use Rattle.promises.specs.Rules.{our_rules, Input, byte, press, step_of, steps}
use Rattle.promises.specs.Entries.{our_entries, Call, read, key_press, outcome_of, outcomes, call_all, inputs_of, inputs_done}
use Rattle.promises.specs.Copying.{HostStoresNothing, CopyHolds}
use Rattle.promises.proofs.Calling.{inputs_in_front}
use Rattle.promises.proofs.Theorems.{demand_3}
use Rattle.promises.proofs.Sheets.{sheet, at, sheet_block}
use Rattle.promises.proofs.Computing.{validity, block_bytes, laying, finding, host_steps, key_steps, calls, streams}

-- The form, by the first character of each field and the marks; and three states of its marks.
abbrev texts : Char → Char → List ℕ
texts one other = code one ∷ code "B" ∷ code ":" ∷ code other ∷ code "D" ∷ []

abbrev pub form : Char → Char → List ℕ → Page
form one other marks = sheet (texts one other) marks

abbrev pub no_tag : List ℕ
no_tag = 0 ∷ 0 ∷ 1 ∷ 0 ∷ 0 ∷ []

abbrev first_tagged : List ℕ
first_tagged = 2 ∷ 0 ∷ 1 ∷ 0 ∷ 0 ∷ []

abbrev second_tagged : List ℕ
second_tagged = 0 ∷ 0 ∷ 1 ∷ 2 ∷ 0 ∷ []

-- Where it begins: cursor 1;1, AB and CD, nothing modified, 266 sends what changed.
abbrev pub start : Terminal
start = at 1 (form "A" "C" no_tag)

-- A terminal whose 266 sends all.
abbrev pub in_full : Terminal → Terminal
in_full t = with_state t (with_full t.state true)

pub start_valid : Valid start
unfolding validity
start_valid = record { size = refl; state = refl; page = refl }

-- What happens: the host sends ESC S; X is typed; 266; the host sends ESC [ > 6 l and ESC [ 6 n; 266; right, right; Y
-- is typed; the host sends ESC [ > 6 h; 266.
abbrev pub esc_s : List ℕ
esc_s = bytes "\u{1b}S"

abbrev resets : List ℕ
resets = bytes "\u{1b}[>6l\u{1b}[6n"

abbrev sets : List ℕ
sets = bytes "\u{1b}[>6h"

abbrev after_first : List Input
after_first =
    press (code "X") ∷ press 266
    ∷ (map byte resets ++ (press 266 ∷ press 259 ∷ press 259 ∷ press (code "Y") ∷ (map byte sets ++ (press 266 ∷ []))))

-- The blocks: ESC [ 1 ; 1 f .. B ESC [ 1 ; 4 f .. D 03; ESC [ 1 ; 1 f X B 03; ESC [ 1 ; 4 f Y D 03. The report: ESC [ 1
-- ; 2 R.
abbrev pub full_bytes : Char → Char → List ℕ
full_bytes one other = bytes "\u{1b}[1;1f" ++ (code one ∷ (bytes "B\u{1b}[1;4f" ++ (code other ∷ bytes "D\u{3}")))

abbrev first_bytes : List ℕ
first_bytes = bytes "\u{1b}[1;1fXB\u{3}"

abbrev second_bytes : List ℕ
second_bytes = bytes "\u{1b}[1;4fYD\u{3}"

abbrev report_bytes : List ℕ
report_bytes = bytes "\u{1b}[1;2R"

pub full_no_tag : (one other : Char) → block true 80 (form one other no_tag) ≡ full_bytes one other
unfolding block_bytes
full_no_tag one other = sheet_block (texts one other) no_tag refl refl true ∙ refl

changed_first_tagged : block false 80 (form "X" "C" first_tagged) ≡ first_bytes
unfolding block_bytes
changed_first_tagged = sheet_block (texts "X" "C") first_tagged refl refl false ∙ refl

changed_second_tagged : block false 80 (form "X" "Y" second_tagged) ≡ second_bytes
unfolding block_bytes
changed_second_tagged = sheet_block (texts "X" "Y") second_tagged refl refl false ∙ refl

-- The transmissions of the steps, one for each key and each host byte.
transmissions : map (λ (step : Stepped). step.transmission) (steps our_rules start (map byte esc_s ++ after_first))
    ≡ silent ∷ full_block (full_bytes "A" "C")  -- ESC S
    ∷ silent  -- X
    ∷ changed_block first_bytes  -- 266
    ∷ silent ∷ silent ∷ silent ∷ silent ∷ silent  -- ESC [ > 6 l
    ∷ silent ∷ silent ∷ silent ∷ report report_bytes  -- ESC [ 6 n
    ∷ full_block (full_bytes "X" "C")  -- 266
    ∷ silent ∷ silent ∷ silent  -- right, right, Y
    ∷ silent ∷ silent ∷ silent ∷ silent ∷ silent  -- ESC [ > 6 h
    ∷ changed_block second_bytes  -- 266
    ∷ []
unfolding host_steps key_steps streams
transmissions = λ i.
    silent ∷ full_block (full_no_tag "A" "C" i)
    ∷ silent
    ∷ changed_block (changed_first_tagged i)
    ∷ silent ∷ silent ∷ silent ∷ silent ∷ silent
    ∷ silent ∷ silent ∷ silent ∷ report report_bytes
    ∷ full_block (full_no_tag "X" "C" i)
    ∷ silent ∷ silent ∷ silent
    ∷ silent ∷ silent ∷ silent ∷ silent ∷ silent
    ∷ changed_block (changed_second_tagged i)
    ∷ []

-- S after ESC.
abbrev after_esc : Terminal
after_esc = (step_of our_rules (byte 0x1B) start).terminal

abbrev sent_first : Terminal
sent_first = (step_of our_rules (byte 0x53) after_esc).terminal

-- The host stored nothing.
stores_nothing : HostStoresNothing our_rules sent_first after_first
unfolding host_steps key_steps streams HostStoresNothing
stores_nothing = (refl, (refl, (refl, (refl, (refl, (refl, (refl, (refl, (refl, (refl, (refl, (refl, (refl, (refl, tt))))))))))))))

-- A changed block has one field, whose cell was stored since the block before; the other is omitted.
first_field : decode first_bytes ≡ record { row = 1; column = 1; characters = bytes "XB" } ∷ []
unfolding laying
first_field = refl

second_field : decode second_bytes ≡ record { row = 1; column = 4; characters = bytes "YD" } ∷ []
unfolding laying
second_field = refl

-- The host's copy: AB CD, and with each block laid over it XB CD, XB CD, XB YD.
copies : (lay first_bytes (full_bytes "A" "C") ≡ full_bytes "X" "C") × (lay (full_bytes "X" "C") (full_bytes "X" "C") ≡ full_bytes "X" "C") × (lay second_bytes (full_bytes "X" "C") ≡ full_bytes "X" "Y")
unfolding laying
copies = (refl, refl, refl)

-- As calls, with a Y besides that is typed on the colon: it is given 7.
abbrev session : List Call
session =
    read esc_s (replicate 17 0)
    ∷ key_press (code "X") []
    ∷ key_press 266 (replicate 9 0)
    ∷ read resets (replicate 6 0)
    ∷ key_press 266 (replicate 17 0)
    ∷ key_press 259 []
    ∷ key_press (code "Y") []
    ∷ key_press 259 []
    ∷ key_press (code "Y") []
    ∷ read sets []
    ∷ key_press 266 (replicate 9 0)
    ∷ []

-- What is seen of a call: number, cells stored, bytes sent.
pub record Seen : Type 0 where
  pub number : ℕ
  pub stored : ℕ
  pub sent : List ℕ

abbrev pub gives : ℕ → ℕ → List ℕ → Seen
gives number stored sent = record { number = number; stored = stored; sent = sent }

abbrev pub seen : Outcome → Seen
seen outcome = gives outcome.number outcome.stored (bytes_sent outcome)

-- What is seen of some calls, and the inputs that they did.
pub record Told (t : Terminal) (calls : List Call) (saw : List Seen) (inputs : List Input) : Type 0 where
  pub outcomes-seen : map seen (outcomes our_entries t calls) ≡ saw
  pub inputs_are : inputs_done our_entries t calls ≡ inputs

pub no_calls : {t : Terminal} → Told t [] [] []
unfolding streams
no_calls = record { outcomes-seen = refl; inputs_are = refl }

pub next_call : {t : Terminal} {calls : List Call} {saw : List Seen} {inputs : List Input} (call : Call) (outcome : Outcome) → outcome_of our_entries call t ≡ outcome → Told outcome.terminal calls saw inputs → Told t (call ∷ calls) (seen outcome ∷ saw) (inputs_of call outcome ++ inputs)
unfolding outcomes
next_call {calls} call outcome is later = record {
  outcomes-seen = (λ i. seen (is i) ∷ map seen (outcomes our_entries (is i).terminal calls)) ∙ ap (λ (rest : List Seen). seen outcome ∷ rest) later.outcomes-seen;
  inputs_are = inputs_in_front our_entries _ call calls is ∙ ap (λ (rest : List Input). inputs_of call outcome ++ rest) later.inputs_are;
}

-- An outcome whose output is just the bytes sent.
abbrev pub leaves : ℕ → ℕ → ℕ → List ℕ → Terminal → Outcome
leaves number taken stored sent t = record { number = number; taken = taken; sent = length sent; stored = stored; refused = 0; protection = false; terminal = t; output = sent }

-- The terminals that the calls leave: after X, after the first 266 with the cursor in a column, after Y, at the end.
abbrev typed_x : Terminal
typed_x = at 2 (form "X" "C" first_tagged)

abbrev sent_x : ℕ → Terminal
sent_x column = at column (form "X" "C" no_tag)

abbrev typed_y : Terminal
typed_y = at 5 (form "X" "Y" second_tagged)

abbrev end : Terminal
end = at 5 (form "X" "Y" no_tag)

-- A key call that sends known bytes, stores in no cell, and has an output with just room for them.
pub sends_known : (t : Terminal) (key : ℕ) (sent lent : List ℕ) → Passes t key → bytes_of (key_step key t).transmission ≡ sent
    → length (key_step key t).cells ≡ 0 → count_of (key_step key t).was_refused ≡ 0 → (key_step key t).protection ≡ false
    → length lent ≡ length sent → placed 0 sent lent ≡ sent → key_call t key lent ≡ leaves 0 0 0 sent (key_step key t).terminal
unfolding number_of
sends_known t key sent lent passes is no_cell not_refused kept room all =
    key_done t key lent passes (omega (arith, ap length is))
    ∙ (λ i. record {
      number = 0;
      taken = 0;
      sent = length (is i);
      stored = no_cell i;
      refused = not_refused i;
      protection = kept i;
      terminal = (key_step key t).terminal;
      output = (ap (λ (bytes : List ℕ). placed 0 bytes lent) is ∙ all) i;
    })

-- The calls that send.
start_sends : bytes_sent_by (steps_of start esc_s) ≡ full_bytes "A" "C"
unfolding host_steps steps_of bytes_sent_by
start_sends = λ i. full_no_tag "A" "C" i ++ []

call_esc_s : host_call start esc_s (replicate 17 0) ≡ leaves 0 2 0 (full_bytes "A" "C") start
unfolding host_steps calls
call_esc_s =
    host_did start esc_s (replicate 17 0) start_valid (omega arith) (omega (arith, ap length start_sends))
    ∙ (λ i. record { number = 0; taken = 2; sent = length (start_sends i); stored = 0; refused = 0; protection = false; terminal = start; output = placed 0 (start_sends i) (replicate 17 0) })

typed_x_valid : Valid typed_x
unfolding validity
typed_x_valid = record { size = refl; state = refl; page = refl }

call_first : key_call typed_x 266 (replicate 9 0) ≡ leaves 0 0 0 first_bytes (sent_x 2)
unfolding validity key_steps calls
call_first =
    sends_known typed_x 266 first_bytes (replicate 9 0) (record { valid = typed_x_valid; known = refl; not_locked_out = refl; has_cell = refl; taken = refl; not_held_back = refl })
    changed_first_tagged refl refl refl refl refl

sent_x_valid : Valid (in_full (sent_x 2))
unfolding validity
sent_x_valid = record { size = refl; state = refl; page = refl }

call_full : key_call (in_full (sent_x 2)) 266 (replicate 17 0) ≡ leaves 0 0 0 (full_bytes "X" "C") (in_full (sent_x 2))
unfolding validity key_steps calls
call_full =
    sends_known (in_full (sent_x 2)) 266 (full_bytes "X" "C") (replicate 17 0) (record { valid = sent_x_valid; known = refl; not_locked_out = refl; has_cell = refl; taken = refl; not_held_back = refl })
    (full_no_tag "X" "C") refl refl refl refl refl

typed_y_valid : Valid typed_y
unfolding validity
typed_y_valid = record { size = refl; state = refl; page = refl }

call_second : key_call typed_y 266 (replicate 9 0) ≡ leaves 0 0 0 second_bytes end
unfolding validity key_steps calls
call_second =
    sends_known typed_y 266 second_bytes (replicate 9 0) (record { valid = typed_y_valid; known = refl; not_locked_out = refl; has_cell = refl; taken = refl; not_held_back = refl })
    changed_second_tagged refl refl refl refl refl

-- All that is seen, call by call; and the inputs that these calls did are those above.
session_told : Told start session
    (gives 0 0 (full_bytes "A" "C")
    ∷ gives 0 1 []
    ∷ gives 0 0 first_bytes
    ∷ gives 0 0 report_bytes
    ∷ gives 0 0 (full_bytes "X" "C")
    ∷ gives 0 0 []
    ∷ gives 7 0 []
    ∷ gives 0 0 []
    ∷ gives 0 1 []
    ∷ gives 0 0 []
    ∷ gives 0 0 second_bytes
    ∷ [])
    (map byte esc_s ++ after_first)
unfolding host_steps key_steps calls outcome_of inputs_of
session_told =
    next_call _ (leaves 0 2 0 (full_bytes "A" "C") start) call_esc_s
    (next_call _ (leaves 0 0 1 [] typed_x) refl
    (next_call _ (leaves 0 0 0 first_bytes (sent_x 2)) call_first
    (next_call _ (leaves 0 9 0 report_bytes (in_full (sent_x 2))) refl
    (next_call _ (leaves 0 0 0 (full_bytes "X" "C") (in_full (sent_x 2))) call_full
    (next_call _ (leaves 0 0 0 [] (in_full (sent_x 3))) refl
    (next_call _ (leaves 7 0 0 [] (in_full (sent_x 3))) refl
    (next_call _ (leaves 0 0 0 [] (in_full (sent_x 4))) refl
    (next_call _ (leaves 0 0 1 [] (in_full typed_y)) refl
    (next_call _ (leaves 0 5 0 [] typed_y) refl
    (next_call _ (leaves 0 0 0 second_bytes end) call_second no_calls))))))))))

-- All that the calls sent is one stream, and the host finds the four blocks in it; the report is none.
blocks_found : blocks_in (full_bytes "A" "C" ++ (first_bytes ++ (report_bytes ++ (full_bytes "X" "C" ++ second_bytes))))
    ≡ full_bytes "A" "C" ∷ first_bytes ∷ full_bytes "X" "C" ∷ second_bytes ∷ []
unfolding finding
blocks_found = refl

-- So demand 3 speaks of this session: the copy is right after each of the three blocks that follow, whatever 266 was to
-- send, and a changed one omits what was not stored.
session_copied : CopyHolds blocks_in our_rules start (call_all our_entries start session).bytes_sent (byte 0x1B ∷ []) (full_bytes "A" "C") sent_first after_first
unfolding host_steps key_steps streams after
session_copied = demand_3.copying start session (byte 0x1B ∷ []) (byte 0x53) after_first (full_bytes "A" "C") session_told.inputs_are (ap full_block (full_no_tag "A" "C")) stores_nothing
