-- Demand 3 catches tags that are not set, transmissions in another order, and a host that finds blocks another way.
use mathlib.Core.Path.{◌≡◌, refl, sym, ap, ◌∙◌}
use mathlib.Core.Bool.{true, false}
use mathlib.Core.List.{List, [], ◌∷◌, ◌++◌, map, reverse}
use Prim.Native.Nat.{ℕ}
use Prim.Native.Char.{Char, code}
use native.Mathlib.Omega.{arith}
use borrow.Author.Tests.{eqb-false, eq-eqb}
use lib.ListN.{length, take, get_or, replicate}
use Rattle.words.specs.Output.{placed}
use Rattle.words.proofs.Choosing.{then_case}
use Rattle.blocks.specs.Blocks.{block}
use Rattle.blocks.specs.Finding.{blocks_in}
use Rattle.steps.specs.Steps.{Terminal, changed_block, sends}
use Rattle.terminal.specs.Runs.{steps_of, bytes_sent_by}
use Rattle.terminal.specs.Answers.{Outcome, bytes_sent}
use Rattle.terminal.specs.Calls.{host_call}
use Rattle.terminal.proofs.Cases.{host_did}
use Rattle.words.specs.Text.{bytes}
use Rattle.promises.specs.Rules.{our_rules, Input, byte, press}
use Rattle.promises.specs.Entries.{Entries, our_entries, Call, read, key_press, outcome_of, inputs_of, inputs_done}
use Rattle.promises.specs.Copying.{HostStoresNothing, block_in, blocks_sent, standings, copies, OmitsExactly, stored_since, OmissionHolds}
use Rattle.promises.specs.Demands.{Finding, Copying}
use Rattle.wrong.specs.Entries.{showing, sends_backwards}
use Rattle.wrong.specs.Rules.{key_call_by, keys_by, never_tags, tags_only_changes}
use Rattle.wrong.specs.Finding.{up_to03, by03_alone, or_else_one, invents_block, finds_none}
use Rattle.promises.proofs.Calling.{inputs_in_front}
use Rattle.promises.proofs.Sheets.{sheet}
use Rattle.promises.proofs.Worked.{esc_s, leaves}
use Rattle.wrong.proofs.WrongCopies.{texts, clear, before, after, B_valid, field_block, empty_block, first_block, full_block_is, untagged-block, copy_is_stale, second_copy, type_x, field_listed, wrongly_omitted, type_b}
use Rattle.promises.proofs.Computing.{tests, block_bytes, finding, host_steps, key_steps, calls, streams}

-- ESC S, a character, 266, with room for either block.
abbrev room : List ℕ
room = replicate 10 0

abbrev start : Terminal
start = before "B" clear

abbrev typing : ℕ → List Call
typing character = read esc_s room ∷ key_press character [] ∷ key_press 266 room ∷ []

-- The host call with ESC S.
start_sends : bytes_sent_by (steps_of start esc_s) ≡ field_block "B"
unfolding host_steps steps_of bytes_sent_by
start_sends = λ i. full_block_is "B" i ++ []

abbrev full_sent : Outcome
full_sent = leaves 0 2 0 (field_block "B") start

full_sent_lem : host_call start esc_s room ≡ full_sent
unfolding host_steps calls
full_sent_lem =
    host_did start esc_s room B_valid (omega arith) (omega (arith, ap length start_sends))
    ∙ (λ i. record { number = 0; taken = 2; sent = length (start_sends i); stored = 0; refused = 0; protection = false; terminal = start; output = placed 0 (start_sends i) room })

-- A call with 266 that sends a changed block and leaves the terminal.
abbrev sending : List ℕ → Terminal → Outcome
sending bytes t = key_call_by (λ _ _. sends (changed_block bytes) t.state t.page) t 266 room

changed_sent : (second : Char) → sending (block false 80 (sheet (texts second) clear)) (after second clear) ≡ sending empty_block (after second clear)
changed_sent second = ap (λ (bytes : List ℕ). sending bytes (after second clear)) (untagged-block second)

-- A key call given 0 did its key.
key_in_front : (entries : Entries) (t : Terminal) (key : ℕ) (output : List ℕ) (later : List Call) {inputs : List Input} {outcome : Outcome} → entries.key t key output ≡ outcome → outcome.number ≡ 0 → inputs_done entries outcome.terminal later ≡ inputs → inputs_done entries t (key_press key output ∷ later) ≡ press key ∷ inputs
unfolding outcome_of inputs_of
key_in_front entries t key output later {outcome} is zero further =
    inputs_in_front entries t (key_press key output) later is
    ∙ ap (λ (now : List Input). now ++ inputs_done entries outcome.terminal later) (then_case _ _ _ (eq-eqb _ _ zero))
    ∙ ap (λ (inputs : List Input). press key ∷ inputs) further

-- So did those two after ESC S, where each is given 0.
typing_done : (entries : Entries) (character : ℕ) {typed changed : Outcome} → entries.host start esc_s room ≡ full_sent → entries.key start character [] ≡ typed → entries.key typed.terminal 266 room ≡ changed
    → typed.number ≡ 0 → changed.number ≡ 0 → inputs_done entries start (typing character) ≡ byte 0x1B ∷ byte (code "S") ∷ press character ∷ press 266 ∷ []
unfolding outcome_of inputs_of inputs_done
typing_done entries character {typed} sends types sends-again done-second done-third =
    inputs_in_front entries start (read esc_s room) (key_press character [] ∷ key_press 266 room ∷ []) sends
    ∙ ap (λ (inputs : List Input). byte 0x1B ∷ byte (code "S") ∷ inputs)
    (key_in_front entries start character [] (key_press 266 room ∷ []) types done-second
    (key_in_front entries typed.terminal 266 room [] sends-again done-third refl))

-- X is typed, and not tagged: the copy has B still.
pub never_tags_breaks_copying : Copying blocks_in never_tags (keys_by never_tags) → ⊥
unfolding host_steps key_steps calls streams HostStoresNothing block_in blocks_sent standings copies
never_tags_breaks_copying kept =
    let did = typing_done (keys_by never_tags) (code "X") full_sent_lem refl (changed_sent "X") refl refl in
    copy_is_stale (untagged-block "X") (second_copy (kept start (typing (code "X")) (byte 0x1B ∷ []) (byte (code "S")) type_x first_block did refl tt).copy)

-- B is typed where B stands, and not tagged: the copy is right, and the changed block omits what was stored.
pub tags_only_changes_breaks_copying : Copying blocks_in tags_only_changes (keys_by tags_only_changes) → ⊥
unfolding block_bytes host_steps key_steps calls streams HostStoresNothing OmissionHolds OmitsExactly stored_since
tags_only_changes_breaks_copying kept =
    let did = typing_done (keys_by tags_only_changes) (code "B") full_sent_lem refl (changed_sent "B") refl refl in
    wrongly_omitted clear (block false 80 (sheet (texts "B") clear)) (field_listed clear refl refl) (untagged-block "B")
    (kept start (typing (code "B")) (byte 0x1B ∷ []) (byte (code "S")) type_b first_block did refl tt).omission.1.0

-- The first of some blocks.
first_of : List (List ℕ) → List ℕ
first_of [] = []
first_of (first ∷ later) = first

-- ESC S, X, ESC S: two blocks, the first with B, the second with X.
abbrev send_twice : List ℕ
send_twice = bytes "\u{1b}SX\u{1b}S"

abbrev two_rooms : List ℕ
two_rooms = replicate 20 0

steps_send : bytes_sent_by (steps_of start send_twice) ≡ field_block "B" ++ field_block "X"
unfolding host_steps steps_of bytes_sent_by
steps_send = λ i. full_block_is "B" i ++ (full_block_is "X" i ++ [])

-- Sent backwards, the one with X comes first.
sent_backwards : sends_backwards.host start send_twice two_rooms ≡ record { number = 0; taken = 5; sent = 20; stored = 1; refused = 0; protection = true; terminal = after "X" clear; output = field_block "X" ++ field_block "B" }
unfolding host_steps calls
sent_backwards =
    ap (λ (o : Outcome). showing (placed 0 (bytes_sent_by (reverse (steps_of start (take o.taken send_twice)))) two_rooms) o) (host_did start send_twice two_rooms B_valid (omega arith) (omega (arith, ap length steps_send)))
    ∙ (λ i. record { number = 0; taken = 5; sent = length (steps_send i); stored = 1; refused = 0; protection = true; terminal = after "X" clear; output = placed 0 (full_block_is "X" i ++ (full_block_is "B" i ++ [])) two_rooms })

pub sends_backwards_breaks_copying : Copying blocks_in our_rules sends_backwards → ⊥
unfolding host_steps calls streams finding HostStoresNothing block_in blocks_sent first_of
sends_backwards_breaks_copying kept =
    let did = inputs_in_front sends_backwards start (read send_twice two_rooms) [] sent_backwards in
    let holds = kept start (read send_twice two_rooms ∷ []) (map byte (bytes "\u{1b}SX\u{1b}")) (byte (code "S")) [] (block true 80 (sheet (texts "X") clear)) did refl tt in
    eqb-false (code "X") (code "B") refl
    (sym (ap (λ (o : Outcome). get_or (first_of (blocks_in (bytes_sent o ++ []))) 7 0) sent_backwards)
    ∙ ap (λ (blocks : List (List ℕ)). get_or (first_of blocks) 7 0) holds.found
    ∙ ap (λ (bytes : List ℕ). get_or bytes 7 0) (full_block_is "B"))

-- ESC [ 6 n, ESC S: a report, ESC [ 1 ; 2 R, and a block. The sixth byte of the report is R, that of the block f.
abbrev ask_and_send : List ℕ
ask_and_send = bytes "\u{1b}[6n\u{1b}S"

abbrev both_rooms : List ℕ
both_rooms = replicate 16 0

abbrev report_bytes : List ℕ
report_bytes = bytes "\u{1b}[1;2R"

both_send : bytes_sent_by (steps_of start ask_and_send) ≡ report_bytes ++ field_block "B"
unfolding host_steps steps_of bytes_sent_by
both_send = λ i. report_bytes ++ (full_block_is "B" i ++ [])

both_sent : host_call start ask_and_send both_rooms ≡ record { number = 0; taken = 6; sent = 16; stored = 0; refused = 0; protection = false; terminal = start; output = report_bytes ++ field_block "B" }
unfolding host_steps calls
both_sent =
    host_did start ask_and_send both_rooms B_valid (omega arith) (omega (arith, ap length both_send))
    ∙ (λ i. record { number = 0; taken = 6; sent = length (both_send i); stored = 0; refused = 0; protection = false; terminal = start; output = placed 0 (both_send i) both_rooms })

-- So a host that finds blocks another way finds, or does not find, this block alone.
found_alone : (finds : List ℕ → List (List ℕ)) → Copying finds our_rules our_entries → (later : List (List ℕ)) × (finds (report_bytes ++ field_block "B") ≡ first_block ∷ later)
unfolding host_steps calls streams HostStoresNothing block_in blocks_sent
found_alone finds kept =
    let did = inputs_in_front our_entries start (read ask_and_send both_rooms) [] both_sent in
    let holds = kept start (read ask_and_send both_rooms ∷ []) (map byte (bytes "\u{1b}[6n\u{1b}")) (byte (code "S")) [] first_block did refl tt in
    ([], sym (ap (λ (o : Outcome). finds (bytes_sent o ++ [])) both_sent) ∙ holds.found)

pub by03_alone_breaks_copying : Copying by03_alone our_rules our_entries → ⊥
unfolding tests up_to03 first_of
by03_alone_breaks_copying kept =
    let found = found_alone by03_alone kept in
    eqb-false (code "R") (code "f") refl (ap (λ (blocks : List (List ℕ)). get_or (first_of blocks) 5 0) found.1 ∙ ap (λ (bytes : List ℕ). get_or bytes 5 0) (full_block_is "B"))

pub finds_none_breaks_copying : Copying finds_none our_rules our_entries → ⊥
finds_none_breaks_copying kept = let found = found_alone finds_none kept in absurd (omega (arith, ap (length {A = List ℕ}) found.1))

-- Where nothing was sent, no block is found.
pub invents_block_breaks_finding : Finding invents_block our_rules our_entries → ⊥
unfolding streams finding blocks_sent or_else_one
invents_block_breaks_finding kept = absurd (omega (arith, ap (length {A = List ℕ}) (kept start [])))
