-- Wrong rules, each ours with a fault, and entries that follow them. What they do, they tell, and follow: so
-- demand 1 and Follows can't tell them from ours, but what is promised of rules, and demand 3, can.
use Rattle.std.specs.Prelude.{Bool, true, false, not, length, take, drop, get_or, set, replicate}
use Rattle.std.specs.Prelude.{ℕ, ◌+◌, ◌-◌, ◌%◌, eqb, leb}
use mathlib.Core.List.{List, [], ◌∷◌, ◌++◌, map, flat_map}
use Prim.Native.Char.{code}
use Rattle.words.specs.Choice.{If◌then◌else◌, ◌and◌, ◌or◌, ◌is◌to◌}
use Rattle.words.specs.Lists.{some, all_from, some_from, selected}
use Rattle.sequence.specs.declared.Reason.TheVariants.{UnknownCommand}
use Rattle.sequence.specs.Range.{argument_of}
use Rattle.page.specs.Marks.{without_bits, is_protected, without_modified}
use Rattle.page.specs.Page.{Page, page_of}
use Rattle.fields.specs.Fields.{Field}
use Rattle.fields.specs.Required.{is_left_blank, some_left_blank}
use Rattle.blocks.specs.Blocks.{is_in_block, encode}
use Rattle.state.specs.declared.Locks.{Locks}
use Rattle.state.specs.declared.State.{State}
use Rattle.state.specs.State.{with_locks, no_locks}
use Rattle.state.specs.Pen.{with_full}
use Rattle.steps.specs.Steps.{Terminal, Transmission, silent, report, full_block, changed_block, Stepped}
use Rattle.steps.specs.Steps.{goes_to, stores, sends, cursor_cell, with_state, refusing}
use Rattle.steps.specs.Seen.{seen, cells_here, character_at, unprotected_at, modified_at, required_at, fields_here}
use Rattle.steps.specs.Seen.{entry_here, block_here}
use Rattle.table.specs.Table.{allowed}
use Rattle.sending.specs.Sending.{sends_full, send_block}
use Rattle.commands.specs.Host.{host_step}
use Rattle.keys.specs.Keys.{is_typing, is_held_back, taken_step, key_step}
use Rattle.terminal.specs.declared.Answer.TheVariants.{NoRoom, RequiredBlank}
use Rattle.terminal.specs.Runs.{fitting}
use Rattle.terminal.specs.Answers.{Outcome, gives}
use Rattle.terminal.specs.Tests.{◌answers◌, first_of, exceeds_room, key_lines}
use Rattle.promises.specs.Rules.{Rules}
use Rattle.promises.specs.Entries.{Entries}
use Rattle.wrong.specs.Entries.{with_key, with_page, with_nothing_read, with_tags_cleared}

abbrev with_on_byte : (ℕ → Terminal → Stepped) → Rules
with_on_byte on_byte = record { on_byte = on_byte; on_key = key_step }

abbrev with_on_key : (ℕ → Terminal → Stepped) → Rules
with_on_key on_key = record { on_byte = host_step; on_key = on_key }

-- A key call that does another step, after lines 1, 2, 4, 5, 7, 8 and 9; entries whose keys follow other rules.
abbrev pub key_call_by : (ℕ → Terminal → Stepped) → Terminal → ℕ → List ℕ → Outcome
key_call_by on_key t key output =
    let room = length output in
    let pressed = on_key key t ∷ [] in
    let lines = take 7 (key_lines t key output) ++ (exceeds_room room pressed answers NoRoom ∷ []) in
    gives (first_of lines) 0 t output (fitting room pressed)

abbrev pub keys_by : Rules → Entries
keys_by rules = with_key (key_call_by rules.on_key)

-- Another transmission for 266 in one of its modes: where it sends all, or where it sends what changed (M-106).
abbrev sends_changed : State → Bool
sends_changed s = not (sends_full s)

abbrev sending_where : (State → Bool) → (Terminal → Transmission) → Rules
sending_where mode transmission = with_on_key (λ key t.
    If eqb key 266 and mode t.state and not (is_held_back key t) then
    sends (transmission t) t.state (with_tags_cleared t).page
    else key_step key t)

-- A step that leaves another terminal.
abbrev leaving_terminal : Terminal → Stepped → Stepped
leaving_terminal t step =
    record {
      terminal = t;
      transmission = step.transmission;
      cells = step.cells;
      was_refused = step.was_refused;
      protection = step.protection;
    }

-- Blocks keep. What a step that sends a block leaves of the page, changed.
unfoldable pub is_block : Transmission → Bool
is_block silent = false
is_block (report bytes) = false
is_block (full_block bytes) = true
is_block (changed_block bytes) = true

abbrev page_after_block : (Page → Page) → Stepped → Stepped
page_after_block change step =
    If is_block step.transmission then
    leaving_terminal (with_page (change step.terminal.page) step.terminal) step
    else step

-- Sending clears modified on protected cells too.
abbrev pub clears_all_tags : Rules
clears_all_tags = with_on_key (λ key t.
    let clears = map (λ mark. without_modified mark) in
    page_after_block (λ page. page_of page.characters (clears page.marks)) (key_step key t))

-- Sending takes the visual marks from unprotected cells.
abbrev pub clears_looks : Rules
clears_looks = with_on_key (λ key t.
    let plain = map (λ mark. If is_protected mark then mark else 0) in
    page_after_block (λ page. page_of page.characters (plain page.marks)) (key_step key t))

-- ESC S unprotects the first cell.
abbrev pub unprotects_first : Rules
unprotects_first = with_on_byte (λ b t.
    page_after_block (λ page. page_of page.characters (set page.marks 0 0)) (host_step b t))

-- Blocks asked for. Where 266 is to send what changed it clears modified and sends nothing,
abbrev pub withholds_changed : Rules
withholds_changed = sending_where sends_changed (λ t. silent)

-- or ESC S sends by the mode of 266.
abbrev pub esc_sby_mode : Rules
esc_sby_mode = with_on_byte (λ b t.
    If eqb t.state.half.kind 1 and eqb b (code "S") then send_block (sends_full t.state) (with_nothing_read t)
    else host_step b t)

-- Blocks asked for, and the bound. A full block by 266 ends with 03 twice,
abbrev pub ends_twice : Rules
ends_twice = sending_where sends_full (λ t. full_block (block_here true t ++ (0x03 ∷ [])))

-- or a changed block is 35,139 bytes of 03, whatever the page.
abbrev pub sends_fixed_block : Rules
sends_fixed_block = sending_where sends_changed (λ t. changed_block (replicate 35139 0x03))

-- or ESC S is held back where 266 is.
abbrev pub holds_esc_sback : Rules
holds_esc_sback = with_on_byte (λ b t.
    If eqb t.state.half.kind 1 and eqb b (code "S") and some_left_blank (seen t) then
    goes_to t.state (with_nothing_read t)
    else host_step b t)

-- Required fields. 266 is held back by another test,
abbrev holding_back_where : (Terminal → Bool) → Rules
holding_back_where test = with_on_key (λ key t.
    If eqb key 266 and test t then goes_to t.state t
    else If eqb key 266 then taken_step key t
    else key_step key t)

-- and 9 is given by it.
abbrev pub held_back_call : (Terminal → Bool) → Rules → Terminal → ℕ → List ℕ → Outcome
held_back_call test rules t key output =
    let room = length output in
    let pressed = rules.on_key key t ∷ [] in
    let held = (eqb key 266 and test t) answers RequiredBlank in
    let lines = take 6 (key_lines t key output) ++ (held ∷ exceeds_room room pressed answers NoRoom ∷ []) in
    gives (first_of lines) 0 t output (fitting room pressed)

-- The fields that are to be sent are looked at alone;
unfoldable pub some_sent_blank : Terminal → List Field → Bool
some_sent_blank t fields =
    let full = sends_full t.state in
    some (λ (field : Field). is_in_block full (seen t).marks field and is_left_blank (seen t) field) fields

abbrev pub looks_at_what_it_sends : Rules
looks_at_what_it_sends = holding_back_where (λ t. some_sent_blank t (fields_here t))

abbrev pub looks_at_what_it_sends_calls : Entries
looks_at_what_it_sends_calls = with_key (held_back_call (λ t. some_sent_blank t (fields_here t)) looks_at_what_it_sends)

-- or of a field the required cells alone.
unfoldable pub required_blank : Terminal → Field → Bool
required_blank t field =
    some_from (required_at t) field.start field.length
    and all_from (λ cell. not (required_at t cell) or eqb (character_at t cell) 0x20) field.start field.length

abbrev pub looks_at_required_cells : Rules
looks_at_required_cells = holding_back_where (λ t. some (required_blank t) (fields_here t))

abbrev pub looks_at_required_cells_calls : Entries
looks_at_required_cells_calls =
    with_key (held_back_call (λ t. some (required_blank t) (fields_here t)) looks_at_required_cells)

-- What a field is. One that runs over its first row's end is sent as two,
unfoldable pub cut_at_row_end : ℕ → Field → List Field
cut_at_row_end columns field =
    let room = columns - field.start % columns in
    let begun : Field = record { start = field.start; length = room } in
    let rest : Field = record { start = field.start + room; length = field.length - room } in
    If leb field.length room then field ∷ []
    else begun ∷ rest ∷ []

abbrev pub cuts_at_row_end : Rules
cuts_at_row_end = sending_where sends_full (λ t.
    full_block (encode (map (entry_here t) (flat_map (cut_at_row_end t.state.size.columns) (fields_here t)))))

-- or the last cell is joined to the first, so that where both are unprotected no field starts at the first.
abbrev pub joins_last_to_first : Rules
joins_last_to_first = sending_where sends_full (λ t.
    let both = unprotected_at t 0 and unprotected_at t (cells_here t - 1) in
    full_block (encode (map (entry_here t) (drop (If both then 1 else 0) (fields_here t)))))

-- Why a command is refused. A spoilt sequence is first looked up in the table: an unknown final byte is given 1.
abbrev pub unknown_before_spoilt : Rules
unknown_before_spoilt = with_on_byte (λ b t.
    If t.state.half.spoilt and b is 0x40 to 0x7E and eqb (allowed b).most 0 then
    refusing UnknownCommand b (with_nothing_read t)
    else host_step b t)

-- A step that leaves other locks; one that leaves another byte beside the message.
abbrev leaving_locks : Locks → Stepped → Stepped
leaving_locks locks step = leaving_terminal (with_state step.terminal (with_locks step.terminal.state locks)) step

abbrev leaving_byte : ℕ → Stepped → Stepped
leaving_byte byte step =
    let left = step.terminal.state.locks in
    leaving_locks (record { manual = left.manual; soft = left.soft; message = left.message; byte = byte }) step

-- The byte that spoilt is kept: it goes beside the message as it comes, and is left there at the final byte.
abbrev pub keeps_spoiling_byte : Rules
keeps_spoiling_byte = with_on_byte (λ b t.
    let step = host_step b t in
    If t.state.half.spoilt and step.was_refused then leaving_byte t.state.locks.byte step
    else If step.terminal.state.half.spoilt then leaving_byte b step
    else step)

-- A command refused while a message stands leaves that message's byte.
abbrev pub keeps_first_byte : Rules
keeps_first_byte = with_on_byte (λ b t.
    let step = host_step b t in
    If step.was_refused and not (eqb t.state.locks.message 0) then leaving_byte t.state.locks.byte step
    else step)

-- A refused command tells its message and byte and locks nothing.
abbrev pub locks_nothing : Rules
locks_nothing = with_on_byte (λ b t.
    let step = host_step b t in
    let left = step.terminal.state.locks in
    let soft = t.state.locks.soft in
    let unlocked : Locks = record { manual = left.manual; soft = soft; message = left.message; byte = left.byte } in
    If step.was_refused then leaving_locks unlocked step
    else step)

-- Keys take. A character is typed into any unprotected cell,
abbrev pub types_anything : Rules
types_anything = with_on_key (λ key t. If is_typing key then taken_step key t else key_step key t)

-- 264 carries characters without asking the cells that they come to,
abbrev pub carries_anything : Rules
carries_anything = with_on_key (λ key t. If eqb key 264 then taken_step key t else key_step key t)

-- or a typed character takes bits from n to before m off its cell:
abbrev typing_clears : ℕ → ℕ → Rules
typing_clears n m = with_on_key (λ key t.
    let step = key_step key t in
    let marks = step.terminal.page.marks in
    let cell = cursor_cell t.state in
    let page = page_of step.terminal.page.characters (set marks cell (without_bits n m (get_or marks cell 0))) in
    If is_typing key then stores step.cells step.protection step.terminal.state page
    else step)

-- it makes its cell plain, or no longer required.
abbrev pub makes_plain : Rules
makes_plain = typing_clears 7 9

abbrev pub takes_required_off : Rules
takes_required_off = typing_clears 9 10

-- Message and byte. Text clears them,
abbrev pub text_clears : Rules
text_clears = with_on_byte (λ b t.
    If eqb t.state.half.kind 0 and b is 0x20 to 0x7E then leaving_locks no_locks (host_step b t)
    else host_step b t)

-- or 268 takes the soft lock off and leaves them.
abbrev pub unlocks_only : Rules
unlocks_only = with_on_key (λ key t.
    let was = t.state.locks in
    let locks : Locks = record { manual = was.manual; soft = false; message = was.message; byte = was.byte } in
    If eqb key 268 then leaving_locks locks (key_step key t)
    else key_step key t)

-- A step that leaves the mode of 266 at full blocks, or at changed ones.
abbrev leaving_mode : Bool → Stepped → Stepped
leaving_mode full step = leaving_terminal (with_state step.terminal (with_full step.terminal.state full)) step

-- What 266 sends. h and l of mode >6 are swapped,
abbrev pub swaps_set_and_reset : Rules
swaps_set_and_reset = with_on_byte (λ b t.
    let half = t.state.half in
    let swapped = If eqb b (code "h") then code "l" else If eqb b (code "l") then code "h" else b in
    If eqb half.kind 5 and eqb (argument_of half 0) 6 then host_step swapped t
    else host_step b t)

-- or ESC c keeps the mode,
abbrev pub esc_ckeeps_mode : Rules
esc_ckeeps_mode = with_on_byte (λ b t.
    If eqb t.state.half.kind 1 and eqb b (code "c") then leaving_mode (sends_full t.state) (host_step b t)
    else host_step b t)

-- or mode 6, without the >, resets it too: ESC [ 6 l,
abbrev pub resets_without_mark : Rules
resets_without_mark = with_on_byte (λ b t.
    let step = host_step b t in
    If eqb t.state.half.kind 3 and eqb b (code "l") and not step.was_refused then leaving_mode true step
    else step)

-- or 266 sends all once, and from there on what changed.
abbrev pub sends_all_once : Rules
sends_all_once = with_on_key (λ key t. If eqb key 266 then leaving_mode false (key_step key t) else key_step key t)

-- The copy. A changed block has those fields whose first cell is modified.
unfoldable pub first_cell_block : Terminal → List ℕ
first_cell_block t =
    encode (map (entry_here t) (selected (λ (field : Field). modified_at t field.start) (fields_here t)))

abbrev pub looks_at_first_cells : Rules
looks_at_first_cells = sending_where sends_changed (λ t. changed_block (first_cell_block t))

-- A changed block is feigned: 03 alone, whatever was typed.
abbrev pub feigns_changed_blocks : Rules
feigns_changed_blocks = sending_where sends_changed (λ t. changed_block (0x03 ∷ []))

-- A typed character leaves the tag clear, always,
abbrev untagged : Terminal → Stepped → Stepped
untagged t step =
    let page = page_of step.terminal.page.characters t.page.marks in
    stores step.cells step.protection step.terminal.state page

abbrev pub never_tags : Rules
never_tags = with_on_key (λ key t. If is_typing key then untagged t (key_step key t) else key_step key t)

-- or when it stores the same character.
abbrev pub tags_only_changes : Rules
tags_only_changes = with_on_key (λ key t.
    If is_typing key and eqb key (character_at t (cursor_cell t.state)) then untagged t (key_step key t)
    else key_step key t)

-- Sending doesn't clear modified.
abbrev pub keeps_tags : Rules
keeps_tags = record {
  on_byte = λ b t. page_after_block (λ page. t.page) (host_step b t);
  on_key = λ key t. page_after_block (λ page. t.page) (key_step key t);
}
