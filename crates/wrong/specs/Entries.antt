-- Wrong entries: each is ours with a fault, under the promise that it breaks (proofs/).
use Rattle.std.specs.Prelude.{Bool, true, false, List, [], ◌∷◌, reverse, length, take, get_or, set, replicate}
use Rattle.std.specs.Prelude.{ℕ, ◌+◌, ltb, eqb}
use Prim.Native.Char.{code}
use Rattle.words.specs.Choice.{If◌then◌else◌, ◌and◌, ◌or◌}
use Rattle.words.specs.Output.{placed}
use Rattle.sequence.specs.Record.{nothing_read}
use Rattle.page.specs.Page.{Page, page_of, typed, blanked, part_stored, modified_cleared}
use Rattle.state.specs.declared.Locks.{Locks}
use Rattle.state.specs.declared.Size.{Size}
use Rattle.state.specs.State.{with_cursor, cursor_at, with_locks, with_half}
use Rattle.state.specs.Pen.{with_full}
use Rattle.steps.specs.Steps.{Terminal, Stepped, with_state, stores, cursor_cell, row_start}
use Rattle.commands.specs.Host.{host_step}
use Rattle.keys.specs.Keys.{is_typing, is_editing, is_locked, cells_from, key_step}
use Rattle.terminal.specs.declared.Answer.TheVariants.{Done, NoRoom, Locked, TooLong}
use Rattle.terminal.specs.Runs.{steps_of, bytes_sent_by}
use Rattle.terminal.specs.Answers.{Outcome, unchanged, after_steps}
use Rattle.terminal.specs.Calls.{start_call, host_call, key_call}
use Rattle.promises.specs.Entries.{Entries}

-- Ours with another function for one of the three.
abbrev with_start : (Size → Page → Outcome) → Entries
with_start start = record { start = start; host = host_call; key = key_call }

abbrev with_host : (Terminal → List ℕ → List ℕ → Outcome) → Entries
with_host host = record { start = start_call; host = host; key = key_call }

abbrev pub with_key : (Terminal → ℕ → List ℕ → Outcome) → Entries
with_key key = record { start = start_call; host = host_call; key = key }

-- An outcome with other parts; one with another terminal, other bytes taken, another count, another output.
abbrev outcome_with : ℕ → ℕ → ℕ → ℕ → Terminal → List ℕ → Outcome → Outcome
outcome_with number taken sent stored t output o =
    record {
      number = number;
      taken = taken;
      sent = sent;
      stored = stored;
      refused = o.refused;
      protection = o.protection;
      terminal = t;
      output = output;
    }

abbrev leaving : Terminal → Outcome → Outcome
leaving t o = outcome_with o.number o.taken o.sent o.stored t o.output o

abbrev taking : ℕ → Outcome → Outcome
taking taken o = outcome_with o.number taken o.sent o.stored o.terminal o.output o

abbrev pub counting : ℕ → Outcome → Outcome
counting stored o = outcome_with o.number o.taken o.sent stored o.terminal o.output o

abbrev pub showing : List ℕ → Outcome → Outcome
showing output o = outcome_with o.number o.taken o.sent o.stored o.terminal output o

-- One that tells otherwise of refused commands and of protection.
abbrev telling : ℕ → Bool → Outcome → Outcome
telling refused protection o =
    record {
      number = o.number;
      taken = o.taken;
      sent = o.sent;
      stored = o.stored;
      refused = refused;
      protection = protection;
      terminal = o.terminal;
      output = o.output;
    }

-- A terminal with another page, with nothing half read, with no cell modified.
abbrev pub with_page : Page → Terminal → Terminal
with_page page t = record { state = t.state; page = page }

abbrev pub with_nothing_read : Terminal → Terminal
with_nothing_read t = with_state t (with_half t.state nothing_read)

abbrev pub with_tags_cleared : Terminal → Terminal
with_tags_cleared t = with_page (page_of t.page.characters (modified_cleared t.page.marks)) t

-- An outcome that leaves nothing half read; one changed only where it is given 0, or 3.
abbrev pub without_half_read : Outcome → Outcome
without_half_read o = leaving (with_nothing_read o.terminal) o

abbrev on0 : (Outcome → Outcome) → Outcome → Outcome
on0 change o = If eqb o.number 0 then change o else o

abbrev on3 : (Outcome → Outcome) → Outcome → Outcome
on3 change o = If eqb o.number 3 then change o else o

-- Ours with what every host call gives and leaves changed.
abbrev changing_host : (Outcome → Outcome) → Entries
changing_host change = with_host (λ t bytes output. change (host_call t bytes output))

-- Demand 1, numbers. It always refuses: every host call is given 6.
abbrev pub always_refuses : Entries
always_refuses = with_host (λ t bytes output. unchanged TooLong t output)

-- Under a lock it gives 5 before 4.
abbrev pub locked_before_unknown : Entries
locked_before_unknown = with_key (λ t key output.
    let outcome = key_call t key output in
    If eqb outcome.number 4 and is_locked t.state then unchanged Locked t output
    else outcome)

-- Demand 1, refusals. A start given 1 blanks the page that it was lent.
abbrev pub blanks_refused_start : Entries
blanks_refused_start = with_start (λ size page.
    let outcome = start_call size page in
    let blank = page_of (replicate (length page.characters) 0x20) page.marks in
    If eqb outcome.number 0 then outcome
    else leaving (with_page blank outcome.terminal) outcome)

-- 266 given 3 clears modified all the same.
abbrev pub clears_tags_refused : Entries
clears_tags_refused = with_key (λ t key output. on3 (leaving (with_tags_cleared t)) (key_call t key output))

-- A host call given 3 loses the sequence that its next command has begun.
abbrev pub loses_sequence_on3 : Entries
loses_sequence_on3 = changing_host (on3 without_half_read)

-- Demand 2, what a call given 0 did. A start leaves an X on the page, a locked keyboard (ESC `) and invented counts.
abbrev painted_over : Terminal → Terminal
painted_over t = (host_step (code "`") (host_step 0x1B (host_step (code "X") t).terminal).terminal).terminal

abbrev inventing : Outcome → Outcome
inventing o = outcome_with o.number 9 9 0 (painted_over o.terminal) o.output o

abbrev pub paints_start : Entries
paints_start = with_start (λ size page. on0 inventing (start_call size page))

-- A start of another size, with as many cells: 24 by 160 for 48 by 80.
abbrev pub starts_other_size : Entries
starts_other_size = with_start (λ size page.
    If eqb size.rows 48 and eqb size.columns 80 then start_call (record { rows = 24; columns = 160 }) page
    else start_call size page)

-- The field that a start leaves. A start clears the characters and keeps the marks that it was lent,
abbrev pub start_keeps_marks : Entries
start_keeps_marks = with_start (λ size page.
    let outcome = start_call size page in
    on0 (leaving (with_page (page_of outcome.terminal.page.characters page.marks) outcome.terminal)) outcome)

-- or it protects the first cell.
abbrev pub start_protects_first : Entries
start_protects_first = with_start (λ size page.
    let outcome = start_call size page in
    let left = outcome.terminal.page in
    on0 (leaving (with_page (page_of left.characters (set left.marks 0 1)) outcome.terminal)) outcome)

-- What 266 sends. After a start it sends all.
abbrev pub start_sends_all : Entries
start_sends_all = with_start (λ size page.
    let outcome = start_call size page in
    let left = outcome.terminal in
    on0 (leaving (with_state left (with_full left.state true))) outcome)

-- With the start of `paints_start`, some keys are given what ours are given and move the cursor as ours do, and nothing
-- is stored, counted or tagged:
abbrev feigned : Terminal → ℕ → Outcome → Outcome
feigned t key o = outcome_with o.number 0 0 0 (with_state t (key_step key t).terminal.state) o.output o

abbrev muting : (ℕ → Terminal → Bool) → Entries
muting which = record {
  start = paints_start.start;
  host = host_call;
  key = λ t key output. If which key t then on0 (feigned t key) (key_call t key output) else key_call t key output;
}

-- a character that the cell already holds;
abbrev pub skips_same_character : Entries
skips_same_character = muting (λ key t. is_typing key and eqb key (get_or t.page.characters (cursor_cell t.state) 0))

-- all keys that store, 32 to 126 and 263 to 265.
abbrev pub dead_keys : Entries
dead_keys = muting (λ key t. is_typing key or is_editing key)

-- A host call tells of one byte more taken than came.
abbrev pub takes_more : Entries
takes_more = changing_host (on0 (λ o. taking (o.taken + 1) o))

-- It writes a 1 past the bytes sent, at the output's tenth place.
abbrev pub writes_past : Entries
writes_past = changing_host (on0 (λ o. showing (set o.output 9 1) o))

-- It tells of no refused command; it denies that protection may have changed.
abbrev pub hides_refusals : Entries
hides_refusals = changing_host (λ o. telling 0 o.protection o)

abbrev pub denies_protection : Entries
denies_protection = changing_host (λ o. telling o.refused false o)

-- Demand 2, cutting. What is half read is lost when a call ends.
abbrev pub drops_half_read : Entries
drops_half_read = changing_host without_half_read

-- It acts on the first byte and feigns the rest.
abbrev pub acts_on_first_byte : Entries
acts_on_first_byte = with_host (λ t bytes output. taking (length bytes) (host_call t (take 1 bytes) output))

-- Demand 2, feeding back. It stores nothing that the host sends.
abbrev pub stores_no_text : Entries
stores_no_text = with_host (λ t bytes output.
    let outcome = host_call t bytes output in
    leaving (with_page t.page outcome.terminal) outcome)

-- It has a fixed answer: all input is taken, and nothing is done.
abbrev pub fixed_answer : Entries
fixed_answer = with_host (λ t bytes output. taking (length bytes) (unchanged Done t output))

-- It gives 6 to more than 16 host bytes in a call.
abbrev pub refuses_long_reads : Entries
refuses_long_reads = with_host (λ t bytes output.
    If ltb 16 (length bytes) then unchanged TooLong t output
    else host_call t bytes output)

-- Demand 2, keys. 263 makes the cursor's whole row 20s, protected cells too.
abbrev row_blanked : Terminal → Stepped
row_blanked t =
    let from = row_start t.state in
    let end = from + t.state.size.columns in
    stores (cells_from from end) false t.state (part_stored blanked from end t.page)

abbrev pub blanks_row : Entries
blanks_row = with_key (λ t key output.
    let outcome = key_call t key output in
    If eqb key 263 and eqb outcome.number 0 then after_steps Done 0 t output (row_blanked t ∷ [])
    else outcome)

-- A typed character is stored on a protected cell too.
abbrev pub types_on_protected : Entries
types_on_protected = with_key (λ t key output.
    let outcome = key_call t key output in
    let cell = cursor_cell t.state in
    If is_typing key and eqb outcome.number 7 then
    after_steps Done 0 t output (stores (cell ∷ []) false t.state (typed cell key t.page) ∷ [])
    else outcome)

-- Validity. A host call leaves the cursor in row 0.
abbrev pub leaves_row0 : Entries
leaves_row0 = changing_host (λ o.
    let s = o.terminal.state in
    leaving (with_state o.terminal (with_cursor s (cursor_at 0 s.cursor.column))) o)

-- What a key leaves, with another message and byte.
abbrev messaging : ℕ → ℕ → Outcome → Outcome
messaging message byte o =
    let s = o.terminal.state in
    let locks : Locks = record { manual = s.locks.manual; soft = s.locks.soft; message = message; byte = byte } in
    leaving (with_state o.terminal (with_locks s locks)) o

-- A key sets message 5.
abbrev pub sets_message5 : Entries
sets_message5 = with_key (λ t key output. messaging 5 0 (key_call t key output))

-- 268 takes the message away and leaves its byte.
abbrev pub leaves_byte : Entries
leaves_byte = with_key (λ t key output.
    let outcome = key_call t key output in
    If eqb key 268 then messaging 0 t.state.locks.byte outcome
    else outcome)

-- Continuing. A call given 3 tells of no cells stored, though commands before it were done.
abbrev pub forgets_count_on3 : Entries
forgets_count_on3 = changing_host (on3 (counting 0))

-- A call given 3 takes the last byte of the command that it doesn't do.
abbrev pub takes_last_byte_on3 : Entries
takes_last_byte_on3 = changing_host (on3 (λ o. taking (o.taken + 1) o))

-- Progress. Every host call is given 3 and does nothing, however much room it has.
abbrev pub stops_at_once : Entries
stops_at_once = with_host (λ t bytes output. unchanged NoRoom t output)

-- A call given 3 hides what it has sent.
abbrev pub hides_sent_on3 : Entries
hides_sent_on3 = changing_host (on3 (λ o. outcome_with o.number o.taken 0 o.stored o.terminal o.output o))

-- Calls are steps. An invented count of cells stored.
abbrev pub invents_count : Entries
invents_count = changing_host (λ o. counting (o.stored + 1) o)

-- The transmissions of a host call, the last one first.
abbrev pub sends_backwards : Entries
sends_backwards = with_host (λ t bytes output.
    let outcome = host_call t bytes output in
    showing (placed 0 (bytes_sent_by (reverse (steps_of t (take outcome.taken bytes)))) output) outcome)
