-- M-100: wrong codings of the state and wrong panels, each ours with a fault, under the promise that it breaks.
use Rattle.std.specs.Prelude.{not, List, ◌++◌, reverse, ℕ, eqb, ltb, length, take, drop, get_or, set, replicate}
use Rattle.words.specs.Choice.{If◌then◌else◌}
use Rattle.page.specs.Page.{page_of}
use Rattle.state.specs.Tests.{size_fits}
use Rattle.terminal.specs.Calls.{host_call}
use Rattle.record.specs.Bytes.{flag_byte}
use Rattle.record.specs.Record.{record_length, record_of, state_in, is_good}
use Rattle.panel.specs.Panel.{Lent, Left, lent_of, page_in, terminal_in, untouched, refused_with, left_by, wrong_length}
use Rattle.panel.specs.Panel.{panel_start, panel_host, panel_key}
use Rattle.promises.specs.Panel.{Panel, Coding}

-- Ours with another function for one of the three.
abbrev with_start : (ℕ → ℕ → Lent → Left) → Panel
with_start start = record { start = start; host = panel_host; key = panel_key }

abbrev with_host : (Lent → List ℕ → Left) → Panel
with_host host = record { start = panel_start; host = host; key = panel_key }

abbrev with_key : (Lent → ℕ → Left) → Panel
with_key key = record { start = panel_start; host = panel_host; key = key }

-- What a call leaves, with another record; with other marks; with another result slice.
abbrev pub with_record : List ℕ → Left → Left
with_record packed left =
    let lent = left.lent in
    untouched left.number (lent_of packed lent.characters lent.marks lent.output lent.result)

abbrev with_marks : List ℕ → Left → Left
with_marks marks left =
    let lent = left.lent in
    untouched left.number (lent_of lent.packed lent.characters marks lent.output lent.result)

abbrev with_result : List ℕ → Left → Left
with_result result left =
    let lent = left.lent in
    untouched left.number (lent_of lent.packed lent.characters lent.marks lent.output result)

-- The number of M-100's own refusals, by the lengths of result slice and record; 0 is neither.
abbrev own_number : Lent → ℕ
own_number lent = wrong_length lent.packed lent.result

-- One record. The erasure mode's flag may be any byte: those other than 0 are read as true, and are taken.
abbrev any_flag : List ℕ → List ℕ
any_flag bytes = set bytes 10 (flag_byte (not (eqb (get_or bytes 10 0) 0)))

abbrev pub takes_any_flag : Coding
takes_any_flag = record {
  write = record_of;
  read = λ bytes. state_in (any_flag bytes);
  takes = λ bytes. is_good (any_flag bytes);
}

-- The tab stop of column 160 is written as 0.
abbrev pub loses_last_stop : Coding
loses_last_stop = record { write = λ s. set (record_of s) 194 0; read = state_in; takes = is_good }

-- The rows are written with the high byte first, and read with the low one first.
abbrev pub first_two_swapped : List ℕ → List ℕ
first_two_swapped bytes = set (set bytes 0 (get_or bytes 1 0)) 1 (get_or bytes 0 0)

abbrev pub high_byte_first : Coding
high_byte_first = record { write = λ s. first_two_swapped (record_of s); read = state_in; takes = is_good }

-- Numbers. Host bytes are read with bad content too: it gives what the entry gives.
abbrev pub takes_bad_content : Panel
takes_bad_content = with_host (λ lent bytes.
    let wrong = own_number lent in
    If ltb 0 wrong then untouched wrong lent
    else If not (size_fits (state_in lent.packed).size (page_in lent)) then refused_with 1 lent
    else left_by lent (host_call (terminal_in lent) bytes lent.output))

-- The record's length is tested before the result slice's.
abbrev pub record_before_result : Panel
record_before_result = with_host (λ lent bytes.
    If not (eqb (length lent.packed) record_length) then untouched 2 lent
    else panel_host lent bytes)

-- Bad content gives 2 though the size is not listed.
abbrev pub content_before_size : Panel
content_before_size = with_host (λ lent bytes.
    let wrong = own_number lent in
    If ltb 0 wrong then untouched wrong lent
    else If not (is_good lent.packed) then refused_with 2 lent
    else panel_host lent bytes)

-- Marks of one byte a cell are taken as they are.
abbrev pub takes_one_byte_marks : Panel
takes_one_byte_marks = with_host (λ lent bytes.
    let page = page_of lent.characters lent.marks in
    If eqb (length lent.marks) (length lent.characters)
    then left_by lent (host_call (record { state = state_in lent.packed; page = page }) bytes lent.output)
    else panel_host lent bytes)

-- Refusals. One of M-100's own fills the result slice with zeros.
abbrev pub zeroes_results : Panel
zeroes_results = with_host (λ lent bytes.
    let left = panel_host lent bytes in
    If ltb 0 (own_number lent) then with_result (replicate (length lent.result) 0) left
    else left)

-- A start that is refused for its size leaves the record as it was.
abbrev pub refused_start_keeps_record : Panel
refused_start_keeps_record = with_start (λ rows columns lent.
    let left = panel_start rows columns lent in
    If ltb 0 left.number then with_record lent.packed left
    else left)

-- As called. Host bytes leave the record as it was: half a sequence is lost between two reads.
abbrev pub forgets_the_record : Panel
forgets_the_record = with_host (λ lent bytes. with_record lent.packed (panel_host lent bytes))

-- The first cell's marks are left with the high byte first.
abbrev pub marks_high_byte_first : Panel
marks_high_byte_first = with_host (λ lent bytes.
    let left = panel_host lent bytes in
    with_marks (first_two_swapped left.lent.marks) left)

-- The counts in the result slice have the high byte first.
abbrev pub counts_reversed : List ℕ → List ℕ
counts_reversed result =
    take 1 result
    ++ reverse (take 4 (drop 1 result))
    ++ reverse (take 4 (drop 5 result))
    ++ reverse (take 4 (drop 9 result))

abbrev pub counts_high_byte_first : Panel
counts_high_byte_first = with_host (λ lent bytes.
    let left = panel_host lent bytes in
    If ltb 0 (own_number lent) then left
    else with_result (counts_reversed left.lent.result) left)

-- Validity. The record that host bytes leave has 2 in the erasure mode's flag.
abbrev pub leaves_flag2 : Panel
leaves_flag2 = with_host (λ lent bytes.
    let left = panel_host lent bytes in
    If eqb left.number 0 then with_record (set left.lent.packed 10 2) left
    else left)

-- A key leaves a record of zeros.
abbrev pub leaves_no_size : Panel
leaves_no_size = with_key (λ lent key.
    let left = panel_key lent key in
    If eqb left.number 0 then with_record (replicate record_length 0) left
    else left)
