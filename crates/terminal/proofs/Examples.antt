-- The starred examples of document 01, and M-106's form cut after each of its bytes, computed from the definitions that
-- the entries' contracts cite: each on a fresh 24 by 80 terminal brought there by calls.
use mathlib.Core.Path.{◌≡◌, refl}
use mathlib.Core.List.{List, [], ◌∷◌, ◌++◌, map}
use mathlib.Core.Bool.{Bool, true, false}
use Prim.Native.Char.{code}
use Prim.Native.Nat.{ℕ}
use Prim.Native.String.{String}
use lib.ListN.{take, drop, replicate}
use Rattle.words.specs.Choice.{If◌then◌else◌, ◌and◌, ◌or◌, ◌is◌to◌}
use Rattle.words.specs.Lists.{within, every, some, some_from, each_from, numbers_from, selected}
use Rattle.words.specs.Output.{placed}
use Rattle.words.specs.Text.{bytes}
use Rattle.sequence.specs.Record.{arguments_fit, largest_argument, valid_half_read, with_digit, with_next_argument}
use Rattle.sequence.specs.Reading.{is_control, is_cancel, outside_sequence, after_esc, after_intermediate, after_bracket, right_after_bracket, after_private_mark, sequence_read_on, inside_sequence, advance_of}
use Rattle.page.specs.Marks.{valid_mark, unprotected}
use Rattle.page.specs.Page.{page_of, valid_page, text_stored, mark_after_block, modified_cleared}
use Rattle.places.specs.Places.{place_of}
use Rattle.output.specs.Decimal.{decimal, place_bytes}
use Rattle.fields.specs.Fields.{joined, starts_field, end_from, field_end, fields_from, fields_of}
use Rattle.fields.specs.Required.{is_left_blank, some_left_blank}
use Rattle.blocks.specs.Blocks.{entry_bytes, encode, entry_of, is_in_block, entries_sent, block}
use Rattle.state.specs.State.{message_of, refused}
use Rattle.state.specs.Moves.{on_by, right_by}
use Rattle.state.specs.Pen.{valid_pen}
use Rattle.state.specs.Tests.{listed_rows, listed_columns, listed_size, size_fits, cursor_fits, stops_fit, valid_message, valid_state}
use Rattle.steps.specs.Steps.{Terminal, bytes_of, block_transmission}
use Rattle.table.specs.Table.{allowed, value_of}
use Rattle.state.specs.Moves.{to_next_cell}
use Rattle.commands.specs.Text.{text_step}
use Rattle.commands.specs.Commands.{fresh_step, listed_step, bracket_step}
use Rattle.sending.specs.Sending.{send_block}
use Rattle.table.specs.PrivateForms.{private_step}
use Rattle.table.specs.Moves.{to_column, to_row, to_place, kept_column, is_move, move_step}
use Rattle.commands.specs.Host.{event_step, host_step}
use Rattle.keys.specs.Keys.{is_typing, is_editing, is_field_move, is_known, is_locked, is_locked_out, lacks_cell, is_not_taken, is_held_back, taken_step, key_step}
use Rattle.terminal.specs.Runs.{steps_of, fitting, after, bytes_sent_by, cells_stored_by, count_of, refused_by, protection_by}
use Rattle.terminal.specs.Answers.{number_of, Outcome, unchanged, after_steps, changes_nothing, gives}
use Rattle.terminal.specs.Tests.{first_of, exceeds_room, passes_line2, start_lines, host_refusals, key_refusals, host_lines, key_lines}
use Rattle.terminal.specs.Calls.{start_step, start_call, host_call, key_call}

-- A call of host bytes or of a key, with so much room in the output.
data ExampleCall : Type 0 where
  host : ℕ → List ℕ → ExampleCall
  key : ℕ → ℕ → ExampleCall

outcome : ExampleCall → Terminal → Outcome
outcome (host room bytes) t = host_call t bytes (replicate room 0)
outcome (key room number) t = key_call t number (replicate room 0)

-- What the last of some calls gives.
last : Outcome → List ExampleCall → Outcome
last given [] = given
last given (call ∷ later) = last (outcome call given.terminal) later

started : Outcome
started = start_call (record { rows = 24; columns = 80 }) (page_of (replicate 1920 0) (replicate 1920 0))

-- What document 01 tells of a call: number, cursor, soft lock, message (by M-102, with its byte), cells stored, bytes
-- sent.
record Seen : Type 0 where
  number : ℕ
  row : ℕ
  column : ℕ
  locked : Bool
  message : ℕ
  byte : ℕ
  stored : ℕ
  sent : List ℕ

seen : Outcome → Seen
seen given =
    record {
      number = given.number;
      row = given.terminal.state.cursor.row;
      column = given.terminal.state.cursor.column;
      locked = given.terminal.state.locks.soft;
      message = given.terminal.state.locks.message;
      byte = given.terminal.state.locks.byte;
      stored = given.stored;
      sent = take given.sent given.output;
    }

record Example : Type 0 where
  calls : List ExampleCall
  gives : Seen

-- A cursor and a count, no lock; and a refused command, at 1;1, with its message and byte.
goes : ℕ → ℕ → ℕ → Seen
goes row column stored =
    record { number = 0; row = row; column = column; locked = false; message = 0; byte = 0; stored = stored; sent = [] }

refuses : ℕ → ℕ → Seen
refuses message byte =
    record { number = 0; row = 1; column = 1; locked = true; message = message; byte = byte; stored = 0; sent = [] }

-- A key at 1;1 that stores nothing.
keyed : ℕ → List ℕ → Seen
keyed number sent =
    record { number = number; row = 1; column = 1; locked = false; message = 0; byte = 0; stored = 0; sent = sent }

infix 68 ◌leave◌
◌leave◌ : List ExampleCall → Seen → Example
calls leave given = record { calls = calls; gives = given }

sequence : String → ExampleCall
sequence text = host 0 (bytes "\u{1b}[" ++ bytes text)

at4x20 : ExampleCall
at4x20 = sequence "4;20H"

at24x80 : ExampleCall
at24x80 = sequence "24;80H"

examples : List Example
examples =
    -- ESC [ 24 ; 80 H and ESC [ 25 ; 1 H
    (at24x80 ∷ []) leave goes 24 80 0
    ∷ (sequence "25;1H" ∷ []) leave refuses 2 (code "H")
    -- ESC [ 81 G and ESC [ 25 d
    ∷ (sequence "81G" ∷ []) leave goes 1 1 0
    ∷ (sequence "25d" ∷ []) leave refuses 2 (code "d")
    -- from 4;20: ESC [ 3 G, ESC [ 5 f, ESC [ 5 H
    ∷ (at4x20 ∷ sequence "3G" ∷ []) leave goes 4 3 0
    ∷ (at4x20 ∷ sequence "5f" ∷ []) leave goes 5 20 0
    ∷ (at4x20 ∷ sequence "5H" ∷ []) leave goes 5 1 0
    -- text A at 24;80
    ∷ (at24x80 ∷ host 0 (bytes "A") ∷ []) leave goes 1 1 1
    -- nine arguments to m
    ∷ (sequence "1;1;1;1;1;1;1;1;1m" ∷ []) leave refuses 3 (code "m")
    -- 9999 to C, and 10000
    ∷ (sequence "9999C" ∷ []) leave goes 1 80 0
    ∷ (sequence "10000C" ∷ []) leave refuses 3 (code "C")
    -- an empty host call
    ∷ (host 0 [] ∷ []) leave goes 1 1 0
    -- key 266 with no room, and with room for one byte, nothing modified
    ∷ (key 0 266 ∷ []) leave keyed 3 []
    ∷ (key 1 266 ∷ []) leave keyed 0 (0x03 ∷ [])
    ∷ []

-- All that is unfolded on the way.
unfoldable computed : Unit {0}
unfolding outcome last started seen goes refuses keyed ◌leave◌ sequence If◌then◌else◌ ◌and◌ ◌or◌ ◌is◌to◌ within every some each_from numbers_from selected placed arguments_fit largest_argument valid_half_read with_digit with_next_argument is_control is_cancel outside_sequence after_esc after_intermediate after_bracket right_after_bracket after_private_mark sequence_read_on inside_sequence advance_of valid_mark unprotected valid_page text_stored mark_after_block modified_cleared place_of joined starts_field end_from field_end fields_from fields_of decimal place_bytes entry_bytes encode entry_of some_from is_in_block is_left_blank some_left_blank entries_sent block message_of refused on_by right_by valid_pen listed_rows listed_columns listed_size size_fits cursor_fits stops_fit valid_message valid_state bytes_of block_transmission allowed value_of to_next_cell text_step fresh_step send_block to_column to_row to_place kept_column is_move move_step listed_step bracket_step private_step event_step host_step is_typing is_editing is_field_move is_known is_locked is_locked_out lacks_cell is_not_taken is_held_back taken_step key_step steps_of fitting after bytes_sent_by cells_stored_by count_of refused_by protection_by number_of unchanged after_steps changes_nothing gives first_of exceeds_room passes_line2 start_lines host_refusals key_refusals host_lines key_lines start_step start_call host_call key_call
computed = tt

-- Each leaves what document 01 says.
as_document_01 : map (λ (e : Example). seen (last started e.calls)) examples ≡ map (λ (e : Example). e.gives) examples
unfolding computed at4x20 at24x80 examples
as_document_01 = refl

-- A stream in two calls, cut after so many bytes; in a call for each byte.
cut_after : ℕ → List ℕ → List ExampleCall
cut_after n stream = host 0 (take n stream) ∷ host 0 (drop n stream) ∷ []

byte_by_byte : List ℕ → List ExampleCall
byte_by_byte stream = map (λ (byte : ℕ). host 0 (byte ∷ [])) stream

-- Five ways to cut five bytes.
cuts : List ℕ → List (List ExampleCall)
cuts stream = cut_after 1 stream ∷ cut_after 2 stream ∷ cut_after 3 stream ∷ cut_after 4 stream ∷ byte_by_byte stream ∷ []

-- With room for one byte, 266 has no room for a full block, nor sends more than 03 of a page with nothing modified.
send : ExampleCall
send = key 1 266

reset : List ℕ
reset = bytes "\u{1b}[>6l"

set : List ℕ
set = bytes "\u{1b}[>6h"

cut_examples : List Example
cut_examples =
    map (λ (calls : List ExampleCall). (calls ++ (send ∷ [])) leave keyed 3 []) (cuts reset)
    ++ map (λ (calls : List ExampleCall). (host 0 reset ∷ calls ++ (send ∷ [])) leave keyed 0 (0x03 ∷ [])) (cuts set)
    -- no private form, cut where it goes wrong: refused at the final byte all the same
    ++ ((host 0 (bytes "\u{1b}[0") ∷ host 0 (bytes ">6l") ∷ []) leave refuses 3 (code "l")
    ∷ (host 0 (bytes "\u{1b}[>") ∷ host 0 (bytes ">6l") ∷ []) leave refuses 3 (code "l")
    ∷ (host 0 (bytes "\u{1b}[>6") ∷ host 0 (bytes ";l") ∷ []) leave refuses 3 (code "l")
    ∷ [])

-- Each leaves what M-106 says.
cut_anywhere : map (λ (e : Example). seen (last started e.calls)) cut_examples ≡ map (λ (e : Example). e.gives) cut_examples
unfolding computed cut_after byte_by_byte cuts send reset set cut_examples
cut_anywhere = refl
