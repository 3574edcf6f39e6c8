-- The definitions of the keys, computed on keys worked out by hand from documents 01 and 02.
use mathlib.Core.Path.{◌≡◌, refl}
use mathlib.Core.List.{List, [], ◌∷◌, ◌++◌, map}
use mathlib.Core.Bool.{Bool, true, false}
use Prim.Native.Nat.{ℕ}
use Prim.Native.Char.{code}
use lib.ListN.{length, replicate}
use Rattle.words.specs.Choice.{If◌then◌else◌, ◌and◌, ◌or◌, ◌is◌to◌}
use Rattle.words.specs.Text.{bytes}
use Rattle.words.specs.Lists.{within, some, all_from, some_from, each_from, numbers_from, on_part, selected}
use Rattle.page.specs.Marks.{numeric_takes, alphabetic_takes, takes, unprotected}
use Rattle.page.specs.Page.{Page, page_of, takes_from_right, takes_from_left, typed, tagged, blanked, closed_up, moved_right, mark_after_block, modified_cleared}
use Rattle.places.specs.Places.{place_of}
use Rattle.output.specs.Decimal.{decimal, place_bytes}
use Rattle.fields.specs.Fields.{joined, starts_field, field_start, end_from, field_end, fields_from, fields_of}
use Rattle.fields.specs.Searches.{or_else, first_field, last_field, first_after, last_before, next_field, previous_field, first_unprotected_from, first_unprotected, next_unprotected}
use Rattle.fields.specs.Required.{is_left_blank, some_left_blank}
use Rattle.blocks.specs.Blocks.{entry_bytes, encode, entry_of, is_in_block, entries_sent, block}
use Rattle.state.specs.State.{fresh_state, with_cursor, cursor_at, with_locks, unlocked}
use Rattle.state.specs.Moves.{back_by, on_by, up_by, down_by, right_by, left_by}
use Rattle.state.specs.Pen.{with_full}
use Rattle.steps.specs.Steps.{Terminal, with_state, bytes_of, block_transmission}
use Rattle.sending.specs.Sending.{send_block}
use Rattle.keys.specs.Keys.{is_typing, is_editing, is_field_move, is_known, is_locked, is_locked_out, no_field, lacks_cell, is_not_taken, is_held_back, gone_to, typed_step, to_next_field, to_previous_field, to_first_unprotected, field_blanked, rest_shifted, taken_step, key_step}

-- A page of 2 rows by 8 columns, small enough to be shown whole. No call takes its size, which line 1 refuses; the
-- steps go by the same rules on any R and C.
--     # A B C D E # F     protected, -, bold, underline, reverse, -, protected and modified, -
--     G H . I : J K L     modified, blink, protected, concealed, the rest protected
-- Its fields: A to E at 1;2, F to H at 1;8, which runs on into the second row, and I at 2;4.
characters : List ℕ
characters =
    bytes "#ABCDE#FGH.I:JKL"

marks : List ℕ
marks =
    1 ∷ 0 ∷ 4 ∷ 8 ∷ 32 ∷ 0 ∷ 3 ∷ 0
    ∷ 2 ∷ 16 ∷ 1 ∷ 64 ∷ 1 ∷ 1 ∷ 1 ∷ 1 ∷ []

-- The cursor at a row and a column, nothing locked.
on : Page → ℕ → ℕ → Terminal
on page row column = record { state = with_cursor (fresh_state (record { rows = 2; columns = 8 })) (cursor_at row column); page = page }

-- What a key leaves, the cells that it stores and the bytes that it sends.
record Seen : Type 0 where
  row : ℕ
  column : ℕ
  count : ℕ
  sent : List ℕ
  page : Page

record Example : Type 0 where
  start : Terminal
  key : ℕ
  seen : Seen

as_run : Example → Seen
as_run e =
    let step = key_step e.key e.start in
    record {
      row = step.terminal.state.cursor.row;
      column = step.terminal.state.cursor.column;
      count = length step.cells;
      sent = bytes_of step.transmission;
      page = step.terminal.page;
    }

-- On a page, from a row and a column, a key goes to a row and a column, and does nothing else.
goes_on : Page → ℕ → ℕ → ℕ → ℕ → ℕ → Example
goes_on page row column key to_row to_column =
    record {
      start = on page row column;
      key = key;
      seen = record { row = to_row; column = to_column; count = 0; sent = []; page = page };
    }

-- There, it stores so many cells, which leaves these characters and marks.
stored_on : Page → ℕ → ℕ → ℕ → ℕ → ℕ → ℕ → List ℕ → List ℕ → Example
stored_on page row column key to_row to_column count characters_after marks_after =
    record {
      start = on page row column;
      key = key;
      seen = record { row = to_row; column = to_column; count = count; sent = []; page = page_of characters_after marks_after };
    }

-- It sends a block, which leaves these marks; the cursor stays.
sent_on : Page → ℕ → ℕ → ℕ → List ℕ → List ℕ → Example
sent_on page row column key bytes marks_after =
    record {
      start = on page row column;
      key = key;
      seen = record { row = row; column = column; count = 0; sent = bytes; page = page_of page.characters marks_after };
    }

-- The same with the Unprotected/Modified mode reset: 266 sends a full block.
in_full : Terminal → Terminal
in_full t = with_state t (with_full t.state true)

all_sent_on : Page → ℕ → ℕ → List ℕ → List ℕ → Example
all_sent_on page row column bytes marks_after =
    record {
      start = in_full (on page row column);
      key = 266;
      seen = record { row = row; column = column; count = 0; sent = bytes; page = page_of page.characters marks_after };
    }

-- All that on the page above.
goes : ℕ → ℕ → ℕ → ℕ → ℕ → Example
goes = goes_on (page_of characters marks)

stored : ℕ → ℕ → ℕ → ℕ → ℕ → ℕ → List ℕ → List ℕ → Example
stored = stored_on (page_of characters marks)

sent : ℕ → ℕ → ℕ → List ℕ → List ℕ → Example
sent = sent_on (page_of characters marks)

all_sent : ℕ → ℕ → List ℕ → List ℕ → Example
all_sent = all_sent_on (page_of characters marks)

-- A page with no unprotected cell; three cells are enough.
closed : Page
closed = page_of (bytes "ABC") (1 ∷ 5 ∷ 3 ∷ [])

-- A page whose two fields, A and B at 1;1 and C and D at 2;7, have its first cell and its last.
ends : Page
ends = page_of (bytes "AB............CD") (0 ∷ 0 ∷ replicate 12 1 ++ (0 ∷ 0 ∷ []))

-- A page that is one field.
whole : Page
whole = page_of (bytes "ABCDEFGHIJKLMNOP") (replicate 16 0)

-- A page of mixed cells, of two fields. N stands for numeric, A for alphabetic, + for bold, m for modified.
--     # 1 - A . b c #     protected, N, N+, A, A, -, A, protected
--     # 7 X 5 # # # #     protected, -, A, Nm, the rest protected
kinds : Page
kinds = page_of (bytes "#1-A.bc##7X5####") (1 ∷ 128 ∷ 132 ∷ 256 ∷ 256 ∷ 0 ∷ 256 ∷ 1 ∷ 1 ∷ 0 ∷ 256 ∷ 130 ∷ replicate 4 1)

-- M-107: a page of two fields, at 1;2 and from 1;7 on over the row's end, with these characters and marks in them.
required : List ℕ → List ℕ → List ℕ → List ℕ → Page
required first second marks_of_first marks_of_second =
    page_of
    (code "#" ∷ first ++ (code "#" ∷ code "#" ∷ second ++ bytes "######"))
    (1 ∷ marks_of_first ++ (1 ∷ 1 ∷ marks_of_second ++ replicate 6 1))

-- What its two rows become: the marks of the six cells and of the three.
kinds_after : List ℕ → List ℕ → List ℕ
kinds_after first second = (1 ∷ first) ++ (1 ∷ 1 ∷ second) ++ replicate 4 1

examples : List Example
examples =
    -- X typed on B, which is bold: bold stays, and the cell becomes modified; the same where B is typed on B
    stored 1 3 (code "X") 1 4 1
    (bytes "#AXCDE#FGH.I:JKL")
    (1 ∷ 0 ∷ 6 ∷ 8 ∷ 32 ∷ 0 ∷ 3 ∷ 0 ∷ 2 ∷ 16 ∷ 1 ∷ 64 ∷ 1 ∷ 1 ∷ 1 ∷ 1 ∷ [])
    ∷ stored 1 3 (code "B") 1 4 1 characters
    (1 ∷ 0 ∷ 6 ∷ 8 ∷ 32 ∷ 0 ∷ 3 ∷ 0 ∷ 2 ∷ 16 ∷ 1 ∷ 64 ∷ 1 ∷ 1 ∷ 1 ∷ 1 ∷ [])
    -- on E: the cursor passes the protected cell by; on F: into the next row; on G, modified already
    ∷ stored 1 6 (code "X") 1 8 1
    (bytes "#ABCDX#FGH.I:JKL")
    (1 ∷ 0 ∷ 4 ∷ 8 ∷ 32 ∷ 2 ∷ 3 ∷ 0 ∷ 2 ∷ 16 ∷ 1 ∷ 64 ∷ 1 ∷ 1 ∷ 1 ∷ 1 ∷ [])
    ∷ stored 1 8 (code "X") 2 1 1
    (bytes "#ABCDE#XGH.I:JKL")
    (1 ∷ 0 ∷ 4 ∷ 8 ∷ 32 ∷ 0 ∷ 3 ∷ 2 ∷ 2 ∷ 16 ∷ 1 ∷ 64 ∷ 1 ∷ 1 ∷ 1 ∷ 1 ∷ [])
    ∷ stored 2 1 (code "~") 2 2 1
    (bytes "#ABCDE#F~H.I:JKL")
    marks
    -- on I, the last unprotected cell: the cursor goes round the page
    ∷ stored 2 4 (code " ") 1 2 1
    (bytes "#ABCDE#FGH. :JKL")
    (1 ∷ 0 ∷ 4 ∷ 8 ∷ 32 ∷ 0 ∷ 3 ∷ 0 ∷ 2 ∷ 16 ∷ 1 ∷ 66 ∷ 1 ∷ 1 ∷ 1 ∷ 1 ∷ [])
    -- 263 on C: A to E become 20s, each modified, visual marks stay; the cursor goes to 1;2. On F, and on
    -- G: F to H, in two rows
    ∷ stored 1 4 263 1 2 5
    (bytes "#     #FGH.I:JKL")
    (1 ∷ 2 ∷ 6 ∷ 10 ∷ 34 ∷ 2 ∷ 3 ∷ 0 ∷ 2 ∷ 16 ∷ 1 ∷ 64 ∷ 1 ∷ 1 ∷ 1 ∷ 1 ∷ [])
    ∷ stored 1 8 263 1 8 3
    (bytes "#ABCDE#   .I:JKL")
    (1 ∷ 0 ∷ 4 ∷ 8 ∷ 32 ∷ 0 ∷ 3 ∷ 2 ∷ 2 ∷ 18 ∷ 1 ∷ 64 ∷ 1 ∷ 1 ∷ 1 ∷ 1 ∷ [])
    ∷ stored 2 1 263 1 8 3
    (bytes "#ABCDE#   .I:JKL")
    (1 ∷ 0 ∷ 4 ∷ 8 ∷ 32 ∷ 0 ∷ 3 ∷ 2 ∷ 2 ∷ 18 ∷ 1 ∷ 64 ∷ 1 ∷ 1 ∷ 1 ∷ 1 ∷ [])
    -- 264 on B: C to E close up, a 20 at the end; A is not touched, visual marks stay in their cells. On E: a 20.
    -- On F: G comes up over the row's end
    ∷ stored 1 3 264 1 3 4
    (bytes "#ACDE #FGH.I:JKL")
    (1 ∷ 0 ∷ 6 ∷ 10 ∷ 34 ∷ 2 ∷ 3 ∷ 0 ∷ 2 ∷ 16 ∷ 1 ∷ 64 ∷ 1 ∷ 1 ∷ 1 ∷ 1 ∷ [])
    ∷ stored 1 6 264 1 6 1
    (bytes "#ABCD #FGH.I:JKL")
    (1 ∷ 0 ∷ 4 ∷ 8 ∷ 32 ∷ 2 ∷ 3 ∷ 0 ∷ 2 ∷ 16 ∷ 1 ∷ 64 ∷ 1 ∷ 1 ∷ 1 ∷ 1 ∷ [])
    ∷ stored 1 8 264 1 8 3
    (bytes "#ABCDE#GH .I:JKL")
    (1 ∷ 0 ∷ 4 ∷ 8 ∷ 32 ∷ 0 ∷ 3 ∷ 2 ∷ 2 ∷ 18 ∷ 1 ∷ 64 ∷ 1 ∷ 1 ∷ 1 ∷ 1 ∷ [])
    -- 265 on B: a 20 there, B to D move right, E is lost. On F: F goes down over the row's end. On G: F stays
    ∷ stored 1 3 265 1 3 4
    (bytes "#A BCD#FGH.I:JKL")
    (1 ∷ 0 ∷ 6 ∷ 10 ∷ 34 ∷ 2 ∷ 3 ∷ 0 ∷ 2 ∷ 16 ∷ 1 ∷ 64 ∷ 1 ∷ 1 ∷ 1 ∷ 1 ∷ [])
    ∷ stored 1 8 265 1 8 3
    (bytes "#ABCDE# FG.I:JKL")
    (1 ∷ 0 ∷ 4 ∷ 8 ∷ 32 ∷ 0 ∷ 3 ∷ 2 ∷ 2 ∷ 18 ∷ 1 ∷ 64 ∷ 1 ∷ 1 ∷ 1 ∷ 1 ∷ [])
    ∷ stored 2 1 265 2 1 2
    (bytes "#ABCDE#F G.I:JKL")
    (1 ∷ 0 ∷ 4 ∷ 8 ∷ 32 ∷ 0 ∷ 3 ∷ 0 ∷ 2 ∷ 18 ∷ 1 ∷ 64 ∷ 1 ∷ 1 ∷ 1 ∷ 1 ∷ [])
    -- on a protected cell none of these does anything
    ∷ goes 1 1 (code "X") 1 1
    ∷ goes 1 7 263 1 7
    ∷ goes 1 7 264 1 7
    ∷ goes 2 3 265 2 3
    -- 256 to 259, up, down, left and right: a step, and at the edge none
    ∷ goes 2 8 256 1 8
    ∷ goes 1 8 256 1 8
    ∷ goes 1 8 257 2 8
    ∷ goes 2 8 257 2 8
    ∷ goes 2 2 258 2 1
    ∷ goes 2 1 258 2 1
    ∷ goes 1 7 259 1 8
    ∷ goes 1 8 259 1 8
    -- 260: a field that starts at the cursor doesn't start after it; past the last field the first
    ∷ goes 1 1 260 1 2
    ∷ goes 1 2 260 1 8
    ∷ goes 1 4 260 1 8
    ∷ goes 1 8 260 2 4
    ∷ goes 2 1 260 2 4
    ∷ goes 2 4 260 1 2
    -- 261: within a field its own start, in the row above too; at or before the first field's start the last
    ∷ goes 2 8 261 2 4
    ∷ goes 2 1 261 1 8
    ∷ goes 1 4 261 1 2
    ∷ goes 1 2 261 2 4
    -- 262
    ∷ goes 2 8 262 1 2
    -- no unprotected cell: 260 and 261 do nothing, 262 goes to 1;1
    ∷ goes_on closed 1 3 260 1 3
    ∷ goes_on closed 1 3 261 1 3
    ∷ goes_on closed 1 3 262 1 1
    -- 266 sends ESC [ 1 ; 8 f F G H 03, the one field with a modified cell; the protected cell stays modified
    ∷ sent 1 4 266
    (bytes "\u{1b}[1;8fFGH\u{3}")
    (1 ∷ 0 ∷ 4 ∷ 8 ∷ 32 ∷ 0 ∷ 3 ∷ 0 ∷ 0 ∷ 16 ∷ 1 ∷ 64 ∷ 1 ∷ 1 ∷ 1 ∷ 1 ∷ [])
    -- by its mode it sends all three
    ∷ all_sent 1 4
    (bytes "\u{1b}[1;2fABCDE\u{1b}[1;8fFGH\u{1b}[2;4fI\u{3}")
    (1 ∷ 0 ∷ 4 ∷ 8 ∷ 32 ∷ 0 ∷ 3 ∷ 0 ∷ 0 ∷ 16 ∷ 1 ∷ 64 ∷ 1 ∷ 1 ∷ 1 ∷ 1 ∷ [])
    -- the page's last cell is not joined to its first: 263 on C and 264 on D end with the page, 265 on A leaves C and
    -- D, 260 on C and 261 on A go round it, and 266 sends two fields, if all
    ∷ stored_on ends 2 7 263 2 7 2 (bytes "AB............  ") (0 ∷ 0 ∷ replicate 12 1 ++ (2 ∷ 2 ∷ []))
    ∷ stored_on ends 2 8 264 2 8 1 (bytes "AB............C ") (0 ∷ 0 ∷ replicate 12 1 ++ (0 ∷ 2 ∷ []))
    ∷ stored_on ends 1 1 265 1 1 2 (bytes " A............CD") (2 ∷ 2 ∷ replicate 12 1 ++ (0 ∷ 0 ∷ []))
    ∷ goes_on ends 2 7 260 1 1
    ∷ goes_on ends 1 1 261 2 7
    ∷ all_sent_on ends 1 1 (bytes "\u{1b}[1;1fAB\u{1b}[2;7fCD\u{3}") ends.marks
    -- one field of a whole page: 260 and 261 find its start, 265 moves what is behind the cursor, 263 blanks and 266
    -- sends all of it
    ∷ goes_on whole 2 8 260 1 1
    ∷ goes_on whole 2 8 261 1 1
    ∷ stored_on whole 1 8 265 1 8 9 (bytes "ABCDEFG HIJKLMNO") (replicate 7 0 ++ replicate 9 2)
    ∷ stored_on whole 2 3 263 1 1 16 (bytes "                ") (replicate 16 2)
    ∷ all_sent_on whole 2 8 (bytes "\u{1b}[1;1fABCDEFGHIJKLMNOP\u{3}") whole.marks
    -- M-103: O is not taken by a numeric cell, nor 5 by an alphabetic one; a blank is stored in any, and what a cell
    -- takes, whose kind stays; a plain cell takes all
    ∷ goes_on kinds 1 2 (code "O") 1 2
    ∷ goes_on kinds 1 4 (code "5") 1 4
    ∷ stored_on kinds 1 2 (code " ") 1 3 1 (bytes "# -A.bc##7X5####") (kinds_after (130 ∷ 132 ∷ 256 ∷ 256 ∷ 0 ∷ 256 ∷ []) (0 ∷ 256 ∷ 130 ∷ []))
    ∷ stored_on kinds 1 3 (code "5") 1 4 1 (bytes "#15A.bc##7X5####") (kinds_after (128 ∷ 134 ∷ 256 ∷ 256 ∷ 0 ∷ 256 ∷ []) (0 ∷ 256 ∷ 130 ∷ []))
    ∷ stored_on kinds 1 4 (code "x") 1 5 1 (bytes "#1-x.bc##7X5####") (kinds_after (128 ∷ 132 ∷ 258 ∷ 256 ∷ 0 ∷ 256 ∷ []) (0 ∷ 256 ∷ 130 ∷ []))
    ∷ stored_on kinds 2 2 (code "O") 2 3 1 (bytes "#1-A.bc##OX5####") (kinds_after (128 ∷ 132 ∷ 256 ∷ 256 ∷ 0 ∷ 256 ∷ []) (2 ∷ 256 ∷ 130 ∷ []))
    -- 264 on the second cell would carry A into a numeric cell, 265 there carries; 264 on A carries
    ∷ goes_on kinds 1 3 264 1 3
    ∷ stored_on kinds 1 3 265 1 3 5 (bytes "#1 -A.b##7X5####") (kinds_after (128 ∷ 134 ∷ 258 ∷ 258 ∷ 2 ∷ 258 ∷ []) (0 ∷ 256 ∷ 130 ∷ []))
    ∷ stored_on kinds 1 4 264 1 4 4 (bytes "#1-.bc ##7X5####") (kinds_after (128 ∷ 132 ∷ 258 ∷ 258 ∷ 2 ∷ 258 ∷ []) (0 ∷ 256 ∷ 130 ∷ []))
    -- on 7, 264 would carry 5 into an alphabetic cell and 265 the 7; on a field's last cell neither carries anything
    ∷ goes_on kinds 2 2 264 2 2
    ∷ goes_on kinds 2 2 265 2 2
    ∷ stored_on kinds 2 4 264 2 4 1 (bytes "#1-A.bc##7X ####") kinds.marks
    ∷ stored_on kinds 2 4 265 2 4 1 (bytes "#1-A.bc##7X ####") kinds.marks
    -- 263 leaves the kinds, and so does a block
    ∷ stored_on kinds 1 5 263 1 2 6 (bytes "#      ##7X5####") (kinds_after (130 ∷ 134 ∷ 258 ∷ 258 ∷ 2 ∷ 258 ∷ []) (0 ∷ 256 ∷ 130 ∷ []))
    ∷ sent_on kinds 1 1 266 (bytes "\u{1b}[2;2f7X5\u{3}") (kinds_after (128 ∷ 132 ∷ 256 ∷ 256 ∷ 0 ∷ 256 ∷ []) (0 ∷ 256 ∷ 128 ∷ []))
    -- M-107: a required cell in a blank field holds 266 back, in either mode, though nothing there is modified
    ∷ goes_on (required (bytes "   ") (bytes "1   ") (0 ∷ 512 ∷ 0 ∷ []) (2 ∷ 0 ∷ 0 ∷ 0 ∷ [])) 1 1 266 1 1
    ∷ all_sent_on (required (bytes "   ") (bytes "1   ") (0 ∷ 512 ∷ 0 ∷ []) (2 ∷ 0 ∷ 0 ∷ 0 ∷ [])) 1 1 []
    (1 ∷ 0 ∷ 512 ∷ 0 ∷ 1 ∷ 1 ∷ 2 ∷ 0 ∷ 0 ∷ 0 ∷ replicate 6 1)
    -- any other character in any cell of the field lets it pass, over the row's end, and a period is one
    ∷ sent_on (required (bytes "   ") (bytes "1   ") (0 ∷ 0 ∷ 0 ∷ []) (2 ∷ 0 ∷ 0 ∷ 640 ∷ [])) 1 1 266 (bytes "\u{1b}[1;7f1   \u{3}")
    (1 ∷ 0 ∷ 0 ∷ 0 ∷ 1 ∷ 1 ∷ 0 ∷ 0 ∷ 0 ∷ 640 ∷ replicate 6 1)
    ∷ sent_on (required (bytes "  .") (bytes "    ") (512 ∷ 0 ∷ 0 ∷ []) (0 ∷ 0 ∷ 0 ∷ 0 ∷ [])) 1 1 266 (bytes "\u{3}")
    (1 ∷ 512 ∷ 0 ∷ 0 ∷ 1 ∷ 1 ∷ 0 ∷ 0 ∷ 0 ∷ 0 ∷ replicate 6 1)
    -- 127, 267 and 269 are no keys
    ∷ goes 1 3 127 1 3
    ∷ goes 1 3 267 1 3
    ∷ goes 1 3 269 1 3
    ∷ []

-- Each key leaves what the example says.
as_worked_out : map as_run examples ≡ map (λ (e : Example). e.seen) examples
unfolding characters marks on as_run goes_on stored_on sent_on in_full all_sent_on goes stored sent all_sent closed ends whole kinds kinds_after required examples If◌then◌else◌ ◌and◌ ◌or◌ ◌is◌to◌ within each_from numbers_from on_part selected unprotected typed tagged blanked closed_up moved_right mark_after_block modified_cleared place_of decimal place_bytes joined starts_field field_start end_from field_end fields_from fields_of or_else first_field last_field first_after last_before next_field previous_field first_unprotected_from first_unprotected next_unprotected entry_bytes encode entry_of some_from is_in_block entries_sent block unlocked back_by on_by up_by down_by right_by left_by bytes_of block_transmission send_block is_typing gone_to typed_step to_next_field to_previous_field to_first_unprotected field_blanked rest_shifted is_not_taken is_held_back taken_step key_step numeric_takes alphabetic_takes takes all_from takes_from_right takes_from_left some is_left_blank some_left_blank
as_worked_out = refl

-- 268: soft lock, message and byte are cleared; the manual lock, and all else, stays. It is the one key that a lock
-- lets pass.
locked : Bool → Bool → ℕ → ℕ → Terminal
locked manual soft message byte =
    let t = on (page_of characters marks) 1 3 in
    record { state = with_locks t.state (record { manual = manual; soft = soft; message = message; byte = byte }); page = t.page }

unlocks : map (λ (t : Terminal). (key_step 268 t).terminal) (locked false true 1 0x42 ∷ locked true true 3 0 ∷ locked true false 0 0 ∷ []) ≡ (locked false false 0 0 ∷ locked true false 0 0 ∷ locked true false 0 0 ∷ [])
unfolding characters marks on locked If◌then◌else◌ ◌and◌ ◌is◌to◌ is_typing unlocked is_not_taken is_held_back taken_step key_step
unlocks = refl

locked_out : Terminal → List Bool
locked_out t = map (λ (key : ℕ). is_locked_out key t.state) (0x41 ∷ 256 ∷ 266 ∷ 268 ∷ [])

-- Either lock keeps the other keys out.
locks_out : map locked_out (locked false true 1 0x42 ∷ locked true false 0 0 ∷ locked false false 0 0 ∷ []) ≡ ((true ∷ true ∷ true ∷ false ∷ []) ∷ (true ∷ true ∷ true ∷ false ∷ []) ∷ (false ∷ false ∷ false ∷ false ∷ []) ∷ [])
unfolding characters marks on locked locked_out ◌and◌ ◌or◌ is_locked is_locked_out
locks_out = refl

-- Line 4: the numbers beside each edge of the known ones.
known : map is_known (31 ∷ 32 ∷ 126 ∷ 127 ∷ 255 ∷ 256 ∷ 266 ∷ 267 ∷ 268 ∷ 269 ∷ []) ≡ (false ∷ true ∷ true ∷ false ∷ false ∷ true ∷ true ∷ false ∷ true ∷ false ∷ [])
unfolding ◌and◌ ◌or◌ ◌is◌to◌ is_typing is_known
known = refl

-- Line 7, for A, 263, 264, 265, then 260, 261, then 256, 262 and 266: on a protected cell, on an unprotected one, and
-- with no field.
lacking : Terminal → List Bool
lacking t = map (λ (key : ℕ). lacks_cell key t) (0x41 ∷ 263 ∷ 264 ∷ 265 ∷ 260 ∷ 261 ∷ 256 ∷ 262 ∷ 266 ∷ [])

lacks : map lacking (on (page_of characters marks) 1 1 ∷ on (page_of characters marks) 1 3 ∷ on closed 1 1 ∷ []) ≡ ((true ∷ true ∷ true ∷ true ∷ false ∷ false ∷ false ∷ false ∷ false ∷ []) ∷ (false ∷ false ∷ false ∷ false ∷ false ∷ false ∷ false ∷ false ∷ false ∷ []) ∷ (true ∷ true ∷ true ∷ true ∷ true ∷ true ∷ false ∷ false ∷ false ∷ []) ∷ [])
unfolding characters marks on closed lacking If◌then◌else◌ ◌and◌ ◌or◌ ◌is◌to◌ unprotected place_of joined starts_field end_from field_end fields_from fields_of is_typing is_editing is_field_move no_field lacks_cell
lacks = refl

-- Line 8, for O, 5, a blank, 263, 264, 265 and 260: on a numeric cell, on an alphabetic one, and on a plain one before
-- an alphabetic one.
not_taken : Terminal → List Bool
not_taken t = map (λ (key : ℕ). is_not_taken key t) (0x4F ∷ 0x35 ∷ 0x20 ∷ 263 ∷ 264 ∷ 265 ∷ 260 ∷ [])

not_taken_lem : map not_taken (on kinds 1 3 ∷ on kinds 1 4 ∷ on kinds 2 2 ∷ []) ≡ ((true ∷ false ∷ false ∷ false ∷ true ∷ false ∷ false ∷ []) ∷ (false ∷ true ∷ false ∷ false ∷ false ∷ false ∷ false ∷ []) ∷ (false ∷ false ∷ false ∷ false ∷ true ∷ true ∷ false ∷ []) ∷ [])
unfolding on kinds not_taken If◌then◌else◌ ◌and◌ ◌or◌ ◌is◌to◌ numeric_takes alphabetic_takes takes all_from takes_from_right takes_from_left unprotected joined end_from field_end is_typing is_not_taken
not_taken_lem = refl

-- Line 9, for 266 and, beside it, A, 260, 263, 265, 267 and 268: with a required field blank, and with none.
held_back : Page → List Bool
held_back page = map (λ (key : ℕ). is_held_back key (on page 1 2)) (266 ∷ 0x41 ∷ 260 ∷ 263 ∷ 265 ∷ 267 ∷ 268 ∷ [])

held_back_lem : map held_back
    (required (bytes "   ") (bytes "1   ") (0 ∷ 512 ∷ 0 ∷ []) (0 ∷ 0 ∷ 0 ∷ 0 ∷ [])
    ∷ required (bytes "   ") (bytes "    ") (0 ∷ 0 ∷ 0 ∷ []) (0 ∷ 0 ∷ 0 ∷ 512 ∷ [])
    ∷ required (bytes "   ") (bytes "1   ") (0 ∷ 0 ∷ 0 ∷ []) (0 ∷ 0 ∷ 0 ∷ 512 ∷ [])
    ∷ [])
    ≡ ((true ∷ false ∷ false ∷ false ∷ false ∷ false ∷ false ∷ [])
    ∷ (true ∷ false ∷ false ∷ false ∷ false ∷ false ∷ false ∷ [])
    ∷ (false ∷ false ∷ false ∷ false ∷ false ∷ false ∷ false ∷ [])
    ∷ [])
unfolding on required held_back If◌then◌else◌ ◌and◌ ◌or◌ some all_from some_from unprotected joined starts_field end_from field_end fields_from fields_of is_left_blank some_left_blank is_held_back
held_back_lem = refl
