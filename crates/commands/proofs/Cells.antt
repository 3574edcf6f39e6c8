-- What the commands leave in the cells, computed on streams worked out by hand from document 01.
use mathlib.Core.Path.{◌≡◌, refl}
use mathlib.Core.List.{List, [], ◌∷◌, ◌++◌, map}
use mathlib.Core.Bool.{Bool, true, false}
use Prim.Native.Nat.{ℕ}
use Prim.Native.Char.{code}
use lib.ListN.{get_or}
use Rattle.page.specs.Page.{Page, page_of}
use Rattle.places.specs.Places.{cell_at}
use Rattle.steps.specs.Steps.{Terminal}
use Rattle.words.specs.Text.{bytes}
use Rattle.commands.proofs.Computing.{host_steps}
use Rattle.commands.proofs.Streams.{esc, run, terminal_with, fresh, streams}

-- A scroll on the page of 24 by 80, of which a few cells are looked at: a row, a column, and what stands there.
record Cell : Type 0 where
  row : ℕ
  column : ℕ
  character : ℕ
  mark : ℕ

cell : ℕ → ℕ → ℕ → ℕ → Cell
cell row column character mark = record { row = row; column = column; character = character; mark = mark }

-- The cell at the same row and column of another page.
seen_at : Page → Cell → Cell
seen_at page c =
    let here = cell_at 80 c.row c.column in
    cell c.row c.column (get_or page.characters here 0) (get_or page.marks here 0)

record Scroll : Type 0 where
  stream : List ℕ
  row : ℕ
  column : ℕ
  count : ℕ
  cells : List Cell

scroll : List ℕ → ℕ → ℕ → ℕ → List Cell → Scroll
scroll stream row column count cells = record { stream = stream; row = row; column = column; count = count; cells = cells }

-- The same example, as the definitions have it.
as_run : Scroll → Scroll
as_run s =
    let ran = run fresh s.stream in
    let state = ran.terminal.state in
    scroll s.stream state.cursor.row state.cursor.column ran.count
    (map (seen_at ran.terminal.page) s.cells)

-- A at 1;1, B at 2;3, C bold and protected at 24;1: the cursor is left at 24;2, three cells are stored, and the pen
-- stays.
filled : List ℕ
filled = bytes "A" ++ esc "[2;3H" ++ bytes "B" ++ esc "[24;1H" ++ esc "[1m" ++ esc "V" ++ bytes "C"

-- Each row went up: A is lost, B is in row 1, C in row 23, and the row that came in has 20 with marks 0, whatever the
-- pen.
moved_up : List Cell
moved_up =
    cell 1 1 0x20 0 ∷ cell 1 3 (code "B") 0 ∷ cell 2 3 0x20 0 ∷ cell 23 1 (code "C") 5
    ∷ cell 24 1 0x20 0 ∷ cell 24 2 0x20 0 ∷ cell 24 80 0x20 0 ∷ []

-- Each row went down: C is lost.
moved_down : List Cell
moved_down =
    cell 1 1 0x20 0 ∷ cell 1 80 0x20 0 ∷ cell 2 1 (code "A") 0 ∷ cell 2 3 0x20 0 ∷ cell 3 3 (code "B") 0
    ∷ cell 23 1 0x20 0 ∷ cell 24 1 0x20 0 ∷ []

scrolls : List Scroll
scrolls =
    -- nothing scrolled yet
    scroll filled 24 2 3 (cell 1 1 (code "A") 0 ∷ cell 2 3 (code "B") 0 ∷ cell 24 1 (code "C") 5 ∷ cell 24 2 0x20 0 ∷ [])
    -- in row 24: ESC D, 0A, and ESC E, which goes to column 1
    ∷ scroll (filled ++ esc "D") 24 2 1923 moved_up
    ∷ scroll (filled ++ (0x0A ∷ [])) 24 2 1923 moved_up
    ∷ scroll (filled ++ esc "E") 24 1 1923 moved_up
    -- in row 1: ESC M
    ∷ scroll (filled ++ esc "[1;7H" ++ esc "M") 1 7 1923 moved_down
    -- in row 23 ESC D, and in row 2 ESC M, only move the cursor
    ∷ scroll (filled ++ esc "[23;1H" ++ esc "D") 24 1 3 (cell 1 1 (code "A") 0 ∷ cell 24 1 (code "C") 5 ∷ [])
    ∷ scroll (filled ++ esc "[2;1H" ++ esc "M") 1 1 3 (cell 1 1 (code "A") 0 ∷ cell 24 1 (code "C") 5 ∷ [])
    ∷ []

scrolled_as_worked_out : map as_run scrolls ≡ scrolls
unfolding host_steps streams cell seen_at scroll as_run filled moved_up moved_down scrolls
scrolled_as_worked_out = refl

-- A page of 3 rows by 4 columns, small enough to be shown whole. No call takes its size, which line 1 refuses; the
-- steps go by the same rules on any R and C. Protected: 1;2 2;1 2;4 3;3, the last two with visual marks; modified: 2;2
-- and 3;4.
small : Terminal
small =
    terminal_with 3 4 (page_of
    (bytes "ABCDEFGHIJKL")
    (0 ∷ 1 ∷ 4 ∷ 0 ∷ 1 ∷ 2 ∷ 8 ∷ 9 ∷ 0 ∷ 0 ∷ 5 ∷ 18 ∷ []))

record Example : Type 0 where
  stream : List ℕ
  row : ℕ
  column : ℕ
  locked : Bool
  count : ℕ
  page : Page

-- A cursor, whether a command was refused, a count, and the page's characters and marks.
leaves : List ℕ → ℕ → ℕ → Bool → ℕ → List ℕ → List ℕ → Example
leaves stream row column locked count characters marks =
    record { stream = stream; row = row; column = column; locked = locked; count = count; page = page_of characters marks }

-- The same example, as the definitions have it.
as_left : Example → Example
as_left e =
    let ran = run small e.stream in
    let state = ran.terminal.state in
    let page = ran.terminal.page in
    leaves e.stream state.cursor.row state.cursor.column state.locks.soft ran.count
    page.characters page.marks

at2x2 : List ℕ
at2x2 = esc "[2;2H"

-- 6 h: erasure mode set.
erasure_set : List ℕ
erasure_set = esc "[6h"

examples : List Example
examples =
    -- from 2;2, erasure mode reset: K, 1 K and 2 K pass the protected 2;1 and 2;4 by
    leaves (at2x2 ++ esc "[K") 2 2 false 2
    (bytes "ABCDE  HIJKL")
    (0 ∷ 1 ∷ 4 ∷ 0 ∷ 1 ∷ 0 ∷ 0 ∷ 9 ∷ 0 ∷ 0 ∷ 5 ∷ 18 ∷ [])
    ∷ leaves (at2x2 ++ esc "[1K") 2 2 false 1
    (bytes "ABCDE GHIJKL")
    (0 ∷ 1 ∷ 4 ∷ 0 ∷ 1 ∷ 0 ∷ 8 ∷ 9 ∷ 0 ∷ 0 ∷ 5 ∷ 18 ∷ [])
    ∷ leaves (at2x2 ++ esc "[2K") 2 2 false 2
    (bytes "ABCDE  HIJKL")
    (0 ∷ 1 ∷ 4 ∷ 0 ∷ 1 ∷ 0 ∷ 0 ∷ 9 ∷ 0 ∷ 0 ∷ 5 ∷ 18 ∷ [])
    -- the same with erasure mode set: protected cells are erased and counted
    ∷ leaves (erasure_set ++ at2x2 ++ esc "[K") 2 2 false 3
    (bytes "ABCDE   IJKL")
    (0 ∷ 1 ∷ 4 ∷ 0 ∷ 1 ∷ 0 ∷ 0 ∷ 0 ∷ 0 ∷ 0 ∷ 5 ∷ 18 ∷ [])
    ∷ leaves (erasure_set ++ at2x2 ++ esc "[1K") 2 2 false 2
    (bytes "ABCD  GHIJKL")
    (0 ∷ 1 ∷ 4 ∷ 0 ∷ 0 ∷ 0 ∷ 8 ∷ 9 ∷ 0 ∷ 0 ∷ 5 ∷ 18 ∷ [])
    ∷ leaves (erasure_set ++ at2x2 ++ esc "[2K") 2 2 false 4
    (bytes "ABCD    IJKL")
    (0 ∷ 1 ∷ 4 ∷ 0 ∷ 0 ∷ 0 ∷ 0 ∷ 0 ∷ 0 ∷ 0 ∷ 5 ∷ 18 ∷ [])
    -- J, 1 J and 2 J with erasure mode reset, and 2 J with it set
    ∷ leaves (at2x2 ++ esc "[J") 2 2 false 5
    (bytes "ABCDE  H  K ")
    (0 ∷ 1 ∷ 4 ∷ 0 ∷ 1 ∷ 0 ∷ 0 ∷ 9 ∷ 0 ∷ 0 ∷ 5 ∷ 0 ∷ [])
    ∷ leaves (at2x2 ++ esc "[1J") 2 2 false 4
    (bytes " B  E GHIJKL")
    (0 ∷ 1 ∷ 0 ∷ 0 ∷ 1 ∷ 0 ∷ 8 ∷ 9 ∷ 0 ∷ 0 ∷ 5 ∷ 18 ∷ [])
    ∷ leaves (at2x2 ++ esc "[2J") 2 2 false 8
    (bytes " B  E  H  K ")
    (0 ∷ 1 ∷ 0 ∷ 0 ∷ 1 ∷ 0 ∷ 0 ∷ 9 ∷ 0 ∷ 0 ∷ 5 ∷ 0 ∷ [])
    ∷ leaves (erasure_set ++ at2x2 ++ esc "[2J") 2 2 false 12
    (bytes "            ")
    (0 ∷ 0 ∷ 0 ∷ 0 ∷ 0 ∷ 0 ∷ 0 ∷ 0 ∷ 0 ∷ 0 ∷ 0 ∷ 0 ∷ [])
    -- text takes the pen for its marks: 7 m and ESC V, over a modified cell; in the last cell it doesn't scroll
    ∷ leaves (at2x2 ++ esc "[7m" ++ esc "V" ++ bytes "Z") 2 3 false 1
    (bytes "ABCDEZGHIJKL")
    (0 ∷ 1 ∷ 4 ∷ 0 ∷ 1 ∷ 33 ∷ 8 ∷ 9 ∷ 0 ∷ 0 ∷ 5 ∷ 18 ∷ [])
    ∷ leaves (esc "[3;4H" ++ bytes "Z") 1 1 false 1
    (bytes "ABCDEFGHIJKZ")
    (0 ∷ 1 ∷ 4 ∷ 0 ∷ 1 ∷ 2 ∷ 8 ∷ 9 ∷ 0 ∷ 0 ∷ 5 ∷ 0 ∷ [])
    -- a plain pen's text on the protected 1;2 takes its protection away
    ∷ leaves (esc "[1;2H" ++ bytes "Z") 1 3 false 1
    (bytes "AZCDEFGHIJKL")
    (0 ∷ 0 ∷ 4 ∷ 0 ∷ 1 ∷ 2 ∷ 8 ∷ 9 ∷ 0 ∷ 0 ∷ 5 ∷ 18 ∷ [])
    -- ESC D in the last row and ESC M in the first, protected cells and all; ESC c
    ∷ leaves (esc "[3;2H" ++ esc "D") 3 2 false 12
    (bytes "EFGHIJKL    ")
    (1 ∷ 2 ∷ 8 ∷ 9 ∷ 0 ∷ 0 ∷ 5 ∷ 18 ∷ 0 ∷ 0 ∷ 0 ∷ 0 ∷ [])
    ∷ leaves (esc "[1;2H" ++ esc "M") 1 2 false 12
    (bytes "    ABCDEFGH")
    (0 ∷ 0 ∷ 0 ∷ 0 ∷ 0 ∷ 1 ∷ 4 ∷ 0 ∷ 1 ∷ 2 ∷ 8 ∷ 9 ∷ [])
    ∷ leaves (at2x2 ++ esc "c") 1 1 false 12
    (bytes "            ")
    (0 ∷ 0 ∷ 0 ∷ 0 ∷ 0 ∷ 0 ∷ 0 ∷ 0 ∷ 0 ∷ 0 ∷ 0 ∷ 0 ∷ [])
    -- ESC S stores nothing; it clears modified on the two cells that had it, and blinking stays
    ∷ leaves (at2x2 ++ esc "S") 2 2 false 0
    (bytes "ABCDEFGHIJKL")
    (0 ∷ 1 ∷ 4 ∷ 0 ∷ 1 ∷ 0 ∷ 8 ∷ 9 ∷ 0 ∷ 0 ∷ 5 ∷ 16 ∷ [])
    -- 3 J is refused, and no cell is touched
    ∷ leaves (at2x2 ++ esc "[3J") 2 2 true 0
    (bytes "ABCDEFGHIJKL")
    (0 ∷ 1 ∷ 4 ∷ 0 ∷ 1 ∷ 2 ∷ 8 ∷ 9 ∷ 0 ∷ 0 ∷ 5 ∷ 18 ∷ [])
    ∷ []

as_worked_out : map as_left examples ≡ examples
unfolding host_steps streams small leaves as_left at2x2 erasure_set examples
as_worked_out = refl

-- What ESC S sends: A at 1;1, C and D at 1;3, F and G at 2;2, I and J at 3;1, L at 3;4, then 03.
full_block_sent : (run small (esc "S")).sent
    ≡ esc "[1;1fA" ++ esc "[1;3fCD" ++ esc "[2;2fFG" ++ esc "[3;1fIJ" ++ esc "[3;4fL" ++ (0x03 ∷ [])
unfolding host_steps streams small
full_block_sent = refl
