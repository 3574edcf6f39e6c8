-- The definitions of the commands, computed on streams worked out by hand from documents 01 and 02, each from a fresh
-- page of 24 by 80. (What they leave in the cells is shown in Cells.)
use mathlib.Core.Path.{◌≡◌, refl}
use mathlib.Core.List.{List, [], ◌∷◌, ◌++◌, map}
use mathlib.Core.Bool.{Bool, true, false}
use Prim.Native.Nat.{ℕ}
use Prim.Native.Char.{code}
use Rattle.words.specs.Text.{bytes}
use Rattle.commands.proofs.Computing.{host_steps}
use Rattle.commands.proofs.Streams.{esc, Ran, run, fresh, streams}

-- What is seen of a terminal after a stream, with the cells stored and the bytes sent on the way.
record Seen : Type 0 where
  row : ℕ
  column : ℕ
  manual : Bool
  soft : Bool
  message : ℕ
  byte : ℕ
  erasure : Bool
  pen : ℕ
  count : ℕ
  sent : List ℕ

seen_of : Ran → Seen
seen_of ran =
    let s = ran.terminal.state in
    record {
      row = s.cursor.row;
      column = s.cursor.column;
      manual = s.locks.manual;
      soft = s.locks.soft;
      message = s.locks.message;
      byte = s.locks.byte;
      erasure = s.modes.erasure;
      pen = s.modes.pen;
      count = ran.count;
      sent = ran.sent;
    }

record Example : Type 0 where
  stream : List ℕ
  seen : Seen

-- What the locks tell: no command was refused, or the last one was, with this message, at this byte.
record Told : Type 0 where
  soft : Bool
  message : ℕ
  byte : ℕ

accepted : Told
accepted = record { soft = false; message = 0; byte = 0 }

refused_as : ℕ → ℕ → Told
refused_as message byte = record { soft = true; message = message; byte = byte }

-- A cursor, whether a command was refused, a pen, a count and the bytes sent; the modes are as fresh.
gives : List ℕ → ℕ → ℕ → Told → ℕ → ℕ → List ℕ → Example
gives stream row column told pen count sent =
    record {
      stream = stream;
      seen = record {
        row = row;
        column = column;
        manual = false;
        soft = told.soft;
        message = told.message;
        byte = told.byte;
        erasure = false;
        pen = pen;
        count = count;
        sent = sent;
      };
    }

-- The locks and erasure mode: manual lock, whether a command was refused, the mode; all else is as fresh.
sets : List ℕ → Bool → Told → Bool → Example
sets stream manual told erasure =
    record {
      stream = stream;
      seen = record {
        row = 1;
        column = 1;
        manual = manual;
        soft = told.soft;
        message = told.message;
        byte = told.byte;
        erasure = erasure;
        pen = 0;
        count = 0;
        sent = [];
      };
    }

at4x20 : List ℕ
at4x20 = esc "[4;20H"

-- Stops in columns 20, 30 and 40; the cursor is left at 4;40.
three_stops : List ℕ
three_stops = at4x20 ++ esc "H" ++ esc "[30G" ++ esc "H" ++ esc "[40G" ++ esc "H"

examples : List Example
examples =
    -- H, G, d at and past the edge
    gives (esc "[24;80H") 24 80 accepted 0 0 []
    ∷ gives (esc "[25;1H") 1 1 (refused_as 2 (code "H")) 0 0 []
    ∷ gives (esc "[81G") 1 1 accepted 0 0 []
    ∷ gives (esc "[25d") 1 1 (refused_as 2 (code "d")) 0 0 []
    -- from 4;20: 3 G, 5 f, 5 H, f alone, 0 ; 7 f
    ∷ gives (at4x20 ++ esc "[3G") 4 3 accepted 0 0 []
    ∷ gives (at4x20 ++ esc "[5f") 5 20 accepted 0 0 []
    ∷ gives (at4x20 ++ esc "[5H") 5 1 accepted 0 0 []
    ∷ gives (at4x20 ++ esc "[f") 1 1 accepted 0 0 []
    ∷ gives (at4x20 ++ esc "[0;7f") 1 7 accepted 0 0 []
    -- and 0 G, 7 d, 0 d
    ∷ gives (at4x20 ++ esc "[0G") 4 1 accepted 0 0 []
    ∷ gives (at4x20 ++ esc "[7d") 7 20 accepted 0 0 []
    ∷ gives (at4x20 ++ esc "[0d") 1 20 accepted 0 0 []
    -- text in the last cell
    ∷ gives (esc "[24;80H" ++ bytes "A") 1 1 accepted 0 1 []
    -- 9999 C; 10000 C, which is spoilt; and one argument too many
    ∷ gives (esc "[9999C") 1 80 accepted 0 0 []
    ∷ gives (esc "[10000C") 1 1 (refused_as 3 (code "C")) 0 0 []
    ∷ gives (esc "[1;A") 1 1 (refused_as 2 (code "A")) 0 0 []
    -- 1 ; 99 m bolds nothing; 1 ; 0 ; 4 ; 8 m is underlined and concealed
    ∷ gives (esc "[1;99m") 1 1 (refused_as 2 (code "m")) 0 0 []
    ∷ gives (esc "[1;0;4;8m") 1 1 accepted 72 0 []
    -- 4 m and ESC V: underlined and protected, 9; 1 ; 99 m is refused and leaves it so; 0 m keeps protection, ESC W the
    -- rest
    ∷ gives (esc "[4m" ++ esc "V") 1 1 accepted 9 0 []
    ∷ gives (esc "[4m" ++ esc "V" ++ esc "[1;99m") 1 1 (refused_as 2 (code "m")) 9 0 []
    ∷ gives (esc "[4m" ++ esc "V" ++ esc "[0m") 1 1 accepted 1 0 []
    ∷ gives (esc "[4m" ++ esc "V" ++ esc "W") 1 1 accepted 8 0 []
    -- M-103: 3 o is numeric and 4 o alphabetic, in place of what was; 0 m keeps it; ESC V and 1 o protect, ESC W and
    -- o alone do not, and each takes the kind off; 2 o, 5 o and two arguments are refused and leave the pen
    ∷ gives (esc "[4m" ++ esc "[3o") 1 1 accepted 0x88 0 []
    ∷ gives (esc "[4m" ++ esc "[3o" ++ esc "[004o") 1 1 accepted 0x108 0 []
    ∷ gives (esc "[4m" ++ esc "[4o" ++ esc "[0m") 1 1 accepted 0x100 0 []
    ∷ gives (esc "[3o" ++ esc "V") 1 1 accepted 1 0 []
    ∷ gives (esc "[4m" ++ esc "[4o" ++ esc "[1o") 1 1 accepted 9 0 []
    ∷ gives (esc "[3o" ++ esc "W") 1 1 accepted 0 0 []
    ∷ gives (esc "[4o" ++ esc "[o") 1 1 accepted 0 0 []
    ∷ gives (esc "[1o" ++ esc "[4o") 1 1 accepted 0x100 0 []
    ∷ gives (esc "[3o" ++ esc "[2o") 1 1 (refused_as 2 (code "o")) 0x80 0 []
    ∷ gives (esc "[5o") 1 1 (refused_as 2 (code "o")) 0 0 []
    ∷ gives (esc "[3;o") 1 1 (refused_as 2 (code "o")) 0 0 []
    -- M-107: 20 o adds required to what the pen is, twice too; m leaves it; 0, 1, 3, 4, ESC V and ESC W take it off; a
    -- protected pen doesn't take it
    ∷ gives (esc "[20o") 1 1 accepted 0x200 0 []
    ∷ gives (esc "[4m" ++ esc "[3o" ++ esc "[020o" ++ esc "[20o") 1 1 accepted 0x288 0 []
    ∷ gives (esc "[4o" ++ esc "[20o" ++ esc "[1;0m") 1 1 accepted 0x300 0 []
    ∷ gives (esc "[3o" ++ esc "[20o" ++ esc "[4o") 1 1 accepted 0x100 0 []
    ∷ gives (esc "[20o" ++ esc "[3o") 1 1 accepted 0x80 0 []
    ∷ gives (esc "[20o" ++ esc "[0o") 1 1 accepted 0 0 []
    ∷ gives (esc "[20o" ++ esc "[1o") 1 1 accepted 1 0 []
    ∷ gives (esc "[20o" ++ esc "V") 1 1 accepted 1 0 []
    ∷ gives (esc "[20o" ++ esc "W") 1 1 accepted 0 0 []
    ∷ gives (esc "V" ++ esc "[20o") 1 1 (refused_as 2 (code "o")) 1 0 []
    ∷ gives (esc "[20;o") 1 1 (refused_as 2 (code "o")) 0 0 []
    -- a tab stop, on to it and back to it
    ∷ gives (at4x20 ++ esc "H" ++ (0x0D ∷ 0x09 ∷ [])) 4 20 accepted 0 0 []
    ∷ gives (at4x20 ++ esc "H" ++ esc "[9C" ++ esc "[Z") 4 20 accepted 0 0 []
    -- no stops: I goes to column 80, Z to column 1
    ∷ gives (at4x20 ++ esc "[I") 4 80 accepted 0 0 []
    ∷ gives (at4x20 ++ esc "[3I") 4 80 accepted 0 0 []
    ∷ gives (at4x20 ++ esc "[3Z") 4 1 accepted 0 0 []
    -- three stops, from column 1 on: 0 I, 2 I, 3 I; 4 I finds none left
    ∷ gives (three_stops ++ (0x0D ∷ esc "[0I")) 4 20 accepted 0 0 []
    ∷ gives (three_stops ++ (0x0D ∷ esc "[2I")) 4 30 accepted 0 0 []
    ∷ gives (three_stops ++ (0x0D ∷ esc "[3I")) 4 40 accepted 0 0 []
    ∷ gives (three_stops ++ (0x0D ∷ esc "[4I")) 4 80 accepted 0 0 []
    -- and back from column 40, which has one itself: 0 Z, 2 Z; 3 Z finds none left
    ∷ gives (three_stops ++ esc "[0Z") 4 30 accepted 0 0 []
    ∷ gives (three_stops ++ esc "[2Z") 4 20 accepted 0 0 []
    ∷ gives (three_stops ++ esc "[3Z") 4 1 accepted 0 0 []
    -- 0 W sets a stop; 2 W clears the one here, at column 40; 5 W clears all
    ∷ gives (at4x20 ++ esc "[0W" ++ (0x0D ∷ 0x09 ∷ [])) 4 20 accepted 0 0 []
    ∷ gives (three_stops ++ esc "[2W" ++ (0x0D ∷ esc "[2I")) 4 30 accepted 0 0 []
    ∷ gives (three_stops ++ esc "[2W" ++ (0x0D ∷ esc "[3I")) 4 80 accepted 0 0 []
    ∷ gives (three_stops ++ esc "[5W" ++ (0x0D ∷ 0x09 ∷ [])) 4 80 accepted 0 0 []
    -- 1 W is refused: all three stops are left, and none is added
    ∷ gives (three_stops ++ esc "[1W" ++ (0x0D ∷ esc "[3I")) 4 40 (refused_as 2 (code "W")) 0 0 []
    ∷ gives (esc "[9G" ++ esc "[1W" ++ (0x0D ∷ 0x09 ∷ [])) 1 80 (refused_as 2 (code "W")) 0 0 []
    -- 6 n and 5 n; 0 n and 7 n are refused
    ∷ gives (at4x20 ++ esc "[6n") 4 20 accepted 0 0 (esc "[4;20R")
    ∷ gives (at4x20 ++ esc "[5n") 4 20 accepted 0 0 (esc "[0n")
    ∷ gives (at4x20 ++ esc "[0n") 4 20 (refused_as 2 (code "n")) 0 0 []
    ∷ gives (at4x20 ++ esc "[7n") 4 20 (refused_as 2 (code "n")) 0 0 []
    -- 1 K and K; 3 K and 3 J are refused
    ∷ gives (at4x20 ++ esc "[1K") 4 20 accepted 0 20 []
    ∷ gives (at4x20 ++ esc "[K") 4 20 accepted 0 61 []
    ∷ gives (at4x20 ++ esc "[3K") 4 20 (refused_as 2 (code "K")) 0 0 []
    ∷ gives (at4x20 ++ esc "[3J") 4 20 (refused_as 2 (code "J")) 0 0 []
    -- from 4;20: A, 2 A and 9 A; 0 B and 99 B; 2 C; D and 99 D
    ∷ gives (at4x20 ++ esc "[A") 3 20 accepted 0 0 []
    ∷ gives (at4x20 ++ esc "[2A") 2 20 accepted 0 0 []
    ∷ gives (at4x20 ++ esc "[9A") 1 20 accepted 0 0 []
    ∷ gives (at4x20 ++ esc "[0B") 5 20 accepted 0 0 []
    ∷ gives (at4x20 ++ esc "[99B") 24 20 accepted 0 0 []
    ∷ gives (at4x20 ++ esc "[2C") 4 22 accepted 0 0 []
    ∷ gives (at4x20 ++ esc "[D") 4 19 accepted 0 0 []
    ∷ gives (at4x20 ++ esc "[99D") 4 1 accepted 0 0 []
    -- from 4;20: E, 3 E and 99 E; F, 2 F and 9 F
    ∷ gives (at4x20 ++ esc "[E") 5 1 accepted 0 0 []
    ∷ gives (at4x20 ++ esc "[3E") 7 1 accepted 0 0 []
    ∷ gives (at4x20 ++ esc "[99E") 24 1 accepted 0 0 []
    ∷ gives (at4x20 ++ esc "[F") 3 1 accepted 0 0 []
    ∷ gives (at4x20 ++ esc "[2F") 2 1 accepted 0 0 []
    ∷ gives (at4x20 ++ esc "[9F") 1 1 accepted 0 0 []
    -- ESC E, ESC M, 08 at the margin, 0A; ESC M in row 1 scrolls
    ∷ gives (at4x20 ++ esc "E" ++ esc "M" ++ (0x08 ∷ 0x0A ∷ [])) 5 1 accepted 0 0 []
    ∷ gives (esc "M") 1 1 accepted 0 1920 []
    -- ESC Z and ESC [ z are not listed
    ∷ gives (at4x20 ++ esc "Z") 4 20 (refused_as 1 (code "Z")) 0 0 []
    ∷ gives (at4x20 ++ esc "[1z") 4 20 (refused_as 1 (code "z")) 0 0 []
    -- ESC ` locks by hand and leaves soft lock, message and byte as they are; ESC b clears them all
    ∷ sets (esc "`") true accepted false
    ∷ sets (esc "Z" ++ esc "`") true (refused_as 1 (code "Z")) false
    ∷ sets (esc "Z" ++ esc "`" ++ esc "b") false accepted false
    -- a refused command leaves the manual lock
    ∷ sets (esc "`" ++ esc "Z") true (refused_as 1 (code "Z")) false
    -- 6 h and 6 l; 4 h, 4 l and 6 ; 4 h are refused as a whole, and so is an omitted mode
    ∷ sets (esc "[6h") false accepted true
    ∷ sets (esc "[6h" ++ esc "[6l") false accepted false
    ∷ sets (esc "[4h") false (refused_as 2 (code "h")) false
    ∷ sets (esc "[6h" ++ esc "[4l") false (refused_as 2 (code "l")) true
    ∷ sets (esc "[6;4h") false (refused_as 2 (code "h")) false
    ∷ sets (esc "[h") false (refused_as 2 (code "h")) false
    ∷ []

-- Each stream leaves what the example says.
as_worked_out : map (λ (e : Example). seen_of (run fresh e.stream)) examples ≡ map (λ (e : Example). e.seen) examples
unfolding host_steps streams seen_of accepted refused_as gives sets at4x20 three_stops examples
as_worked_out = refl
