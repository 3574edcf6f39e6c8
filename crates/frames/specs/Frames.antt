-- What a line says (document 01, "Examples", the frames): a start with a size, host bytes, or a key; else no frame.
use Rattle.std.specs.Prelude.{List, [], ◌∷◌, ℕ, ◌+◌, ◌*◌, eqb, leb, length, get_or, drop}
use Rattle.words.specs.Choice.{If◌then◌else◌, ◌and◌}
use Rattle.numerals.specs.Hexadecimal.{bytes_in}

pub data Frame : Type 0 where
  start : ℕ → ℕ → Frame
  host : List ℕ → Frame
  key : ℕ → Frame
  no_frame : Frame

unfoldable pub frame_in : List ℕ → Frame
frame_in [] = no_frame
frame_in (first ∷ rest) =
    If eqb first 0 and eqb (length rest) 2 then start (get_or rest 0 0) (get_or rest 1 0)
    else If eqb first 1 and leb (length rest) 255 then host rest
    else If eqb first 2 and eqb (length rest) 2 then key (get_or rest 0 0 * 256 + get_or rest 1 0)
    else no_frame

unfoldable pub frame_of : List ℕ → Frame
frame_of line = frame_in (bytes_in line)

-- The rest of a frame of which host bytes were taken.
unfoldable pub rest_of : Frame → ℕ → Frame
rest_of (host bytes) taken = host (drop taken bytes)
rest_of (start rows columns) taken = start rows columns
rest_of (key number) taken = key number
rest_of no_frame taken = no_frame
