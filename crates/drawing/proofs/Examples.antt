-- A small terminal, drawn.
use mathlib.Core.Path.{◌≡◌, refl}
use mathlib.Core.Bool.{true, false}
use mathlib.Core.List.{[], ◌∷◌, ◌++◌, flat_map}
use Prim.Native.Char.{code}
use lib.ListN.{replicate}
use Rattle.words.specs.Choice.{If◌then◌else◌}
use Rattle.state.specs.declared.State.{State}
use Rattle.numerals.specs.Hexadecimal.{digit_of}
use Rattle.words.specs.Text.{bytes}
use Rattle.words.specs.Lists.{exactly}
use Rattle.drawing.specs.Drawing.{pen_line, locks_line, stops_line, half_line, state_lines, rows_of, drawn}

-- Two rows of three columns, a tab stop in column 2, and ESC [ 1 ; 65535 read so far
abbrev small : State
small =
    record {
      size = record { rows = 2; columns = 3 };
      cursor = record { row = 1; column = 3 };
      modes = record { pen = 0x14D; erasure = true; full = false };
      locks = record { manual = false; soft = true; message = 4; byte = 0x9B };
      stops = false ∷ true ∷ replicate 158 false;
      half = record { kind = 3; arguments = 1 ∷ 65535 ∷ replicate 6 0; count = 2; spoilt = false };
    }

pub small_drawn : drawn small (bytes "KN .-!") (0 ∷ 1 ∷ 0x14D ∷ 0xFFFF ∷ 0xA0 ∷ 2 ∷ [])
    ≡ bytes "size 00002 00003\ncursor 00001 00003\npen 014D erasure 1 full 0\nmanual 0 soft 1 message 00004 byte 9B\nstops .T"
    ++ replicate 158 (code ".")
    ++ bytes "\nhalf 00003 spoilt 0 count 00002 arguments 00001 65535 00000 00000 00000 00000 00000 00000\n|KN |\n|.-!|\n:00000001014D\n:FFFF00A00002\n"
unfolding If◌then◌else◌ flat_map digit_of exactly pen_line locks_line stops_line half_line state_lines rows_of drawn
small_drawn = refl
