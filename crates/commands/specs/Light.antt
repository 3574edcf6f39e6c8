-- Which events are light: they touch neither page nor tab stops nor output. (No rule asks for it: the code does them in
-- place.)
use Rattle.std.specs.Prelude.{Bool, true, false, ℕ, ltb, eqb}
use Prim.Native.Char.{code}
use Rattle.words.specs.Choice.{If◌then◌else◌, ◌or◌}
use Rattle.sequence.specs.declared.Event.{Event}
use Rattle.sequence.specs.declared.Event.TheVariants.{Nothing, Text, Control, EscCommand}
use Rattle.sequence.specs.declared.Event.TheVariants.{BracketCommand, PrivateCommand, Refused}
use Rattle.state.specs.declared.Size.{Size}
use Rattle.state.specs.declared.Cursor.{Cursor}
use Rattle.table.specs.Moves.{is_plain_move}

-- BS and CR, and LF where it scrolls nothing; HT looks at tab stops.
unfoldable pub is_light_control : Size → Cursor → ℕ → Bool
is_light_control size cursor byte =
    If eqb byte 0x09 then false
    else If eqb byte 0x0A then ltb cursor.row size.rows
    else true

-- SPA and EPA.
unfoldable pub is_light_letter : ℕ → Bool
is_light_letter byte = eqb byte (code "V") or eqb byte (code "W")

-- The moves but for tabs, DAQ, SGR, SM and RM.
unfoldable pub is_light_final : ℕ → Bool
is_light_final final =
    is_plain_move final
    or eqb final (code "o")
    or eqb final (code "m")
    or eqb final (code "h")
    or eqb final (code "l")

unfoldable pub is_light : Size → Cursor → Event → Bool
is_light size cursor Nothing = true
is_light size cursor (Text byte) = false
is_light size cursor (Control byte) = is_light_control size cursor byte
is_light size cursor (EscCommand byte) = is_light_letter byte
is_light size cursor (BracketCommand final) = is_light_final final
is_light size cursor (PrivateCommand final) = true
is_light size cursor (Refused reason byte) = true
