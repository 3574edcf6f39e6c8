-- Document 01, "Reading host bytes", rule by rule (its bullets, numbered from 1): what one host byte does to the
-- half-read record, and the event it gives; for a refused command its reason and its byte (document 02, M-102). What >
-- does right after ESC [ is M-106's.
-- What an event does to the terminal is told by later definitions.
use Rattle.std.specs.Prelude.{Bool, ℕ, ◌-◌, ltb, leb, eqb}
use Prim.Native.Char.{code}
use Rattle.words.specs.Choice.{If◌then◌else◌, ◌or◌, ◌is◌to◌}
use Rattle.sequence.specs.Record.{nothing_read, esc_read, intermediate_read}
use Rattle.sequence.specs.Record.{argument_read, bracket_read, private_mark_read, spoilt_read}
use Rattle.sequence.specs.Record.{with_digit, with_next_argument}
use Rattle.sequence.specs.declared.HalfRead.{HalfRead}
use Rattle.sequence.specs.declared.Reason.{Reason}
use Rattle.sequence.specs.declared.Reason.TheVariants.{UnknownCommand, BrokenSequence, HighByte}
use Rattle.sequence.specs.declared.Event.{Event}
use Rattle.sequence.specs.declared.Event.TheVariants.{Nothing, Text, Control, EscCommand}
use Rattle.sequence.specs.declared.Event.TheVariants.{BracketCommand, PrivateCommand, Refused}
use Rattle.sequence.specs.declared.Advanced.{Advanced}

-- The sequence is read on, and nothing happens yet; or it ends, with an event, and nothing stays half read.
abbrev pub reads_on : HalfRead → Advanced
reads_on half = record { half = half; event = Nothing }

abbrev pub ends : Event → Advanced
ends event = record { half = nothing_read; event = event }

-- The command is refused, for a reason, at this byte.
abbrev pub refuses : Reason → ℕ → Advanced
refuses reason byte = ends (Refused reason byte)

-- Rule 2: the control bytes that act.
unfoldable pub is_control : ℕ → Bool
is_control byte = eqb byte 0x08 or eqb byte 0x0D or eqb byte 0x0A or eqb byte 0x09

-- Rule 3: the bytes that only drop a sequence.
unfoldable pub is_cancel : ℕ → Bool
is_cancel byte = eqb byte 0x18 or eqb byte 0x1A

-- Rules 1 to 4, outside a sequence. The last line is for the other bytes below 20, and 7F: ignored.
unfoldable pub outside_sequence : ℕ → Advanced
outside_sequence byte =
    If byte is 0x20 to 0x7E then ends (Text byte)
    else If is_control byte then ends (Control byte)
    else If eqb byte 0x1B then reads_on esc_read
    else If leb 0x80 byte then refuses HighByte byte
    else ends Nothing

-- Rule 5, a byte 20 to 7E after ESC: an intermediate, the [ of rule 6, or a command, which may be listed or not.
unfoldable pub after_esc : ℕ → Advanced
after_esc byte =
    If leb byte 0x2F then reads_on intermediate_read
    else If eqb byte (code "[") then reads_on bracket_read
    else ends (EscCommand byte)

-- Rule 5, a byte 20 to 7E after ESC and an intermediate.
unfoldable pub after_intermediate : ℕ → Advanced
after_intermediate byte =
    If leb byte 0x2F then reads_on intermediate_read
    else refuses UnknownCommand byte

-- Rule 6, a byte 20 to 7E after ESC [ and more. The third line is for 20 to 2F, 3A and 3C to 3F; a spoilt sequence is
-- refused whatever its final byte is.
unfoldable pub after_bracket : HalfRead → ℕ → Advanced
after_bracket half byte =
    If byte is code "0" to code "9" then reads_on (with_digit half (byte - code "0"))
    else If eqb byte (code ";") then reads_on (with_next_argument half)
    else If ltb byte 0x40 then reads_on spoilt_read
    else If half.spoilt then refuses BrokenSequence byte
    else ends (BracketCommand byte)

-- The same right after ESC [: the first argument begins, but > is M-106's private mark.
unfoldable pub right_after_bracket : ℕ → Advanced
right_after_bracket byte =
    If eqb byte (code ">") then reads_on private_mark_read
    else after_bracket argument_read byte

-- M-106, a byte 20 to 7E after ESC [ >: one argument and a final byte. The second line is for ; too, and a second >.
-- Which of these commands there are is told with the commands.
unfoldable pub after_private_mark : HalfRead → ℕ → Advanced
after_private_mark half byte =
    If byte is code "0" to code "9" then reads_on (with_digit half (byte - code "0"))
    else If ltb byte 0x40 then reads_on spoilt_read
    else ends (PrivateCommand byte)

-- Rules 5 and 6, a byte 20 to 7E inside a sequence, by what is half read.
unfoldable pub sequence_read_on : HalfRead → ℕ → Advanced
sequence_read_on half byte =
    If eqb half.kind 1 then after_esc byte
    else If eqb half.kind 2 then after_intermediate byte
    else If eqb half.kind 4 then right_after_bracket byte
    else If eqb half.kind 5 then after_private_mark half byte
    else after_bracket half byte

-- Rules 3 to 6, inside a sequence.
-- The last line is for every other byte below 20, and 7F: refused, and not executed.
unfoldable pub inside_sequence : HalfRead → ℕ → Advanced
inside_sequence half byte =
    If is_cancel byte then ends Nothing
    else If eqb byte 0x1B then reads_on esc_read
    else If byte is 0x20 to 0x7E then sequence_read_on half byte
    else If leb 0x80 byte then refuses HighByte byte
    else refuses BrokenSequence byte

-- The record and the event after one host byte.
unfoldable pub advance_of : HalfRead → ℕ → Advanced
advance_of half byte =
    If eqb half.kind 0 then outside_sequence byte
    else inside_sequence half byte
