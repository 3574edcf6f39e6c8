-- Host bytes are read on, byte by byte, to the first that brings something about, or to the last of them.
use Rattle.std.specs.Prelude.{◌≡◌, Bool, true, false, List, [], ◌∷◌, ℕ, ◌+◌, ◌<◌, length, drop}
use Rattle.words.specs.Choice.{If◌then◌else◌}
use Rattle.sequence.specs.declared.HalfRead.{HalfRead}
use Rattle.sequence.specs.declared.Event.{Event}
use Rattle.sequence.specs.declared.Event.TheVariants.{Nothing, Text, Control, EscCommand}
use Rattle.sequence.specs.declared.Event.TheVariants.{BracketCommand, PrivateCommand, Refused}
use Rattle.sequence.specs.Reading.{advance_of}
use Rattle.sequence.specs.Record.{nothing_read}
use Rattle.reading.specs.declared.Reading.{Reading}
use Rattle.reading.specs.declared.Whole.{Whole}

unfoldable pub is_nothing : Event → Bool
is_nothing Nothing = true
is_nothing (Text byte) = false
is_nothing (Control byte) = false
is_nothing (EscCommand byte) = false
is_nothing (BracketCommand final) = false
is_nothing (PrivateCommand final) = false
is_nothing (Refused reason byte) = false

-- Of the byte at a place: the record before it, the record and the event after it, and the place after it.
abbrev pub read_to : HalfRead → ℕ → ℕ → Reading
read_to half byte at =
    record { before = half; after = (advance_of half byte).half; event = (advance_of half byte).event; end = at + 1 }

-- The bytes from a place on. (Where there are none, nothing is read.)
unfoldable pub read_from : HalfRead → List ℕ → ℕ → Reading
read_from half [] at = record { before = half; after = half; event = Nothing; end = at }
read_from half (byte ∷ []) at = read_to half byte at
read_from half (byte ∷ next ∷ later) at =
    let further = read_from (advance_of half byte).half (next ∷ later) (at + 1) in
    If is_nothing (advance_of half byte).event then further
    else read_to half byte at

-- After a whole command nothing is half read.
abbrev pub reading_of : Whole → Reading
reading_of whole = record { before = whole.before; after = nothing_read; event = whole.event; end = whole.end }

-- What was read of bytes from a place on, where a record is: it brought something about, and reading on gives the same.
pub record ReadWhole (half : HalfRead) (bytes : List ℕ) (at : ℕ) (whole : Whole) : Type 0 where
  pub something : is_nothing whole.event ≡ false
  pub here : at < length bytes
  pub same : reading_of whole ≡ read_from half (drop at bytes) at
