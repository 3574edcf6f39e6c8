-- The definitions of reading, computed on bytes worked out by hand from document 01:
-- the events, and the record left half read.
use mathlib.Core.Path.{◌≡◌, refl}
use mathlib.Core.List.{List, [], ◌∷◌, ◌++◌, map}
use mathlib.Core.Bool.{Bool, true, false}
use Prim.Native.Char.{code}
use Prim.Native.Nat.{ℕ}
use Rattle.words.specs.Choice.{If◌then◌else◌, ◌and◌, ◌or◌, ◌is◌to◌}
use Rattle.words.specs.Text.{bytes}
use Rattle.sequence.specs.declared.HalfRead.{HalfRead}
use Rattle.sequence.specs.declared.Reason.TheVariants.{UnknownCommand, BrokenSequence, HighByte}
use Rattle.sequence.specs.declared.Event.{Event}
use Rattle.sequence.specs.declared.Event.TheVariants.{Nothing, Text, Control, EscCommand, BracketCommand, PrivateCommand, Refused}
use Rattle.sequence.specs.Record.{nothing_read, esc_read, intermediate_read, argument_read, bracket_read, private_mark_read, spoilt_read, largest_argument, arguments_fit, valid_half_read, with_digit, with_next_argument}
use Rattle.sequence.specs.Reading.{is_control, is_cancel, outside_sequence, after_esc, after_intermediate, after_bracket, right_after_bracket, after_private_mark, sequence_read_on, inside_sequence, advance_of}

record Read : Type 0 where
  events : List Event
  left : HalfRead

-- an event that is nothing is not written down
noted : Event → List Event → List Event
noted Nothing later = later
noted (Text byte) later = Text byte ∷ later
noted (Control byte) later = Control byte ∷ later
noted (EscCommand byte) later = EscCommand byte ∷ later
noted (BracketCommand byte) later = BracketCommand byte ∷ later
noted (PrivateCommand byte) later = PrivateCommand byte ∷ later
noted (Refused reason byte) later = Refused reason byte ∷ later

reading : HalfRead → List ℕ → Read
reading half [] = record { events = []; left = half }
reading half (byte ∷ rest) =
    let now = advance_of half byte in
    let later = reading now.half rest in
    record { events = noted now.event later.events; left = later.left }

record Example : Type 0 where
  stream : List ℕ
  read : Read

gives : List ℕ → List Event → HalfRead → Example
gives stream events left = record { stream = stream; read = record { events = events; left = left } }

bracket : List ℕ → ℕ → HalfRead
bracket arguments count = record { kind = 3; arguments = arguments; count = count; spoilt = false }

private : ℕ → HalfRead
private argument = record { kind = 5; arguments = argument ∷ 0 ∷ 0 ∷ 0 ∷ 0 ∷ 0 ∷ 0 ∷ 0 ∷ []; count = 1; spoilt = false }

examples : List Example
examples =
    -- text, the controls that act, and the bytes that are ignored, outside a sequence
    gives (0x20 ∷ 0x7E ∷ []) (Text 0x20 ∷ Text 0x7E ∷ []) nothing_read
    ∷ gives (0x08 ∷ 0x09 ∷ 0x0A ∷ 0x0D ∷ []) (Control 0x08 ∷ Control 0x09 ∷ Control 0x0A ∷ Control 0x0D ∷ []) nothing_read
    ∷ gives (0x00 ∷ 0x07 ∷ 0x0B ∷ 0x18 ∷ 0x1A ∷ 0x1F ∷ 0x7F ∷ []) [] nothing_read
    -- 18, 1A and 1B inside one
    ∷ gives (0x1B ∷ 0x18 ∷ bytes "A") (Text (code "A") ∷ []) nothing_read
    ∷ gives (0x1B ∷ code "[" ∷ code "1" ∷ 0x1A ∷ bytes "A") (Text (code "A") ∷ []) nothing_read
    ∷ gives (0x1B ∷ code "[" ∷ code "1" ∷ 0x1B ∷ []) [] esc_read
    ∷ gives (0x1B ∷ 0x1B ∷ bytes "D") (EscCommand (code "D") ∷ []) nothing_read
    -- other controls and 7F inside one are not executed; 80 to FF is refused anywhere, as such, spoilt or not
    ∷ gives (0x1B ∷ code "[" ∷ code "1" ∷ 0x0A ∷ bytes "A") (Refused BrokenSequence 0x0A ∷ Text (code "A") ∷ []) nothing_read
    ∷ gives (0x1B ∷ 0x7F ∷ []) (Refused BrokenSequence 0x7F ∷ []) nothing_read
    ∷ gives (0x80 ∷ 0x1B ∷ 0xFF ∷ []) (Refused HighByte 0x80 ∷ Refused HighByte 0xFF ∷ []) nothing_read
    ∷ gives (0x1B ∷ bytes "[?" ++ (0x9B ∷ [])) (Refused HighByte 0x9B ∷ []) nothing_read
    -- ESC and intermediates
    ∷ gives (0x1B ∷ bytes "(/") [] intermediate_read
    ∷ gives (0x1B ∷ bytes "(/BB") (Refused UnknownCommand (code "B") ∷ Text (code "B") ∷ []) nothing_read
    -- ESC [ and arguments: omitted, 9,999 and 10,000, eight and nine
    ∷ gives (0x1B ∷ bytes "[") [] bracket_read
    ∷ gives (0x1B ∷ bytes "[H") (BracketCommand (code "H") ∷ []) nothing_read
    ∷ gives (0x1B ∷ bytes "[24;80") [] (bracket (24 ∷ 80 ∷ 0 ∷ 0 ∷ 0 ∷ 0 ∷ 0 ∷ 0 ∷ []) 2)
    ∷ gives (0x1B ∷ bytes "[09999") [] (bracket (9999 ∷ 0 ∷ 0 ∷ 0 ∷ 0 ∷ 0 ∷ 0 ∷ 0 ∷ []) 1)
    ∷ gives (0x1B ∷ bytes "[10000") [] spoilt_read
    ∷ gives (0x1B ∷ bytes "[;;;;;;;7") [] (bracket (0 ∷ 0 ∷ 0 ∷ 0 ∷ 0 ∷ 0 ∷ 0 ∷ 7 ∷ []) 8)
    ∷ gives (0x1B ∷ bytes "[;;;;;;;;m") (Refused BrokenSequence (code "m") ∷ []) nothing_read
    -- spoilt, and nothing adds to it
    ∷ gives (0x1B ∷ bytes "[?5;6") [] spoilt_read
    -- ESC [ alone is told from ESC [ 0; > counts right after ESC [ only
    ∷ gives (0x1B ∷ bytes "[0") [] argument_read
    ∷ gives (0x1B ∷ bytes "[>") [] private_mark_read
    ∷ gives (0x1B ∷ bytes "[>h") (PrivateCommand (code "h") ∷ []) nothing_read
    ∷ gives (0x1B ∷ bytes "[>06") [] (private 6)
    ∷ gives (0x1B ∷ bytes "[>6l") (PrivateCommand (code "l") ∷ []) nothing_read
    ∷ gives (0x1B ∷ bytes "[>10000") [] spoilt_read
    ∷ gives (0x1B ∷ bytes "[>6;") [] spoilt_read
    ∷ gives (0x1B ∷ bytes "[>>6") [] spoilt_read
    ∷ gives (0x1B ∷ bytes "[0>6h") (Refused BrokenSequence (code "h") ∷ []) nothing_read
    ∷ gives (0x1B ∷ bytes "[;>6h") (Refused BrokenSequence (code "h") ∷ []) nothing_read
    ∷ gives (0x1B ∷ bytes "[>6" ++ (0x0A ∷ [])) (Refused BrokenSequence 0x0A ∷ []) nothing_read
    ∷ gives (0x1B ∷ bytes "[1 mm") (Refused BrokenSequence (code "m") ∷ Text (code "m") ∷ []) nothing_read
    ∷ []

-- Each of the examples reads as it says.
as_worked_out : map (λ (e : Example). reading nothing_read e.stream) examples ≡ map (λ (e : Example). e.read) examples
unfolding If◌then◌else◌ ◌and◌ ◌or◌ ◌is◌to◌ with_digit with_next_argument is_control is_cancel outside_sequence after_esc after_intermediate after_bracket right_after_bracket after_private_mark sequence_read_on inside_sequence advance_of noted reading gives bracket private examples
as_worked_out = refl

-- Records in range: one of each of the first three kinds, eight arguments of 9,999, an argument being read,
-- a spoilt one, one after ESC [ 0, one right after ESC [, one after ESC [ >.
record_of : ℕ → List ℕ → ℕ → Bool → HalfRead
record_of kind arguments count spoilt = record { kind = kind; arguments = arguments; count = count; spoilt = spoilt }

zeros : List ℕ
zeros = 0 ∷ 0 ∷ 0 ∷ 0 ∷ 0 ∷ 0 ∷ 0 ∷ 0 ∷ []

in_range : List HalfRead
in_range =
    record_of 0 zeros 0 false
    ∷ record_of 1 zeros 0 false
    ∷ record_of 2 zeros 0 false
    ∷ record_of 3 (9999 ∷ 9999 ∷ 9999 ∷ 9999 ∷ 9999 ∷ 9999 ∷ 9999 ∷ 9999 ∷ []) 8 false
    ∷ record_of 3 (24 ∷ 8 ∷ 0 ∷ 0 ∷ 0 ∷ 0 ∷ 0 ∷ 0 ∷ []) 2 false
    ∷ record_of 3 zeros 1 true
    ∷ record_of 3 zeros 1 false
    ∷ record_of 4 zeros 1 false
    ∷ record_of 5 (9999 ∷ 0 ∷ 0 ∷ 0 ∷ 0 ∷ 0 ∷ 0 ∷ 0 ∷ []) 1 false
    ∷ []

-- And out of range, one for each clause of `HalfReadOutOfRange`, in its order.
out_of_range : List HalfRead
out_of_range =
    record_of 6 zeros 0 false
    ∷ record_of 1 zeros 1 false
    ∷ record_of 2 (0 ∷ 0 ∷ 0 ∷ 0 ∷ 0 ∷ 0 ∷ 0 ∷ 1 ∷ []) 0 false
    ∷ record_of 4 zeros 0 false
    ∷ record_of 3 zeros 9 false
    ∷ record_of 5 zeros 2 false
    ∷ record_of 4 (6 ∷ 0 ∷ 0 ∷ 0 ∷ 0 ∷ 0 ∷ 0 ∷ 0 ∷ []) 1 false
    ∷ record_of 5 (10000 ∷ 0 ∷ 0 ∷ 0 ∷ 0 ∷ 0 ∷ 0 ∷ 0 ∷ []) 1 false
    ∷ record_of 3 (5 ∷ 6 ∷ 7 ∷ 0 ∷ 0 ∷ 0 ∷ 0 ∷ 0 ∷ []) 2 false
    ∷ record_of 5 zeros 1 true
    ∷ record_of 3 zeros 2 true
    ∷ record_of 3 (5 ∷ 0 ∷ 0 ∷ 0 ∷ 0 ∷ 0 ∷ 0 ∷ 0 ∷ []) 1 true
    ∷ []

pass : map valid_half_read in_range ≡ map (λ (half : HalfRead). true) in_range
unfolding record_of zeros in_range If◌then◌else◌ ◌and◌ ◌is◌to◌ largest_argument arguments_fit valid_half_read
pass = refl

fail : map valid_half_read out_of_range ≡ map (λ (half : HalfRead). false) out_of_range
unfolding record_of zeros out_of_range If◌then◌else◌ ◌and◌ ◌is◌to◌ largest_argument arguments_fit valid_half_read
fail = refl
