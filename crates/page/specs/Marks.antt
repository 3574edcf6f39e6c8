-- Document 01, "The terminal and its sources", and document 02, M-103 and M-107: what a cell has, a character and its
-- marks.
use Rattle.std.specs.Prelude.{Bool, true, not, List, ℕ, ◌+◌, ◌*◌, ◌/◌, ◌%◌, ◌^◌, ltb, eqb, get_or}
use Prim.Native.Char.{code}
use Rattle.page.specs.declared.Attribute.{Attribute}
use Rattle.page.specs.declared.Attribute.TheVariants.{Protected, Modified, Bold, Underlined, Blinking, Reversed}
use Rattle.page.specs.declared.Attribute.TheVariants.{Concealed, Numeric, Alphabetic, Required}
use Rattle.words.specs.Choice.{If◌then◌else◌, ◌and◌, ◌or◌, ◌is◌to◌}

-- `mark` is all marks of a cell. Bit n of it, the lowest being 0: read, set; the other bits stay.
abbrev pub has_bit : ℕ → ℕ → Bool
has_bit n mark = eqb (mark / 2 ^ n % 2) 1

abbrev pub with_bit : ℕ → ℕ → ℕ
with_bit n mark = mark / 2 ^ (1 + n) * 2 ^ (1 + n) + 2 ^ n + mark % 2 ^ n

-- The bits from n to before m cleared; bit n alone.
abbrev pub without_bits : ℕ → ℕ → ℕ → ℕ
without_bits n m mark = mark / 2 ^ m * 2 ^ m + mark % 2 ^ n

abbrev pub without_bit : ℕ → ℕ → ℕ
without_bit n = without_bits n (1 + n)

-- A question for each mark.
abbrev pub is_protected : ℕ → Bool
is_protected = has_bit 0

abbrev pub is_modified : ℕ → Bool
is_modified = has_bit 1

abbrev pub is_bold : ℕ → Bool
is_bold = has_bit 2

abbrev pub is_underlined : ℕ → Bool
is_underlined = has_bit 3

abbrev pub is_blinking : ℕ → Bool
is_blinking = has_bit 4

abbrev pub is_reversed : ℕ → Bool
is_reversed = has_bit 5

abbrev pub is_concealed : ℕ → Bool
is_concealed = has_bit 6

-- M-103: the kinds of an unprotected cell beside the plain one.
abbrev pub is_numeric : ℕ → Bool
is_numeric = has_bit 7

abbrev pub is_alphabetic : ℕ → Bool
is_alphabetic = has_bit 8

-- M-107: one such cell makes its field a required one.
abbrev pub is_required : ℕ → Bool
is_required = has_bit 9

-- The marks with modified set, and cleared.
abbrev pub with_modified : ℕ → ℕ
with_modified = with_bit 1

abbrev pub without_modified : ℕ → ℕ
without_modified = without_bit 1

-- An attribute by its name: whether a cell has it, and the bit of the mark that says so.
abbrev pub has_attribute : Attribute → ℕ → Bool
has_attribute Protected = is_protected
has_attribute Modified = is_modified
has_attribute Bold = is_bold
has_attribute Underlined = is_underlined
has_attribute Blinking = is_blinking
has_attribute Reversed = is_reversed
has_attribute Concealed = is_concealed
has_attribute Numeric = is_numeric
has_attribute Alphabetic = is_alphabetic
has_attribute Required = is_required

abbrev pub bit_of : Attribute → ℕ
bit_of Protected = 0
bit_of Modified = 1
bit_of Bold = 2
bit_of Underlined = 3
bit_of Blinking = 4
bit_of Reversed = 5
bit_of Concealed = 6
bit_of Numeric = 7
bit_of Alphabetic = 8
bit_of Required = 9

-- The marks with an attribute, and without it; the others stay.
abbrev pub with_attribute : Attribute → ℕ → ℕ
with_attribute attribute = with_bit (bit_of attribute)

abbrev pub without_attribute : Attribute → ℕ → ℕ
without_attribute attribute = without_bit (bit_of attribute)

-- A character is 20 to 7E.
abbrev pub valid_character : ℕ → Bool
valid_character character = character is 0x20 to 0x7E

-- M-103 and M-107: numeric and alphabetic never stand together, and neither stands with protected, nor does required;
-- bits 10 to 15 are zero.
unfoldable pub valid_mark : ℕ → Bool
valid_mark mark =
    ltb mark 0x400
    and not (is_numeric mark and is_alphabetic mark)
    and not (is_protected mark and (is_numeric mark or is_alphabetic mark or is_required mark))

-- M-103: the characters that source document 003 lists for such fields (lines 926 to 932).
unfoldable pub numeric_takes : ℕ → Bool
numeric_takes character =
    eqb character (code "-") or eqb character (code ".") or character is code "0" to code "9"

unfoldable pub alphabetic_takes : ℕ → Bool
alphabetic_takes character =
    eqb character (code " ")
    or eqb character (code "-")
    or eqb character (code ".")
    or character is code "A" to code "Z"
    or character is code "a" to code "z"

-- Whether a cell with these marks takes a character that a key brings: 20 is taken everywhere.
unfoldable pub takes : ℕ → ℕ → Bool
takes mark character =
    If eqb character 0x20 then true
    else If is_numeric mark then numeric_takes character
    else If is_alphabetic mark then alphabetic_takes character
    else true

-- Whether a cell is unprotected, by its number: the one place that says what counts as protected.
unfoldable pub unprotected : List ℕ → ℕ → Bool
unprotected marks cell = not (is_protected (get_or marks cell 0))
