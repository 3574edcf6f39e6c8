-- Streams worked out by hand, and the blocks that a host finds in them.
use mathlib.Core.Path.{◌≡◌, refl}
use mathlib.Core.List.{List, [], ◌∷◌, ◌++◌, map}
use Prim.Native.Nat.{ℕ}
use Prim.Native.String.{String}
use Rattle.words.specs.Choice.{If◌then◌else◌, ◌and◌, ◌or◌, ◌is◌to◌}
use Rattle.words.specs.Text.{bytes}
use Rattle.output.specs.Decimal.{decimal, place_bytes}
use Rattle.blocks.specs.Blocks.{entry_bytes, encode}
use Rattle.blocks.specs.Decode.{in_front, split, read_number, read_entry, decode}
use Rattle.blocks.specs.Lay.{same_place, laid_on, lay}
use Rattle.blocks.specs.Finding.{ends_report, ends_head, outside, inside, after_byte, blocks_from, blocks_in}

-- The definitions that are computed.
unfoldable tests : Unit {0}
unfolding If◌then◌else◌ ◌and◌ ◌or◌ ◌is◌to◌
tests = tt

unfoldable finding : Unit {0}
unfolding tests ends_report ends_head outside inside after_byte blocks_from
finding = tt

unfoldable laying : Unit {0}
unfolding tests in_front split read_number read_entry decode same_place laid_on lay entry_bytes encode decimal place_bytes
laying = tt

-- Reports.
abbrev cursor_bytes : List ℕ
cursor_bytes = 0x1B ∷ bytes "[1;4R"

abbrev ready_bytes : List ℕ
ready_bytes = 0x1B ∷ bytes "[0n"

-- A block with a field at 1;4 that has these characters.
abbrev head_at : List ℕ
head_at = 0x1B ∷ bytes "[1;4f"

abbrev block_of : String → List ℕ
block_of text = head_at ++ (bytes text ++ (0x03 ∷ []))

-- A report, then a block: the block alone.
pub after_report : blocks_in (cursor_bytes ++ block_of "CD") ≡ block_of "CD" ∷ []
unfolding finding
after_report = refl

-- Two blocks with a report between them, and one after them. n, R and f are characters too.
pub between_blocks : blocks_in (block_of "nR" ++ (ready_bytes ++ (block_of "fD" ++ cursor_bytes)))
    ≡ block_of "nR" ∷ block_of "fD" ∷ []
unfolding finding
between_blocks = refl

-- A block with no field.
pub empty_block : blocks_in (0x03 ∷ []) ≡ (0x03 ∷ []) ∷ []
unfolding finding
empty_block = refl

-- Half a block at the end is not found.
pub half_block : blocks_in (block_of "CD" ++ (head_at ++ bytes "C")) ≡ block_of "CD" ∷ []
unfolding finding
half_block = refl

-- The block found is laid over its copy; all bytes up to 03, the report with them, would lose the field's characters.
pub found_laid : map (λ found. lay found (block_of "AB")) (blocks_in (cursor_bytes ++ block_of "CD"))
    ≡ block_of "CD" ∷ []
unfolding finding laying
found_laid = refl

pub report_laid : lay (cursor_bytes ++ block_of "CD") (block_of "AB") ≡ head_at ++ (0x03 ∷ [])
unfolding laying
report_laid = refl
