-- A host that reads a stream finds the blocks in it, and passes reports by.
use mathlib.Core.Path.{◌≡◌, refl, sym, ◌∙◌}
use mathlib.Core.Bool.{Bool, true, false, not}
use mathlib.Core.List.{List, [], ◌∷◌, ◌++◌, append_assoc, append-nil}
use Prim.Native.Nat.{ℕ, ◌+◌, ◌/◌, ◌%◌, ◌<◌, ◌≤◌}
use native.Mathlib.Omega.{arith}
use borrow.Author.Tests.{ne_eqb}
use Rattle.words.specs.Choice.{If◌then◌else◌, ◌and◌, ◌or◌}
use Rattle.words.specs.Lists.{every}
use Rattle.words.proofs.Choosing.{then_case, else_case, both, both_hold, neither, range_holds}
use Rattle.words.proofs.Passing.{every_append}
use Rattle.page.specs.Marks.{valid_character}
use Rattle.page.specs.Page.{Page}
use Rattle.output.specs.Decimal.{decimal, place_bytes}
use Rattle.blocks.specs.Blocks.{Entry, head_bytes, entry_bytes, encode, block}
use Rattle.blocks.specs.Decode.{valid_entry}
use Rattle.blocks.specs.Finding.{ends_report, ends_head, holding, outside, inside, after_byte}
use Rattle.blocks.specs.Finding.{blocks_from, blocks_in}
use Rattle.blocks.proofs.Claims.{Sendable, reads_on, IsReport}
use Rattle.blocks.proofs.Decoding.{digits, valid}
use Rattle.blocks.proofs.Pages.{valid_entries}

-- A byte that reads on ends neither a report nor a head.
ends_none : (byte : ℕ) → reads_on byte ≡ true → (ends_report byte ≡ false) × (ends_head byte ≡ false)
unfolding reads_on
ends_none byte h = neither (fails _ h)
  where
    fails : (test : Bool) → not test ≡ true → test ≡ false
    fails true p = sym p
    fails false p = refl

reads_on_lem : (byte : ℕ) → (byte ≡ 0x6E → ⊥) → (byte ≡ 0x52 → ⊥) → (byte ≡ 0x66 → ⊥) → reads_on byte ≡ true
unfolding reads_on ends_report ends_head ◌or◌
reads_on_lem byte n r f = rw (ne_eqb byte 0x6E n, ne_eqb byte 0x52 r, ne_eqb byte 0x66 f)

-- Digits read on.
digit_reads_on : (value : ℕ) → value < 10 → reads_on (0x30 + value) ≡ true
digit_reads_on value h = reads_on_lem (0x30 + value) (λ e. omega arith) (λ e. omega arith) (λ e. omega arith)

decimal-reads_on : (number : ℕ) → number < 1000 → every reads_on (decimal number) ≡ true
unfolding every
decimal-reads_on number small =
    digits (λ (bytes : List ℕ). every reads_on bytes ≡ true) number (λ h. both_hold _ _ (digit_reads_on number h) refl)
    (λ h. both_hold _ _ (digit_reads_on (number / 10) (omega arith)) last)
    (both_hold _ _ (digit_reads_on (number / 100) (omega arith))
    (both_hold _ _ (digit_reads_on (number / 10 % 10) (omega arith)) last))
  where
    last : every reads_on ((0x30 + number % 10) ∷ []) ≡ true
    last = both_hold _ _ (digit_reads_on (number % 10) (omega arith)) refl

-- What stands between the ESC of a place and its final byte.
between_of : ℕ → ℕ → List ℕ
between_of row column = 0x5B ∷ (decimal row ++ (0x3B ∷ decimal column))

place_is : (row column final : ℕ) → place_bytes row column final ≡ 0x1B ∷ (between_of row column ++ (final ∷ []))
unfolding place_bytes between_of
place_is row column final = simp append_assoc

between_reads_on : (row column : ℕ) → row < 1000 → column < 1000 → every reads_on (between_of row column) ≡ true
unfolding between_of every reads_on ends_report ends_head ◌or◌ ◌and◌
between_reads_on row column h k =
    every_append reads_on (decimal row) (0x3B ∷ decimal column) (decimal-reads_on row h) (decimal-reads_on column k)

-- The two reports: ESC [ 0 n, and ESC [ row ; column R.
pub ready_is_report : IsReport (0x1B ∷ 0x5B ∷ 0x30 ∷ 0x6E ∷ [])
unfolding every reads_on ends_report ends_head ◌or◌ ◌and◌
ready_is_report =
    record { between = 0x5B ∷ 0x30 ∷ []; final = 0x6E; whole = refl; between_reads_on = refl; final_ends = refl }

pub cursor_is_report : (row column : ℕ) → row < 1000 → column < 1000 → IsReport (place_bytes row column 0x52)
unfolding ends_report ◌or◌
cursor_is_report row column h k =
    record {
      between = between_of row column;
      final = 0x52;
      whole = place_is row column 0x52;
      between_reads_on = between_reads_on row column h k;
      final_ends = refl;
    }

-- What was ended counts no more.
ended_counts_no_more : (block sequence : List ℕ) (ended : List (List ℕ)) (later : List ℕ)
    → blocks_from (record { block = block; sequence = sequence; ended = ended }) later
    ≡ blocks_from (holding block sequence) later
unfolding blocks_from
ended_counts_no_more block sequence ended [] = refl
ended_counts_no_more block sequence ended (byte ∷ later) = refl

-- A byte inside a sequence, by what it ends; a character outside one.
module _ (byte : ℕ) (block : List ℕ) where
  goes_on : (sequence : List ℕ) → reads_on byte ≡ true
      → inside byte block sequence ≡ holding block (sequence ++ (byte ∷ []))
  unfolding inside
  goes_on sequence h = let p = ends_none byte h in else_case _ _ _ p.0 ∙ else_case _ _ _ p.1

  report_ends : (sequence : List ℕ) → ends_report byte ≡ true → inside byte block sequence ≡ holding block []
  unfolding inside
  report_ends sequence h = then_case _ _ _ h

  character_joins : 0x20 ≤ byte → outside byte block ≡ holding (block ++ (byte ∷ [])) []
  unfolding outside
  character_joins h =
      else_case _ _ _ (ne_eqb byte 0x1B (λ e. omega arith)) ∙ else_case _ _ _ (ne_eqb byte 0x03 (λ e. omega arith))

-- A sequence is held up to its final byte,
sequence_held : (block : List ℕ) (esc : ℕ) (begun between later : List ℕ) → every reads_on between ≡ true
    → blocks_from (holding block (esc ∷ begun)) (between ++ later)
    ≡ blocks_from (holding block (esc ∷ (begun ++ between))) later
unfolding every blocks_from after_byte
sequence_held block esc begun [] later h = rw append-nil
sequence_held block esc begun (byte ∷ between) later h =
    let p = both h in
    rw (goes_on byte block (esc ∷ begun) p.0, ← append_assoc begun (byte ∷ []) between)
    (sequence_held block esc (begun ++ (byte ∷ [])) between later p.1)

-- Reading on outside a sequence, with a block held that is going on.
abbrev reading : List ℕ → List ℕ → List (List ℕ)
reading block bytes = blocks_from (holding block []) bytes

module _ (block : List ℕ) where
  -- and so from its ESC on.
  sequence_read : (between later : List ℕ) → every reads_on between ≡ true
      → reading block (0x1B ∷ (between ++ later)) ≡ blocks_from (holding block (0x1B ∷ between)) later
  unfolding blocks_from after_byte outside If◌then◌else◌
  sequence_read between later h = sequence_held block 0x1B [] between later h

  -- A report is passed by; a field's head joins the block.
  report_read : (bytes later : List ℕ) → IsReport bytes → reading block (bytes ++ later) ≡ reading block later
  unfolding blocks_from after_byte
  report_read bytes later is =
      let final = is.final in
      rw (is.whole, append_assoc is.between (final ∷ []) later)
      (sequence_read is.between (final ∷ later) is.between_reads_on
      ∙ rw (report_ends final block (0x1B ∷ is.between) is.final_ends))

  head_read : (row column : ℕ) (later : List ℕ) → row < 1000 → column < 1000
      → reading block (head_bytes row column ++ later) ≡ reading (block ++ head_bytes row column) later
  unfolding blocks_from after_byte inside ends_report ends_head ◌or◌ If◌then◌else◌
  head_read row column later h k =
      let between = between_of row column in
      rw (place_is row column 0x66, append_assoc between (0x66 ∷ []) later)
      (sequence_read between (0x66 ∷ later) (between_reads_on row column h k))

  -- A character joins the block too, and 03 ends it.
  character_read : (byte : ℕ) (later : List ℕ) → 0x20 ≤ byte
      → reading block (byte ∷ later) ≡ reading (block ++ (byte ∷ [])) later
  unfolding blocks_from after_byte
  character_read byte later h = rw (character_joins byte block h)

  end_read : (later : List ℕ) → reading block (0x03 ∷ later) ≡ (block ++ (0x03 ∷ [])) ∷ blocks_in later
  unfolding blocks_from after_byte outside If◌then◌else◌
  end_read later = rw (ended_counts_no_more [] [] ((block ++ (0x03 ∷ [])) ∷ []) later)

-- A field's characters, and its entry.
characters_read : (block characters later : List ℕ) → every valid_character characters ≡ true
    → reading block (characters ++ later) ≡ reading (block ++ characters) later
unfolding every
characters_read block [] later h = rw append-nil
characters_read block (character ∷ characters) later h =
    let p = both h in
    rw (← append_assoc block (character ∷ []) characters)
    (character_read block character (characters ++ later) (range_holds character 0x20 0x7E p.0).0
    ∙ characters_read (block ++ (character ∷ [])) characters later p.1)

entry_read : (block : List ℕ) (entry : Entry) (later : List ℕ) → valid_entry entry ≡ true
    → reading block (entry_bytes entry ++ later) ≡ reading (block ++ entry_bytes entry) later
unfolding entry_bytes
entry_read block entry later h =
    let v = valid entry h in
    let head = head_bytes entry.row entry.column in
    rw (append_assoc head entry.characters later, ← append_assoc block head entry.characters)
    (head_read block entry.row entry.column (entry.characters ++ later) v.row v.column
    ∙ characters_read (block ++ head) entry.characters later v.characters)

-- All entries, and 03.
entries_read : (block : List ℕ) (entries : List Entry) (later : List ℕ) → every valid_entry entries ≡ true
    → reading block (encode entries ++ later) ≡ (block ++ encode entries) ∷ blocks_in later
unfolding encode every
entries_read block [] later h = end_read block later
entries_read block (entry ∷ entries) later h =
    let p = both h in
    rw (append_assoc (entry_bytes entry) (encode entries) later, ← append_assoc block (entry_bytes entry) (encode entries))
    (entry_read block entry (encode entries ++ later) p.0
    ∙ entries_read (block ++ entry_bytes entry) entries later p.1)

-- A report in front of a stream is passed by,
pub report_passed : (bytes later : List ℕ) → IsReport bytes → blocks_in (bytes ++ later) ≡ blocks_in later
report_passed = report_read []

-- and a block is found, whatever comes after it:
pub block_found : (entries : List Entry) (later : List ℕ) → every valid_entry entries ≡ true
    → blocks_in (encode entries ++ later) ≡ encode entries ∷ blocks_in later
block_found = entries_read []

-- a page's block too.
pub page_block_found : (columns : ℕ) (page : Page) → Sendable columns page → (full : Bool) (later : List ℕ)
    → blocks_in (block full columns page ++ later) ≡ block full columns page ∷ blocks_in later
unfolding block
page_block_found columns page sendable full later = block_found _ later (valid_entries columns page sendable full)
