-- Blocks that leave out what was stored, or have what wasn't, are caught by demand 3 over steps.
use mathlib.Core.Path.{◌≡◌, refl, sym, ap, ◌∙◌, subst}
use mathlib.Core.Bool.{true, false}
use mathlib.Core.List.Memᴰ
use mathlib.Core.List.{List, [], ◌∷◌, ◌++◌, map, Memᴰ}
use Prim.Native.Nat.{ℕ}
use Prim.Native.Char.{Char, code}
use native.Mathlib.Omega.{arith}
use borrow.Author.Tests.{eqb-false}
use lib.ListN.{length, get_or, replicate}
use Rattle.words.specs.Lists.{selected}
use Rattle.sequence.specs.Record.{esc_read}
use Rattle.page.specs.Marks.{is_modified, unprotected}
use Rattle.page.specs.Page.{cells}
use Rattle.fields.specs.Fields.{Field, fields_from, fields_of}
use Rattle.blocks.specs.Blocks.{Entry, encode, entry_of, block}
use Rattle.blocks.specs.Decode.{decode}
use Rattle.blocks.specs.Lay.{lay}
use Rattle.steps.specs.Steps.{Terminal, changed_block, Valid}
use Rattle.steps.specs.Seen.{fields_here}
use Rattle.words.specs.Text.{bytes}
use Rattle.promises.specs.Rules.{Input, byte, press}
use Rattle.promises.specs.Copying.{HostStoresNothing, block_in, blocks_sent, standings, copies, OmitsExactly, stored_since, OmissionHolds}
use Rattle.promises.specs.Further.{CopyingSteps, OmissionSteps}
use Rattle.wrong.specs.Rules.{first_cell_block, looks_at_first_cells, feigns_changed_blocks, never_tags, tags_only_changes, is_block, keeps_tags}
use Rattle.promises.proofs.Sheets.{sheet, at, sheet_fields, sheet_block}
use Rattle.wrong.proofs.WrongModes.{half_read}
use Rattle.promises.proofs.Computing.{validity, block_bytes, laying, host_steps, key_steps, streams}

-- A field of three cells: A, some second character, C. Its marks: no tag, a tag on the first cell, one on the second.
abbrev pub texts : Char → List ℕ
texts second = code "A" ∷ code second ∷ bytes "C  "

abbrev pub clear : List ℕ
clear = 0 ∷ 0 ∷ 0 ∷ 1 ∷ 1 ∷ []

abbrev first_tagged : List ℕ
first_tagged = 2 ∷ 0 ∷ 0 ∷ 1 ∷ 1 ∷ []

abbrev second_tagged : List ℕ
second_tagged = 0 ∷ 2 ∷ 0 ∷ 1 ∷ 1 ∷ []

-- The cursor is on the second cell, and after a typed character on the third.
abbrev pub before : Char → List ℕ → Terminal
before second marks = at 2 (sheet (texts second) marks)

abbrev pub after : Char → List ℕ → Terminal
after second marks = at 3 (sheet (texts second) marks)

pub B_valid : Valid (before "B" clear)
unfolding validity
B_valid = record { size = refl; state = refl; page = refl }

-- With ESC half read, S asks for a full block.
abbrev asking : List ℕ → Terminal
asking marks = half_read esc_read (before "B" marks)

asking_valid : Valid (asking clear)
unfolding validity
asking_valid = record { size = B_valid.size; state = refl; page = B_valid.page }

-- ESC [ 1 ; 1 f, the three characters, 03; and 03 alone.
abbrev pub field_block : Char → List ℕ
field_block second = bytes "\u{1b}[1;1fA" ++ (code second ∷ bytes "C\u{3}")

abbrev pub empty_block : List ℕ
empty_block = bytes "\u{3}"

abbrev pub first_block : List ℕ
first_block = block true 80 (sheet (texts "B") clear)

pub full_block_is : (second : Char) → block true 80 (sheet (texts second) clear) ≡ field_block second
unfolding block_bytes
full_block_is second = sheet_block (texts second) clear refl refl true ∙ refl

-- With a tag on the second cell only, the block by first cells is empty; and with none so is a changed block.
by_first_cells : (second : Char) → first_cell_block (after second second_tagged) ≡ empty_block
unfolding first_cell_block block_bytes
by_first_cells second =
    ap (λ (fields : List Field). encode (map (entry_of 80 (after second second_tagged).page.characters) (selected (λ (field : Field). is_modified (get_or (after second second_tagged).page.marks field.start 0)) fields)))
    (sheet_fields (texts second) second_tagged refl refl)
    ∙ refl

pub untagged-block : (second : Char) → block false 80 (sheet (texts second) clear) ≡ empty_block
unfolding block_bytes
untagged-block second = sheet_block (texts second) clear refl refl false ∙ refl

-- The copy. After a full block with B, X is typed and a changed block sent. If that has no field, the copy has B still.
pub copy_is_stale : {changed : List ℕ} → changed ≡ empty_block → lay changed first_block ≡ block true 80 (sheet (texts "X") clear) → ⊥
unfolding laying
copy_is_stale empty right =
    eqb-false (code "B") (code "X") refl (ap (λ (bytes : List ℕ). get_or bytes 7 0) (sym (λ i. lay (empty i) (full_block_is "B" i)) ∙ right ∙ full_block_is "X"))

-- Of two lists of copies that are the same, the second ones.
pub second_copy : {a b c d : List ℕ} → a ∷ b ∷ [] ≡ c ∷ d ∷ [] → b ≡ d
second_copy same = ap copy_after same
  where
    copy_after : List (List ℕ) → List ℕ
    copy_after [] = []
    copy_after (first ∷ []) = []
    copy_after (first ∷ second ∷ later) = second

abbrev pub type_x : List Input
type_x = press (code "X") ∷ press 266 ∷ []

pub looks_at_first_cells_breaks_copying-steps : CopyingSteps looks_at_first_cells → ⊥
unfolding host_steps key_steps streams HostStoresNothing block_in blocks_sent standings copies
looks_at_first_cells_breaks_copying-steps kept =
    copy_is_stale (by_first_cells "X") (second_copy (kept (asking clear) asking_valid (byte (code "S")) first_block refl type_x tt))

pub feigns_changed_blocks_breaks_copying-steps : CopyingSteps feigns_changed_blocks → ⊥
unfolding host_steps key_steps streams HostStoresNothing block_in blocks_sent standings copies
feigns_changed_blocks_breaks_copying-steps kept =
    copy_is_stale refl (second_copy (kept (asking clear) asking_valid (byte (code "S")) first_block refl type_x tt))

pub never_tags_breaks_copying-steps : CopyingSteps never_tags → ⊥
unfolding host_steps key_steps streams HostStoresNothing block_in blocks_sent standings copies
never_tags_breaks_copying-steps kept =
    copy_is_stale (untagged-block "X") (second_copy (kept (asking clear) asking_valid (byte (code "S")) first_block refl type_x tt))

-- Omission. The field; and a changed block that omits it, though its second cell was stored.
abbrev three_cells : Field
three_cells = record { start = 0; length = 3 }

pub field_listed : (marks : List ℕ) → length marks ≡ 5 → fields_from (unprotected (marks ++ replicate 1915 1)) 1920 0 5 ≡ three_cells ∷ [] → Memᴰ three_cells (fields_of (unprotected (marks ++ replicate 1915 1)) (cells (sheet (texts "B") marks)))
field_listed marks five is = subst (Memᴰ three_cells) (sym (sheet_fields (texts "B") marks refl five ∙ is)) (Memᴰ.head refl)

pub wrongly_omitted : (marks changed : List ℕ) → Memᴰ three_cells (fields_here (after "B" marks)) → changed ≡ empty_block → OmitsExactly (changed_block changed) (after "B" marks) (1 ∷ []) → ⊥
unfolding laying OmitsExactly
wrongly_omitted marks changed listed empty exactly =
    let none : decode changed ≡ [] = ap decode empty in
    let unstored = (exactly three_cells listed).0 (record { no_entry = λ entry among row column. Memᴰ.not-nil (subst (Memᴰ entry) none among) }) in
    unstored.no_cell 1 (omega arith) (omega arith) (Memᴰ.head refl)

-- B is typed where B stands.
abbrev pub type_b : List Input
type_b = press (code "B") ∷ press 266 ∷ []

pub looks_at_first_cells_breaks_omission_steps : OmissionSteps looks_at_first_cells → ⊥
unfolding block_bytes host_steps key_steps streams HostStoresNothing OmissionHolds OmitsExactly stored_since
looks_at_first_cells_breaks_omission_steps kept =
    wrongly_omitted second_tagged (first_cell_block (after "B" second_tagged)) (field_listed second_tagged refl refl) (by_first_cells "B")
    (kept (asking clear) asking_valid (byte (code "S")) first_block refl type_b tt).1.0

pub tags_only_changes_breaks_omission_steps : OmissionSteps tags_only_changes → ⊥
unfolding block_bytes host_steps key_steps streams HostStoresNothing OmissionHolds OmitsExactly stored_since
tags_only_changes_breaks_omission_steps kept =
    wrongly_omitted clear (block false 80 (sheet (texts "B") clear)) (field_listed clear refl refl) (untagged-block "B")
    (kept (asking clear) asking_valid (byte (code "S")) first_block refl type_b tt).1.0

-- Where the first cell is modified before the full block, a changed block right after it is to have no field.
first_tagged-block : block false 80 (sheet (texts "B") first_tagged) ≡ field_block "B"
unfolding block_bytes
first_tagged-block = sheet_block (texts "B") first_tagged refl refl false ∙ refl

first_tagged_valid : Valid (asking first_tagged)
unfolding validity
first_tagged_valid = record { size = refl; state = refl; page = refl }

wrongly_sent : OmitsExactly (changed_block (block false 80 (sheet (texts "B") first_tagged))) (before "B" first_tagged) [] → ⊥
unfolding block_bytes laying OmitsExactly
wrongly_sent exactly =
    let omitted = (exactly three_cells (field_listed first_tagged refl refl)).1 (record { no_cell = λ cell low high among. Memᴰ.not-nil among }) in
    let entry : Entry = record { row = 1; column = 1; characters = bytes "ABC" } in
    omitted.no_entry entry (subst (λ (bytes : List ℕ). Memᴰ entry (decode bytes)) (sym first_tagged-block) (Memᴰ.head refl)) refl refl

pub keeps_tags_breaks_omission_steps : OmissionSteps keeps_tags → ⊥
unfolding host_steps key_steps streams is_block HostStoresNothing OmissionHolds OmitsExactly stored_since
keeps_tags_breaks_omission_steps kept =
    wrongly_sent (kept (asking first_tagged) first_tagged_valid (byte (code "S")) (block true 80 (sheet (texts "B") first_tagged)) refl (press 266 ∷ []) tt).0
