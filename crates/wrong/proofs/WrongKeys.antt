-- Keys that change protected cells are caught by demand 2, and those that bring a character where it isn't taken by
-- `KeysTake`; blocks that clear too much or too little, by what a block leaves.
use mathlib.Core.Path.{refl, sym}
use mathlib.Core.Bool.{true, false}
use mathlib.Core.List.Memᴰ
use mathlib.Core.List.{[], ◌∷◌}
use Prim.Native.Nat.{ℕ}
use Prim.Native.Char.{code}
use borrow.Author.Tests.{eqb-false}
use lib.ListN.{replicate}
use Rattle.words.proofs.Choosing.{true_is_not_false}
use Rattle.sequence.specs.Record.{esc_read}
use Rattle.blocks.specs.Blocks.{block}
use Rattle.steps.specs.Steps.{Terminal, Valid}
use Rattle.words.specs.Text.{bytes}
use Rattle.promises.specs.Rules.{byte, press}
use Rattle.promises.specs.Demands.{KeysKeep}
use Rattle.promises.specs.Further.{BlocksKeep, KeysTake}
use Rattle.wrong.specs.Entries.{blanks_row, types_on_protected}
use Rattle.wrong.specs.Rules.{is_block, clears_all_tags, unprotects_first, clears_looks, keeps_tags, types_anything, carries_anything, makes_plain, takes_required_off}
use Rattle.promises.proofs.Sheets.{sheet, at}
use Rattle.wrong.proofs.WrongModes.{half_read}
use Rattle.promises.proofs.Computing.{validity, host_steps, key_steps, calls, streams}

-- A field of one cell, and after it a protected B.
abbrev field_and_label : ℕ → Terminal
field_and_label column = at column (sheet (bytes "AB   ") (0 ∷ 1 ∷ 1 ∷ 1 ∷ 1 ∷ []))

-- 263 in the field blanks the B.
pub blanks_row_breaks_keys_keep : KeysKeep blanks_row → ⊥
unfolding calls key_steps
blanks_row_breaks_keys_keep kept =
    eqb-false (code " ") (code "B") refl (kept.protected_cells (field_and_label 1) 263 [] 1 refl).character

-- X typed with the cursor on the B.
pub types_on_protected_breaks_keys_keep : KeysKeep types_on_protected → ⊥
unfolding calls key_steps
types_on_protected_breaks_keys_keep kept =
    eqb-false (code "X") (code "B") refl (kept.protected_cells (field_and_label 2) (code "X") [] 1 refl).character

-- The first cell is protected and modified.
abbrev tagged_label : Terminal
tagged_label = at 1 (sheet (replicate 5 0x20) (3 ∷ 0 ∷ 0 ∷ 0 ∷ 0 ∷ []))

-- 266 from there; and S, where ESC is half read.
pub clears_all_tags_breaks_blocks_keep : BlocksKeep clears_all_tags → ⊥
unfolding validity key_steps streams is_block
clears_all_tags_breaks_blocks_keep kept =
    let valid : Valid tagged_label = record { size = refl; state = refl; page = refl } in
    eqb-false 1 3 refl ((kept tagged_label valid (press 266) false (block false 80 tagged_label.page) refl).protected_cells 0 refl).mark

abbrev after_escape : Terminal
after_escape = half_read esc_read tagged_label

pub unprotects_first_breaks_blocks_keep : BlocksKeep unprotects_first → ⊥
unfolding validity host_steps key_steps streams is_block
unprotects_first_breaks_blocks_keep kept =
    let valid : Valid after_escape = record { size = refl; state = refl; page = refl } in
    eqb-false 0 3 refl ((kept after_escape valid (byte (code "S")) true (block true 80 after_escape.page) refl).protected_cells 0 refl).mark

-- A field of one cell that is modified, and is so still after 266.
abbrev tagged_field : Terminal
tagged_field = at 1 (sheet (replicate 5 0x20) (2 ∷ 1 ∷ 1 ∷ 1 ∷ 1 ∷ []))

pub keeps_tags_breaks_blocks_keep : BlocksKeep keeps_tags → ⊥
unfolding validity key_steps streams is_block
keeps_tags_breaks_blocks_keep kept =
    let valid : Valid tagged_field = record { size = refl; state = refl; page = refl } in
    true_is_not_false ((kept tagged_field valid (press 266) false (block false 80 tagged_field.page) refl).none_modified 0 refl)

-- A field of one cell that is bold, and is not after 266.
abbrev bold_field : Terminal
bold_field = at 1 (sheet (replicate 5 0x20) (4 ∷ 1 ∷ 1 ∷ 1 ∷ 1 ∷ []))

pub clears_looks_breaks_blocks_keep : BlocksKeep clears_looks → ⊥
unfolding validity key_steps streams is_block
clears_looks_breaks_blocks_keep kept =
    let valid : Valid bold_field = record { size = refl; state = refl; page = refl } in
    eqb-false 0 4 refl ((kept bold_field valid (press 266) false (block false 80 bold_field.page) refl).marks 0)

-- A field of one numeric cell and a plain one, with a 1 and an A.
abbrev mixed_field : Terminal
mixed_field = at 1 (sheet (bytes "1A   ") (0x80 ∷ 0 ∷ 1 ∷ 1 ∷ 1 ∷ []))

-- O typed into the numeric cell.
pub types_anything_breaks_keys_take : KeysTake types_anything → ⊥
unfolding validity key_steps
types_anything_breaks_keys_take kept =
    let valid : Valid mixed_field = record { size = refl; state = refl; page = refl } in
    true_is_not_false (sym (kept.taken mixed_field valid (code "O") 0 (Memᴰ.head refl)))

-- 264 there carries the A into it.
pub carries_anything_breaks_keys_take : KeysTake carries_anything → ⊥
unfolding validity key_steps
carries_anything_breaks_keys_take kept =
    let valid : Valid mixed_field = record { size = refl; state = refl; page = refl } in
    true_is_not_false (sym (kept.taken mixed_field valid 264 0 (Memᴰ.head refl)))

-- A digit typed into it leaves it plain.
pub makes_plain_breaks_keys_take : KeysTake makes_plain → ⊥
unfolding validity key_steps
makes_plain_breaks_keys_take kept = true_is_not_false (sym (kept.kinds mixed_field (code "3") 0).numeric)

-- A character typed into a required cell leaves it so no longer.
abbrev required_cell : Terminal
required_cell = at 1 (sheet (bytes "     ") (512 ∷ 1 ∷ 1 ∷ 1 ∷ 1 ∷ []))

pub takes_required_off_breaks_keys_take : KeysTake takes_required_off → ⊥
unfolding key_steps
takes_required_off_breaks_keys_take kept = true_is_not_false (sym (kept.kinds required_cell (code "3") 0).required)
