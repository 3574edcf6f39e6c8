-- Terminals with another notion of a field: on the remark form, whose field runs over a row's end, on the page with the
-- most fields, which have its first cell and its last, and after a start.
use mathlib.Core.Path.{◌≡◌, refl, sym, ap, ◌∙◌, subst}
use mathlib.Core.Bool.{true}
use mathlib.Core.List.{List, [], ◌∷◌, map, flat_map, Memᴰ}
use Prim.Native.Nat.{ℕ}
use native.Mathlib.Omega.{arith}
use lib.ListN.{length, drop, replicate, length-append}
use Rattle.words.specs.Lists.{each_from}
use Rattle.words.specs.Text.{bytes}
use Rattle.words.proofs.Choosing.{not_both}
use Rattle.page.specs.Marks.{unprotected}
use Rattle.page.specs.Page.{Page, page_of}
use Rattle.places.specs.Places.{place_of}
use Rattle.output.specs.Decimal.{place_bytes}
use Rattle.fields.specs.Fields.{Field, joined, starts_field, field_from, fields_from, fields_of}
use Rattle.fields.proofs.Theorems.{all_fields_listed}
use Rattle.blocks.specs.Blocks.{entry_bytes, encode, block}
use Rattle.blocks.proofs.Claims.{first_and_even}
use Rattle.blocks.proofs.Pages.{all_sent}
use Rattle.state.specs.declared.Size.{Size}
use Rattle.steps.specs.Steps.{Terminal}
use Rattle.steps.specs.Seen.{cells_here, unprotected_at, fields_here, entry_here}
use Rattle.commands.specs.Commands.{fresh_step}
use Rattle.terminal.specs.Calls.{start_step}
use Rattle.promises.specs.Rules.{press}
use Rattle.promises.specs.Further.{StartsWithOneField, SendsBlocks}
use Rattle.promises.proofs.Remark.{sender, sender_valid, the_fields, full_block}
use Rattle.promises.proofs.Computing.{validity, block_bytes, key_steps, calls, streams}
use Rattle.wrong.specs.Entries.{start_keeps_marks, start_protects_first}
use Rattle.wrong.specs.Rules.{cut_at_row_end, cuts_at_row_end, joins_last_to_first}
use Rattle.promises.proofs.Worked.{in_full}
use Rattle.wrong.proofs.WrongModes.{in_full_valid}
use Rattle.wrong.proofs.WrongBounds.{many_fields, many_in_full, many_in_full_valid}

-- A B at 1;79, C at 2;1, D: six bytes too many.
cut_block : encode (map (entry_here sender) (flat_map (cut_at_row_end 80) (fields_here sender))) ≡ bytes "\u{1b}[1;79fAB\u{1b}[2;1fC\u{1b}[2;3fD\u{3}"
unfolding block_bytes cut_at_row_end flat_map
cut_block = ap (λ (fields : List Field). encode (map (entry_here sender) (flat_map (cut_at_row_end 80) fields))) the_fields ∙ refl

pub cuts_at_row_end_breaks_sends_blocks : SendsBlocks cuts_at_row_end → ⊥
unfolding key_steps streams
cuts_at_row_end_breaks_sends_blocks kept =
    let sent = encode (map (entry_here sender) (flat_map (cut_at_row_end 80) (fields_here sender))) in
    let block_is = ((kept (in_full sender) (in_full_valid sender_valid) (press 266) true sent).0 refl).1 in
    omega (arith, ap length (sym cut_block ∙ block_is ∙ full_block))

-- The field at 1;1 is left out: by its bytes the block is too short.
abbrev first_field : Field
first_field = field_from (unprotected_at many_fields) 7680 0

abbrev other_fields : List Field
other_fields = fields_from (unprotected_at many_fields) 7680 1 7679

many_listed : fields_here many_fields ≡ first_field ∷ other_fields
unfolding validity each_from first_and_even place_of unprotected joined starts_field fields_from fields_of
many_listed = refl

pub joins_last_to_first_breaks_sends_blocks : SendsBlocks joins_last_to_first → ⊥
unfolding validity each_from first_and_even place_of unprotected key_steps streams block encode entry_bytes place_bytes
joins_last_to_first_breaks_sends_blocks kept =
    let sent : List Field → List ℕ = λ fields. encode (map (entry_here many_fields) (drop 1 fields)) in
    let block_is = ((kept many_in_full many_in_full_valid (press 266) true (sent (fields_here many_fields))).0 refl).1 in
    let whole = block_is ∙ ap encode (all_sent 160 many_fields.page ∙ ap (map (entry_here many_fields)) many_listed) in
    omega (arith, ap length (ap sent (sym many_listed) ∙ whole), length-append (entry_bytes (entry_here many_fields first_field)) (encode (map (entry_here many_fields) other_fields)))

-- A start whose page is one field leaves the first cell unprotected.
abbrev size : Size
size = record { rows = 24; columns = 80 }

abbrev whole : Field
whole = record { start = 0; length = 1920 }

first_unprotected : (t : Terminal) → fields_here t ≡ whole ∷ [] → unprotected_at t 0 ≡ true
first_unprotected t is =
    let listed = subst (Memᴰ whole) (sym is) (Memᴰ.head refl) in
    ((all_fields_listed (unprotected_at t) (cells_here t)).only_fields whole listed).all_unprotected 0 (omega arith, omega arith)

abbrev labelled : Page
labelled = page_of (replicate 1920 0x20) (1 ∷ replicate 1919 0)

pub start_keeps_marks_breaks_starts_with_one_field : StartsWithOneField start_keeps_marks → ⊥
unfolding calls unprotected
start_keeps_marks_breaks_starts_with_one_field kept =
    not_both (first_unprotected (start_keeps_marks.start size labelled).terminal (kept size labelled refl)) refl

pub start_protects_first_breaks_starts_with_one_field : StartsWithOneField start_protects_first → ⊥
unfolding calls unprotected start_step fresh_step
start_protects_first_breaks_starts_with_one_field kept =
    not_both (first_unprotected (start_protects_first.start size labelled).terminal (kept size labelled refl)) refl
