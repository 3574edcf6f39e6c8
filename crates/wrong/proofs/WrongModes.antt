-- Terminals that change what 266 sends where it stays, or leave it where it is chosen, are caught by SendModeStays; an
-- ESC S that goes by it, by SendsBlocks.
use mathlib.Core.Path.{refl, sym}
use mathlib.Core.Bool.{Bool, false}
use Prim.Native.Nat.{ℕ}
use Prim.Native.Char.{code}
use borrow.Author.Tests.{eqb-false}
use Rattle.words.specs.Lists.{every}
use Rattle.words.proofs.Choosing.{true_is_not_false}
use Rattle.sequence.specs.declared.HalfRead.{HalfRead}
use Rattle.sequence.specs.Record.{esc_read, argument_read, private_mark_read, with_last_argument}
use Rattle.blocks.specs.Blocks.{block}
use Rattle.state.specs.State.{with_half}
use Rattle.state.specs.Tests.{valid_state}
use Rattle.steps.specs.Steps.{Terminal, with_state, Valid}
use Rattle.table.specs.Settings.{set_mode}
use Rattle.promises.specs.Rules.{our_rules, byte}
use Rattle.promises.specs.Entries.{our_entries}
use Rattle.promises.specs.Further.{Asks, SendsBlocks, Chooses, set_by_h, reset_by_l, fresh_by_esc_c, SendModeStays}
use Rattle.wrong.specs.Entries.{start_sends_all}
use Rattle.wrong.specs.Rules.{esc_sby_mode, swaps_set_and_reset, esc_ckeeps_mode, resets_without_mark, sends_all_once}
use Rattle.promises.proofs.Worked.{in_full}
use Rattle.wrong.proofs.WrongAnswers.{one_field, one_field_valid}
use Rattle.promises.proofs.Computing.{validity, host_steps, key_steps, calls, streams}

-- A terminal with a sequence half read.
abbrev pub half_read : HalfRead → Terminal → Terminal
half_read half t = with_state t (with_half t.state half)

-- One whose 266 sends all is as valid as it was.
pub in_full_valid : {t : Terminal} → Valid t → Valid (in_full t)
unfolding valid_state
in_full_valid valid = record { size = valid.size; state = valid.state; page = valid.page }

-- h after ESC [ > 6, which is to choose what changed.
abbrev private_six : Terminal
private_six = half_read (with_last_argument private_mark_read 6) one_field

private_valid : Valid private_six
unfolding validity
private_valid = record { size = one_field_valid.size; state = refl; page = one_field_valid.page }

pub swaps_set_and_reset_breaks_send_mode_stays : SendModeStays swaps_set_and_reset our_entries → ⊥
unfolding host_steps
swaps_set_and_reset_breaks_send_mode_stays kept =
    true_is_not_false (kept.chosen_by_host private_six private_valid false (code "h") (set_by_h refl refl))

-- c after ESC, where 266 sends all; and S after it, where 266 sends what changed.
abbrev after_esc : Terminal
after_esc = half_read esc_read one_field

esc_valid : Valid after_esc
unfolding validity
esc_valid = record { size = one_field_valid.size; state = refl; page = one_field_valid.page }

pub esc_ckeeps_mode_breaks_send_mode_stays : SendModeStays esc_ckeeps_mode our_entries → ⊥
unfolding host_steps
esc_ckeeps_mode_breaks_send_mode_stays kept =
    true_is_not_false (kept.chosen_by_host (in_full after_esc) (in_full_valid esc_valid) false (code "c") (fresh_by_esc_c refl))

-- It asks for no changed block.
s_asks_not : Asks after_esc false (byte (code "S")) → ⊥
s_asks_not = elim [ ]

pub esc_sby_mode_breaks_sends_blocks : SendsBlocks esc_sby_mode → ⊥
unfolding host_steps streams
esc_sby_mode_breaks_sends_blocks kept =
    s_asks_not ((kept after_esc esc_valid (byte (code "S")) false (block false 80 one_field.page)).0 refl).0

-- l after ESC [ 6, which has no >, chooses nothing.
abbrev six : Terminal
six = half_read (with_last_argument argument_read 6) one_field

six_valid : Valid six
unfolding validity
six_valid = record { size = one_field_valid.size; state = refl; page = one_field_valid.page }

not_chosen : (full : Bool) (byte : ℕ) → Chooses six.state.half full byte → ⊥
not_chosen _ _ (set_by_h private _) = eqb-false 3 5 refl private
not_chosen _ _ (reset_by_l private _) = eqb-false 3 5 refl private
not_chosen _ _ (fresh_by_esc_c esc) = eqb-false 3 1 refl esc

pub resets_without_mark_breaks_send_mode_stays : SendModeStays resets_without_mark our_entries → ⊥
unfolding host_steps set_mode every
resets_without_mark_breaks_send_mode_stays kept =
    true_is_not_false (kept.left_by_host six six_valid (code "l") (λ full. not_chosen full (code "l")))

-- 266 that has sent all.
pub sends_all_once_breaks_send_mode_stays : SendModeStays sends_all_once our_entries → ⊥
unfolding key_steps
sends_all_once_breaks_send_mode_stays kept = true_is_not_false (sym (kept.left_by_keys (in_full one_field) 266))

-- A start of 24 by 80.
pub start_sends_all_breaks_send_mode_stays : SendModeStays our_rules start_sends_all → ⊥
unfolding calls
start_sends_all_breaks_send_mode_stays kept = true_is_not_false (kept.fresh_by_start one_field.state.size one_field.page refl)
