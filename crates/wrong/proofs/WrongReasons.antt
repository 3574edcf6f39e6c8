-- Refused commands with a wrong message, a wrong byte or no lock are caught by Reasons; a message that goes or stays
-- when it should not, by MessageStays.
use mathlib.Core.Path.{refl, sym}
use mathlib.Core.Bool.{Bool, true, false}
use mathlib.Core.List.{[], ◌∷◌}
use Prim.Native.Char.{code}
use borrow.Author.Tests.{eqb-false}
use Rattle.words.specs.Text.{bytes}
use Rattle.words.proofs.Choosing.{true_is_not_false}
use Rattle.sequence.specs.declared.HalfRead.{HalfRead}
use Rattle.sequence.specs.Record.{nothing_read, spoilt_read}
use Rattle.state.specs.declared.Locks.{Locks}
use Rattle.state.specs.State.{with_locks, with_half}
use Rattle.steps.specs.Steps.{Terminal, with_state, Valid}
use Rattle.commands.proofs.Theorems.{step_refused}
use Rattle.terminal.specs.Lines.{Decides}
use Rattle.promises.specs.Reasons.{reason_table, Reasons, Clears, MessageStays}
use Rattle.wrong.specs.Rules.{unknown_before_spoilt, keeps_spoiling_byte, keeps_first_byte, locks_nothing, text_clears, unlocks_only}
use Rattle.promises.proofs.Theorems.{reasons}
use Rattle.promises.proofs.Sheets.{sheet, at}
use Rattle.promises.proofs.Computing.{validity, host_steps, key_steps}

-- ESC ? was refused before, with message 1. Nothing is half read now, or ESC [ ?, which is spoilt; the lock may be off.
abbrev told : Bool → HalfRead → Terminal
told soft half =
    let t = at 1 (sheet (bytes "A    ") (0 ∷ 1 ∷ 1 ∷ 1 ∷ 1 ∷ [])) in
    let locks : Locks = record { manual = false; soft = soft; message = 1; byte = code "?" } in
    with_state t (with_half (with_locks t.state locks) half)

abbrev spoilt_by_mark : Terminal
spoilt_by_mark = told true spoilt_read

spoilt_valid : Valid spoilt_by_mark
unfolding validity
spoilt_valid = record { size = refl; state = refl; page = refl }

-- Q, which no table lists, ends it: message 3, at Q.
q_decides : Decides (reason_table (code "Q") spoilt_by_mark) 3
unfolding host_steps
q_decides =
    (reasons.refused spoilt_by_mark spoilt_valid (code "Q") 3 (eqb-false 3 0 refl)).0
    (record { was_refused = refl; shows = record { message_shown = refl; byte_shown = refl }; refusal = step_refused (code "Q") spoilt_by_mark spoilt_valid refl })

pub unknown_before_spoilt_breaks_reasons : Reasons unknown_before_spoilt → ⊥
unfolding host_steps
unknown_before_spoilt_breaks_reasons kept =
    eqb-false 1 3 refl ((kept.refused spoilt_by_mark spoilt_valid (code "Q") 3 (eqb-false 3 0 refl)).1 q_decides).shows.message_shown

pub keeps_spoiling_byte_breaks_reasons : Reasons keeps_spoiling_byte → ⊥
unfolding host_steps
keeps_spoiling_byte_breaks_reasons kept =
    eqb-false (code "?") (code "Q") refl ((kept.refused spoilt_by_mark spoilt_valid (code "Q") 3 (eqb-false 3 0 refl)).1 q_decides).shows.byte_shown

-- That message stood when Q came.
pub keeps_first_byte_breaks_reasons : Reasons keeps_first_byte → ⊥
unfolding host_steps
keeps_first_byte_breaks_reasons kept =
    eqb-false (code "?") (code "Q") refl ((kept.refused spoilt_by_mark spoilt_valid (code "Q") 3 (eqb-false 3 0 refl)).1 q_decides).shows.byte_shown

-- The same with the soft lock off: Q sets it.
abbrev unlocked_spoilt : Terminal
unlocked_spoilt = told false spoilt_read

unlocked_valid : Valid unlocked_spoilt
unfolding validity
unlocked_valid = record { size = refl; state = refl; page = refl }

unlocked_decides : Decides (reason_table (code "Q") unlocked_spoilt) 3
unfolding host_steps
unlocked_decides =
    (reasons.refused unlocked_spoilt unlocked_valid (code "Q") 3 (eqb-false 3 0 refl)).0
    (record { was_refused = refl; shows = record { message_shown = refl; byte_shown = refl }; refusal = step_refused (code "Q") unlocked_spoilt unlocked_valid refl })

pub locks_nothing_breaks_reasons : Reasons locks_nothing → ⊥
unfolding host_steps
locks_nothing_breaks_reasons kept =
    true_is_not_false (sym ((kept.refused unlocked_spoilt unlocked_valid (code "Q") 3 (eqb-false 3 0 refl)).1 unlocked_decides).refusal.soft_lock)

-- Text comes with nothing half read.
abbrev standing : Terminal
standing = told true nothing_read

standing_valid : Valid standing
unfolding validity
standing_valid = record { size = refl; state = refl; page = refl }

x_clears_not : Clears standing.state.half (code "X") → ⊥
x_clears_not = elim [ ]

pub text_clears_breaks_message_stays : MessageStays text_clears → ⊥
unfolding host_steps
text_clears_breaks_message_stays kept =
    eqb-false 0 1 refl (kept.left_by_host standing standing_valid (code "X") x_clears_not refl).message_shown

pub unlocks_only_breaks_message_stays : MessageStays unlocks_only → ⊥
unfolding key_steps
unlocks_only_breaks_message_stays kept = eqb-false 1 0 refl (kept.cleared_by_268 standing).message_shown
