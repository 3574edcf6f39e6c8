-- Contracts that leave something open allow two results for one call, which OneResult rules out.
use mathlib.Core.Path.{refl, ap}
use mathlib.Core.Bool.{false}
use mathlib.Core.List.{List, [], ◌∷◌}
use Prim.Native.Nat.{ℕ}
use borrow.Author.Tests.{eqb-false}
use lib.ListN.{get_or}
use Rattle.sequence.specs.Record.{esc_read}
use Rattle.state.specs.declared.State.{State}
use Rattle.state.specs.State.{zero_state, with_half}
use Rattle.terminal.specs.declared.Answer.{Answer}
use Rattle.terminal.specs.declared.Answer.TheVariants.{Done, WrongSize}
use Rattle.terminal.specs.declared.Reply.{Reply}
use Rattle.promises.specs.Further.{OneResult}
use Rattle.wrong.specs.OpenContracts.{open_past_sent, open_count, open_half_read}
use Rattle.wrong.proofs.WrongAnswers.{one_field, tiny, one_by_one}
use Rattle.promises.proofs.Computing.{key_steps, calls}

-- What is handed back where nothing is taken or sent.
abbrev handing : Answer → State → ℕ → Reply
handing answer state stored = record { answer = answer; state = state; taken = 0; sent = 0; stored = stored; refused = 0; protection = false }

-- An empty host call sends nothing, and a byte of the output may then become 1.
pub open_past_sent_breaks_one_result : OneResult open_past_sent → ⊥
unfolding calls
open_past_sent_breaks_one_result kept =
    let done = handing Done one_field.state 0 in
    let same = kept.of_host one_field [] (0 ∷ []) done done one_field.page one_field.page (0 ∷ []) (1 ∷ []) refl refl in
    eqb-false 0 1 refl (ap (λ (output : List ℕ). get_or output 0 0) same.outputs)

-- A start that is refused may count a cell.
pub open_count_breaks_one_result : OneResult open_count → ⊥
unfolding calls
open_count_breaks_one_result kept =
    let same = kept.of_start one_by_one tiny (handing WrongSize zero_state 0) (handing WrongSize zero_state 1) tiny tiny [] [] refl refl in
    eqb-false 0 1 refl (ap (λ (reply : Reply). reply.stored) same.replies)

-- Key 268, with no lock to clear, may leave an ESC half read.
pub open_half_read_breaks_one_result : OneResult open_half_read → ⊥
unfolding calls key_steps
open_half_read_breaks_one_result kept =
    let half-read = with_half one_field.state esc_read in
    let same = kept.of_key one_field 268 [] (handing Done one_field.state 0) (handing Done half-read 0) one_field.page one_field.page [] [] refl refl in
    eqb-false 0 1 refl (ap (λ (reply : Reply). reply.state.half.kind) same.replies)
