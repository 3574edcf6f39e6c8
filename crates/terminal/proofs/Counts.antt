-- The counts of every call fit in four bytes: a call does 65,536 steps at most, of which each sends 35,138 bytes at
-- most and stores no more cells than a page has.
use mathlib.Core.Path.{◌≡◌, refl, sym, ap, subst}
use mathlib.Core.Bool.{true, false}
use mathlib.Core.List.{List, [], ◌∷◌}
use Prim.Native.Nat.{ℕ, suc, ◌-◌, ◌*◌, ◌≤◌}
use native.Mathlib.Nat.{mul-le-mul}
use native.Mathlib.Omega.{arith}
use lib.ListN.{length, length-append}
use Rattle.words.specs.Choice.{◌and◌}
use Rattle.words.proofs.Choosing.{either_line}
use Rattle.page.specs.Page.{Page}
use Rattle.state.specs.declared.Size.{Size}
use Rattle.state.proofs.Keeping.{size_bounds}
use Rattle.steps.specs.Steps.{Terminal, Transmission, silent, report, full_block, changed_block, Stepped, bytes_of, Valid}
use Rattle.steps.proofs.Naming.{named_count}
use Rattle.steps.proofs.Soundness.{sized}
use Rattle.steps.proofs.Measuring.{measured}
use Rattle.commands.specs.Host.{host_step}
use Rattle.commands.proofs.Lengths.{block_short, step_short}
use Rattle.commands.proofs.Theorems.{step_keeps_valid}
use Rattle.keys.specs.Keys.{key_step}
use Rattle.keys.proofs.Theorems.{key_names_once, key_sends_full, key_sends_changed, key_sends_no_report}
use Rattle.terminal.specs.declared.Answer.{Answer}
use Rattle.terminal.specs.declared.Answer.TheVariants.{NoRoom}
use Rattle.terminal.specs.Runs.{steps_of, fitting, bytes_sent_by, cells_stored_by}
use Rattle.terminal.specs.Answers.{unchanged, after_steps, changes_nothing, gives}
use Rattle.terminal.specs.Tests.{◌answers◌, exceeds_room, host_refusals, host_lines}
use Rattle.terminal.specs.Calls.{start_call, host_call, key_call}
use Rattle.terminal.specs.Claims.{CountsFit}
use Rattle.terminal.proofs.Firsts.{AllFail, all_change_nothing, Tested, one_holds, last_holds, none_holds, tested}
use Rattle.terminal.proofs.Deciding
use Rattle.terminal.proofs.Deciding.{host_passed, host_short}
use Rattle.terminal.proofs.Running.{step_count}
use Rattle.terminal.proofs.Cases.{StartCase, refused, started, start_case, KeyCase, pressed, key_case}

-- A key sends a block or nothing, and stores each cell of the page once at most.
pub key_short : (key : ℕ) (t : Terminal) → Valid t → (transmission : Transmission) → (key_step key t).transmission ≡ transmission → length (bytes_of transmission) ≤ 35138
unfolding bytes_of
key_short key t valid silent is = omega arith
key_short key t valid (report bytes) is = absurd (key_sends_no_report key t bytes is)
key_short key t valid (full_block bytes) is = omega (arith, ap (length {A = ℕ}) (key_sends_full key t bytes is).of_page, block_short t valid.size true)
key_short key t valid (changed_block bytes) is = omega (arith, ap (length {A = ℕ}) (key_sends_changed key t bytes is).of_page, block_short t valid.size false)

key_count : (key : ℕ) (t : Terminal) → Valid t → length (key_step key t).cells ≤ 7680
key_count key t valid =
    let few = named_count (key_names_once key t valid) in
    let most = (measured valid).most in
    omega arith

-- So many steps at most, and what so many can send and store.
record Few (n : ℕ) (steps : List Stepped) : Type 0 where
  number : length steps ≤ n
  sent : length (bytes_sent_by steps) ≤ n * 35138
  stored : length (cells_stored_by steps) ≤ n * 7680

few_none : (n : ℕ) → Few n []
unfolding bytes_sent_by cells_stored_by
few_none n = record { number = omega arith; sent = omega arith; stored = omega arith }

few_more : (n : ℕ) (step : Stepped) (later : List Stepped) → length (bytes_of step.transmission) ≤ 35138 → length step.cells ≤ 7680 → Few n later → Few (suc n) (step ∷ later)
unfolding bytes_sent_by cells_stored_by
few_more n step later short few rest = record {
  number = omega (arith, rest.number);
  sent = omega (arith, rest.sent, length-append (bytes_of step.transmission) (bytes_sent_by later));
  stored = omega (arith, rest.stored, length-append step.cells (cells_stored_by later));
}

run_few : (room : ℕ) (t : Terminal) (bytes : List ℕ) → Valid t → Few (length bytes) (fitting room (steps_of t bytes))
unfolding steps_of fitting
run_few room t [] valid = few_none 0
run_few room t (byte ∷ later) valid =
    either_line (Few (suc (length later))) _ _ _
    (λ _. few_more (length later) (host_step byte t) _ (step_short byte t valid.size) (step_count byte t valid)
    (run_few (room - length (bytes_of (host_step byte t).transmission)) (host_step byte t).terminal later (step_keeps_valid byte t valid)))
    (λ _. few_none _)

unchanged_fits : (answer : Answer) (t : Terminal) (lent : List ℕ) → CountsFit (unchanged answer t lent)
unfolding unchanged
unchanged_fits answer t lent = record { taken = omega arith; sent = omega arith; stored = omega arith }

steps_fit : (answer : Answer) (t : Terminal) (lent : List ℕ) (n : ℕ) (steps : List Stepped) → n ≤ 65536 → Few n steps → CountsFit (after_steps answer (length steps) t lent steps)
unfolding after_steps
steps_fit answer t lent n steps most few = record {
  taken = omega (arith, few.number);
  sent = omega (arith, few.sent);
  stored = omega (arith, few.stored);
}

pub start_counts_fit : (size : Size) (page : Page) → CountsFit (start_call size page)
start_counts_fit size page = go (start_case size page)
  where
    go : StartCase size page → CountsFit (start_call size page)
    go (refused _ is) = subst CountsFit (sym is) (unchanged_fits _ _ _)
    go (started fits _) =
        let cells = sized size page fits in
        let bounds = size_bounds size cells.listed in
        let most : size.rows * size.columns ≤ 48 * 160 = mul-le-mul bounds.rows_most bounds.columns_most in
        subst CountsFit (sym (Deciding.start_leaves size page fits))
        (record { taken = omega arith; sent = omega arith; stored = omega (arith, cells.characters) })

module _ (t : Terminal) (bytes lent : List ℕ) where
  passed_fits : AllFail (host_refusals t bytes) → CountsFit (host_call t bytes lent)
  unfolding host_call gives
  passed_fits all-fail =
      either_line CountsFit _ _ _ (λ _. unchanged_fits _ t lent)
      (λ _. steps_fit _ t lent (length bytes) _ (host_short t bytes all-fail) (run_few (length lent) t bytes (host_passed t bytes all-fail)))

  pub host_counts_fit : CountsFit (host_call t bytes lent)
  unfolding host_refusals host_lines changes_nothing all_change_nothing ◌and◌
  host_counts_fit = go (tested (host_refusals t bytes) (exceeds_room (length lent) (steps_of t bytes) answers NoRoom) refl)
    where
      go : Tested (host_refusals t bytes) (exceeds_room (length lent) (steps_of t bytes) answers NoRoom) → CountsFit (host_call t bytes lent)
      go (one_holds answer nothing first) = subst CountsFit (sym (Deciding.host_refuses t bytes lent answer nothing first)) (unchanged_fits answer t lent)
      go (last_holds all-fail _) = passed_fits all-fail
      go (none_holds all-fail _) = passed_fits all-fail

pub key_counts_fit : (t : Terminal) (key : ℕ) (lent : List ℕ) → CountsFit (key_call t key lent)
key_counts_fit t key lent = go (key_case t key lent)
  where
    go : KeyCase t key lent → CountsFit (key_call t key lent)
    go (refused answer _ is) = subst CountsFit (sym is) (unchanged_fits answer t lent)
    go (pressed passes fits _) =
        let short = key_short key t passes.valid (key_step key t).transmission refl in
        let few = key_count key t passes.valid in
        subst CountsFit (sym (Deciding.key_done t key lent passes fits))
        (record { taken = omega arith; sent = omega arith; stored = omega arith })
