-- What is proved of start, host and key: their numbers, what they leave, and that a contract allows one result.
use mathlib.Core.Path.{◌≡◌, refl, sym, ap, ◌∙◌, subst}
use mathlib.Core.Bool.{Bool, true, false, not}
use mathlib.Core.List.{List, [], ◌∷◌, append-nil}
use mathlib.Core.Logic.{◌↔◌}
use Prim.Native.Nat.{ℕ}
use native.Mathlib.Omega.{arith}
use borrow.Author.Tests.{lt-ltb, ltb-true, not-true}
use lib.ListN.{length, take, drop, replicate}
use Rattle.words.specs.Choice.{◌or◌}
use Rattle.words.proofs.Choosing.{either_line}
use Rattle.words.specs.Output.{placed}
use Rattle.words.proofs.Output.{placed_before, placed_past}
use Rattle.words.proofs.Elements.{run_length}
use Rattle.page.specs.Page.{Page, cells}
use Rattle.state.specs.declared.Size.{Size}
use Rattle.state.proofs.Lines.{line_1, line_2}
use Rattle.steps.specs.Steps.{Terminal, Stepped, bytes_of, all_cells, Valid}
use Rattle.commands.specs.Commands.{fresh_step}
use Rattle.keys.specs.Keys.{key_step}
use Rattle.steps.proofs.Soundness.{sized}
use Rattle.terminal.specs.declared.Answer.{Answer}
use Rattle.terminal.specs.declared.Reply.{Reply}
use Rattle.terminal.specs.Runs.{steps_of, after, bytes_sent_by, cells_stored_by, count_of, refused_by, protection_by}
use Rattle.terminal.specs.Answers.{number_of, Outcome, given, unchanged, after_steps, changes_nothing, gives}
use Rattle.terminal.specs.Tests.{passes_line2, first_of, start_lines, host_refusals, key_refusals, host_lines, key_lines}
use Rattle.terminal.specs.Calls.{unstarted, start_step, start_call, host_call, key_call}
use Rattle.terminal.specs.Claims.{NumberedBy, Leaves, Did, Started, SameResult}
use Rattle.terminal.specs.Lines.{Line3, Decides, start_table, host_table, key_table}
use Rattle.terminal.proofs.Matching.{ends, next, first_decides_row, decides_one}
use Rattle.terminal.proofs.Exceeding.{line_3}
use Rattle.terminal.proofs.Lines.{line_4, line_5, line_7, line_8, line_9}
use Rattle.terminal.proofs.Cases.{same_answer, HostCase, KeyCase, StartCase, host_case, key_case, start_case}
use Rattle.terminal.proofs.Cases

-- The number of an outcome is its answer's.
number_is : (answer : Answer) (taken : ℕ) (t : Terminal) (output : List ℕ) (steps : List Stepped) → number_of answer ≡ (gives answer taken t output steps).number
unfolding gives after_steps unchanged
number_is answer taken t output steps = either_line (λ (o : Outcome). number_of answer ≡ o.number) (changes_nothing answer) _ _ (λ _. refl) (λ _. refl)

-- A test that is turned round.
turned : {test : Bool} {Holds : Type 0} → (test ≡ false) ↔ Holds → (not test ≡ true) ↔ Holds
turned same = (λ holds. same.0 (not-true _ holds), λ line. ap not (same.1 line))

-- Each call is given n exactly when n's line holds and none before it does; no other number is ever given.
module _ (size : Size) (page : Page) where
  start_decides : Decides (start_table size page) (start_call size page).number
  unfolding start_call start_lines number_of
  start_decides =
      subst (Decides (start_table size page)) (number_is (first_of (start_lines size page)) _ _ _ _)
      (first_decides_row (next _ _ (turned (line_1 size page)) refl ends))

  pub start_exactly : NumberedBy (start_table size page) (start_call size page)
  start_exactly n = (λ is. subst (Decides (start_table size page)) is start_decides, λ decides. decides_one start_decides decides)

module _ (t : Terminal) (bytes output : List ℕ) where
  host_decides : Decides (host_table t bytes (length output) (steps_of t bytes)) (host_call t bytes output).number
  unfolding host_call host_lines host_refusals passes_line2 number_of
  host_decides =
      subst (Decides (host_table t bytes (length output) (steps_of t bytes))) (number_is (first_of (host_lines t bytes output)) _ _ _ _)
      (first_decides_row
      (next _ _ (turned (line_1 t.state.size t.page)) refl
      (next _ _ (turned (line_2 t.state t.page)) refl
      (next _ _ (λ holds. ltb-true _ _ holds, λ line. lt-ltb _ _ line) refl
      (next _ _ (line_3 (length output) (steps_of t bytes)) refl ends)))))

  pub host_exactly : NumberedBy (host_table t bytes (length output) (steps_of t bytes)) (host_call t bytes output)
  host_exactly n = (λ is. subst (Decides (host_table t bytes (length output) (steps_of t bytes))) is host_decides, λ decides. decides_one host_decides decides)

module _ (t : Terminal) (key : ℕ) (output : List ℕ) where
  key_decides : Decides (key_table t key (length output) (key_step key t)) (key_call t key output).number
  unfolding key_call key_lines key_refusals passes_line2 number_of
  key_decides =
      subst (Decides (key_table t key (length output) (key_step key t))) (number_is (first_of (key_lines t key output)) _ _ _ _)
      (first_decides_row
      (next _ _ (turned (line_1 t.state.size t.page)) refl
      (next _ _ (turned (line_2 t.state t.page)) refl
      (next _ _ (line_4 key) refl
      (next _ _ (line_5 key t.state) refl
      (next _ _ (line_7 key t) refl
      (next _ _ (line_8 key t) refl
      (next _ _ (line_9 key t) refl
      (next _ _ (line_3 (length output) (key_step key t ∷ [])) refl ends)))))))))

  pub key_exactly : NumberedBy (key_table t key (length output) (key_step key t)) (key_call t key output)
  key_exactly n = (λ is. subst (Decides (key_table t key (length output) (key_step key t))) is key_decides, λ decides. decides_one key_decides decides)

pub leaves : (answer : Answer) (t : Terminal) (lent : List ℕ) {outcome : Outcome} → outcome ≡ unchanged answer t lent → Leaves t lent outcome
unfolding unchanged
leaves answer t lent is =
    record {
      taken = ap (λ (o : Outcome). o.taken) is;
      sent = ap (λ (o : Outcome). o.sent) is;
      stored = ap (λ (o : Outcome). o.stored) is;
      refused = ap (λ (o : Outcome). o.refused) is;
      protection = ap (λ (o : Outcome). o.protection) is;
      terminal = ap (λ (o : Outcome). o.terminal) is;
      output = ap (λ (o : Outcome). o.output) is;
    }

pub did_so : (answer : Answer) (taken : ℕ) (t : Terminal) (lent : List ℕ) (steps : List Stepped) {outcome : Outcome} → outcome ≡ after_steps answer taken t lent steps → Did taken t lent steps outcome
unfolding after_steps
did_so answer taken t lent steps is =
    record {
      bytes_taken = ap (λ (o : Outcome). o.taken) is;
      sent = ap (λ (o : Outcome). o.sent) is;
      stored = ap (λ (o : Outcome). o.stored) is;
      refused = ap (λ (o : Outcome). o.refused) is;
      protection = ap (λ (o : Outcome). o.protection) is;
      terminal = ap (λ (o : Outcome). o.terminal) is;
      output = ap (λ (o : Outcome). o.output) is;
    }

pub numbered : (answer : Answer) (t : Terminal) (lent : List ℕ) {outcome : Outcome} → outcome ≡ unchanged answer t lent → outcome.number ≡ number_of answer
unfolding unchanged
numbered answer t lent is = ap (λ (o : Outcome). o.number) is

pub did_number : (answer : Answer) (taken : ℕ) (t : Terminal) (lent : List ℕ) (steps : List Stepped) {outcome : Outcome} → outcome ≡ after_steps answer taken t lent steps → outcome.number ≡ number_of answer
unfolding after_steps
did_number answer taken t lent steps is = ap (λ (o : Outcome). o.number) is

-- Start: 1 changes nothing and hands back all zeros.
pub start_refused : (size : Size) (page : Page) → ((start_call size page).number ≡ 0 → ⊥) → Leaves (unstarted page) [] (start_call size page)
unfolding number_of
start_refused size page not_done = go (start_case size page)
  where
    go : StartCase size page → Leaves (unstarted page) [] (start_call size page)
    go (Cases.refused wrong is) = leaves _ _ _ is
    go (Cases.started fits is) = absurd (not_done (did_number _ _ _ _ _ is))

-- Start, 0: a fresh page and state of the size asked for.
pub start_done : (size : Size) (page : Page) → (start_call size page).number ≡ 0 → Started size (start_call size page)
unfolding number_of after bytes_sent_by cells_stored_by count_of refused_by protection_by ◌or◌ start_step fresh_step bytes_of placed
start_done size page is-done = go (start_case size page)
  where
    go : StartCase size page → Started size (start_call size page)
    go (Cases.refused wrong is) = absurd (omega (arith, sym (numbered _ _ _ is) ∙ is-done))
    go (Cases.started fits is) =
        let did = did_so _ _ _ _ _ is in
        let lengths = sized size page fits in
        record {
          taken = did.bytes_taken;
          sent = did.sent;
          stored = did.stored ∙ ap length (append-nil (all_cells page)) ∙ run_length 0 (cells page) ∙ lengths.characters;
          refused = did.refused;
          protection = did.protection;
          state = ap (λ (t : Terminal). t.state) did.terminal;
          characters = ap (λ (t : Terminal). t.page.characters) did.terminal ∙ ap (λ (n : ℕ). replicate n 0x20) lengths.characters;
          marks = ap (λ (t : Terminal). t.page.marks) did.terminal ∙ ap (λ (n : ℕ). replicate n 0) lengths.marks;
          output = did.output;
        }

module _ (t : Terminal) (bytes output : List ℕ) where
  -- Host: 1, 2 and 6 change nothing.
  pub host_refused : ((host_call t bytes output).number ≡ 0 → ⊥) → ((host_call t bytes output).number ≡ 3 → ⊥) → Leaves t output (host_call t bytes output)
  unfolding number_of
  host_refused not_done not_full = go (host_case t bytes output)
    where
      go : HostCase t bytes output → Leaves t output (host_call t bytes output)
      go (Cases.refused answer a b is) = leaves _ _ _ is
      go (Cases.stopped valid line is) = absurd (not_full (did_number _ _ _ _ _ is))
      go (Cases.done valid fits is) = absurd (not_done (did_number _ _ _ _ _ is))

  -- Host, 3: what came before is done, and the command that lacks room is left for the next call.
  pub host_stopped : (host_call t bytes output).number ≡ 3 → (line : Line3 (length output) (steps_of t bytes)) × Did (length line.before) t output line.before (host_call t bytes output)
  unfolding number_of
  host_stopped full = go (host_case t bytes output)
    where
      go : HostCase t bytes output → (line : Line3 (length output) (steps_of t bytes)) × Did (length line.before) t output line.before (host_call t bytes output)
      go (Cases.refused answer a b is) = absurd (b (sym (numbered _ _ _ is) ∙ full))
      go (Cases.stopped valid line is) = (line, did_so _ _ _ _ _ is)
      go (Cases.done valid fits is) = absurd (omega (arith, sym (did_number _ _ _ _ _ is) ∙ full))

  -- Host, 0: all input taken; the steps of all its bytes.
  pub host_done : (host_call t bytes output).number ≡ 0 → Did (length bytes) t output (steps_of t bytes) (host_call t bytes output)
  unfolding number_of
  host_done is-done = go (host_case t bytes output)
    where
      go : HostCase t bytes output → Did (length bytes) t output (steps_of t bytes) (host_call t bytes output)
      go (Cases.refused answer a b is) = absurd (a (sym (numbered _ _ _ is) ∙ is-done))
      go (Cases.stopped valid line is) = absurd (omega (arith, sym (did_number _ _ _ _ _ is) ∙ is-done))
      go (Cases.done valid fits is) = did_so _ _ _ _ _ is

module _ (t : Terminal) (key : ℕ) (output : List ℕ) where
  -- Key: every refusal changes nothing, 3 too.
  pub key_refused : ((key_call t key output).number ≡ 0 → ⊥) → Leaves t output (key_call t key output)
  unfolding number_of
  key_refused not_done = go (key_case t key output)
    where
      go : KeyCase t key output → Leaves t output (key_call t key output)
      go (Cases.refused answer a is) = leaves _ _ _ is
      go (Cases.pressed passes fits is) = absurd (not_done (did_number _ _ _ _ _ is))

  -- Key, 0: its step.
  pub key_done : (key_call t key output).number ≡ 0 → Did 0 t output (key_step key t ∷ []) (key_call t key output)
  key_done is-done = go (key_case t key output)
    where
      go : KeyCase t key output → Did 0 t output (key_step key t ∷ []) (key_call t key output)
      go (Cases.refused answer a is) = absurd (a (sym (numbered _ _ _ is) ∙ is-done))
      go (Cases.pressed passes fits is) = did_so _ _ _ _ _ is

  -- Only a valid terminal is given 0.
  pub key_found_valid : (key_call t key output).number ≡ 0 → Valid t
  key_found_valid is-done = go (key_case t key output)
    where
      go : KeyCase t key output → Valid t
      go (Cases.refused answer a is) = absurd (a (sym (numbered _ _ _ is) ∙ is-done))
      go (Cases.pressed passes fits is) = passes.valid

-- Any two results that a contract allows are equal.
pub one_result : {one other : Reply} {page there : Page} {output lent : List ℕ} {outcome : Outcome} → given one page output ≡ outcome → given other there lent ≡ outcome → SameResult one other page there output lent
one_result {one} {other} a b =
    let same = a ∙ sym b in
    let answers = same_answer one.answer other.answer (ap (λ (o : Outcome). o.number) same) in
    record {
      replies = λ i. record { answer = answers i; state = (same i).terminal.state; taken = (same i).taken; sent = (same i).sent; stored = (same i).stored; refused = (same i).refused; protection = (same i).protection };
      pages = ap (λ (o : Outcome). o.terminal.page) same;
      outputs = ap (λ (o : Outcome). o.output) same;
    }

-- The bytes sent stand at the output's start, and what is past them is unchanged.
pub bytes_sent_lem : {taken : ℕ} {t : Terminal} {lent : List ℕ} {steps : List Stepped} {outcome : Outcome} → Did taken t lent steps outcome → take outcome.sent outcome.output ≡ bytes_sent_by steps
bytes_sent_lem {lent} {steps} did = (λ i. take (did.sent i) (did.output i)) ∙ placed_before (bytes_sent_by steps) lent

pub past_bytes_sent : {taken : ℕ} {t : Terminal} {lent : List ℕ} {steps : List Stepped} {outcome : Outcome} → Did taken t lent steps outcome → drop outcome.sent outcome.output ≡ drop outcome.sent lent
past_bytes_sent {lent} {steps} did = (λ i. drop (did.sent i) (did.output i)) ∙ placed_past (bytes_sent_by steps) lent ∙ (λ i. drop (sym did.sent i) lent)
