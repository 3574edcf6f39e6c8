-- Every call is one of a few cases: refused with nothing changed, stopped where room is lacking, or done.
use mathlib.Core.Path.{◌≡◌, refl, sym, ap, ◌∙◌}
use mathlib.Core.Bool.{true, false}
use mathlib.Core.List.{List, [], ◌∷◌}
use Prim.Native.Nat.{ℕ, ◌-◌, ◌≤◌}
use native.Mathlib.Omega.{arith}
use borrow.Author.Tests.{ltb-false, le-ltb}
use lib.Dec.{eqb}
use lib.ListN.{length, length-append}
use Rattle.words.specs.Choice.{If◌then◌else◌, ◌and◌}
use Rattle.words.proofs.Choosing.{not_both, either_way, less_or_not}
use Rattle.page.specs.Page.{Page}
use Rattle.state.specs.declared.Size.{Size}
use Rattle.state.specs.Tests.{size_fits}
use Rattle.steps.specs.Steps.{Terminal, Stepped, bytes_of, Valid}
use Rattle.keys.specs.Keys.{key_step}
use Rattle.terminal.specs.declared.Answer.{Answer}
use Rattle.terminal.specs.declared.Answer.TheVariants.{Done, WrongSize, WrongState, NoRoom, UnknownKey, Locked, TooLong, NoCell, NotTaken, RequiredBlank}
use Rattle.terminal.specs.Runs.{steps_of, fitting, bytes_sent_by}
use Rattle.terminal.specs.Answers.{number_of, unchanged, after_steps, changes_nothing}
use Rattle.terminal.specs.Tests.{◌answers◌, exceeds_room, host_refusals, key_refusals, Passes, host_lines, key_lines}
use Rattle.terminal.specs.Calls.{unstarted, start_step, start_call, host_call, key_call}
use Rattle.terminal.specs.Lines.{Line3}
use Rattle.terminal.proofs.Deciding
use Rattle.terminal.proofs.Deciding.{fits_on, stops_there, host_passed, key_passed}
use Rattle.terminal.proofs.Firsts.{none, this, past, through, all_change_nothing, Tested, one_holds, last_holds, none_holds, tested}
use Rattle.terminal.proofs.Running.{steps_count}
use Rattle.terminal.proofs.Exceeding.{line_3, line_3_done}

-- No two answers have the same number.
answer_of : ℕ → Answer
answer_of number =
    If eqb number 0 then Done
    else If eqb number 1 then WrongSize
    else If eqb number 2 then WrongState
    else If eqb number 3 then NoRoom
    else If eqb number 4 then UnknownKey
    else If eqb number 5 then Locked
    else If eqb number 6 then TooLong
    else If eqb number 7 then NoCell
    else If eqb number 8 then NotTaken
    else RequiredBlank

numbers_differ : (answer : Answer) → answer_of (number_of answer) ≡ answer
unfolding answer_of number_of If◌then◌else◌
numbers_differ Done = refl
numbers_differ WrongSize = refl
numbers_differ WrongState = refl
numbers_differ NoRoom = refl
numbers_differ UnknownKey = refl
numbers_differ Locked = refl
numbers_differ TooLong = refl
numbers_differ NoCell = refl
numbers_differ NotTaken = refl
numbers_differ RequiredBlank = refl

pub same_answer : (one other : Answer) → number_of one ≡ number_of other → one ≡ other
same_answer one other is = sym (numbers_differ one) ∙ ap answer_of is ∙ numbers_differ other

no_steps : (answer other : Answer) → changes_nothing answer ≡ true → changes_nothing other ≡ false → number_of answer ≡ number_of other → ⊥
no_steps answer other nothing some is = not_both nothing (ap changes_nothing (same_answer answer other is) ∙ some)

-- Where no step is left out, all are done, and their transmissions fit.
all_fit : (room : ℕ) (steps : List Stepped) → length steps ≤ length (fitting room steps) → (fitting room steps ≡ steps) × (length (bytes_sent_by steps) ≤ room)
unfolding fitting bytes_sent_by
all_fit room [] all = (refl, omega arith)
all_fit room (step ∷ later) all =
    less_or_not room (length (bytes_of step.transmission))
    (λ exceeds. let none = ap (length {A = Stepped}) (stops_there room step later exceeds) in absurd (omega (arith, none)))
    (λ fits.
    let here = fits_on room step later fits in
    let counted = ap (length {A = Stepped}) here in
    let rest = all_fit (room - length (bytes_of step.transmission)) later (omega (arith, counted)) in
    let bytes = length-append (bytes_of step.transmission) (bytes_sent_by later) in
    (here ∙ ap (λ (steps : List Stepped). step ∷ steps) rest.0, omega (arith, bytes, rest.1)))

-- And where their transmissions fit, no step is left out.
none_left_out : (room : ℕ) (steps : List Stepped) → length (bytes_sent_by steps) ≤ room → fitting room steps ≡ steps
unfolding fitting bytes_sent_by
none_left_out room [] fit = refl
none_left_out room (step ∷ later) fit =
    let bytes = length-append (bytes_of step.transmission) (bytes_sent_by later) in
    fits_on room step later (omega (arith, bytes))
    ∙ ap (λ (steps : List Stepped). step ∷ steps) (none_left_out (room - length (bytes_of step.transmission)) later (omega (arith, bytes)))

module _ (t : Terminal) (bytes output : List ℕ) where
  pub data HostCase : Type 0 where
    refused : (answer : Answer) → (number_of answer ≡ 0 → ⊥) → (number_of answer ≡ 3 → ⊥) → host_call t bytes output ≡ unchanged answer t output → HostCase
    stopped : Valid t → (line : Line3 (length output) (steps_of t bytes)) → host_call t bytes output ≡ after_steps NoRoom (length line.before) t output line.before → HostCase
    done : Valid t → length (bytes_sent_by (steps_of t bytes)) ≤ length output → host_call t bytes output ≡ after_steps Done (length bytes) t output (steps_of t bytes) → HostCase

  -- Where nothing stands in its way, all is done.
  pub host_did : Valid t → length bytes ≤ 65536 → length (bytes_sent_by (steps_of t bytes)) ≤ length output → host_call t bytes output ≡ after_steps Done (length bytes) t output (steps_of t bytes)
  unfolding exceeds_room
  host_did valid short fit =
      let all = none_left_out (length output) (steps_of t bytes) fit in
      let fits : length (steps_of t bytes) ≤ length (fitting (length output) (steps_of t bytes)) = omega (arith, ap (length {A = Stepped}) all) in
      Deciding.host_done t bytes output valid short (le-ltb _ _ fits)
      ∙ ap (λ (steps : List Stepped). after_steps Done (length steps) t output steps) all
      ∙ ap (λ (n : ℕ). after_steps Done n t output (steps_of t bytes)) (steps_count t bytes)

  pub host_case : HostCase
  unfolding host_refusals host_lines exceeds_room number_of changes_nothing all_change_nothing ◌and◌
  host_case = go (tested (host_refusals t bytes) (exceeds_room (length output) (steps_of t bytes) answers NoRoom) refl)
    where
      go : Tested (host_refusals t bytes) (exceeds_room (length output) (steps_of t bytes) answers NoRoom) → HostCase
      go (one_holds answer nothing first) =
          refused answer (no_steps answer Done nothing refl) (no_steps answer NoRoom nothing refl) (Deciding.host_refuses t bytes output answer nothing first)
      go (last_holds all-fail exceeds) =
          let line = (line_3 (length output) (steps_of t bytes)).0 exceeds in
          stopped (host_passed t bytes all-fail) line
          (Deciding.host_does t bytes output NoRoom refl (through all-fail (this exceeds))
          ∙ ap (λ (steps : List Stepped). after_steps NoRoom (length steps) t output steps) (line_3_done (length output) (steps_of t bytes) line))
      go (none_holds all-fail fits) =
          let all = all_fit (length output) (steps_of t bytes) (ltb-false _ _ fits) in
          done (host_passed t bytes all-fail) all.1
          (Deciding.host_does t bytes output Done refl (through all-fail (past fits none))
          ∙ ap (λ (steps : List Stepped). after_steps Done (length steps) t output steps) all.0
          ∙ ap (λ (n : ℕ). after_steps Done n t output (steps_of t bytes)) (steps_count t bytes))

module _ (t : Terminal) (key : ℕ) (output : List ℕ) where
  pub data KeyCase : Type 0 where
    refused : (answer : Answer) → (number_of answer ≡ 0 → ⊥) → key_call t key output ≡ unchanged answer t output → KeyCase
    pressed : Passes t key → length (bytes_of (key_step key t).transmission) ≤ length output → key_call t key output ≡ after_steps Done 0 t output (key_step key t ∷ []) → KeyCase

  let_pass : Passes t key → KeyCase
  unfolding number_of
  let_pass passes =
      less_or_not (length output) (length (bytes_of (key_step key t).transmission))
      (λ exceeds. refused NoRoom (λ e. omega arith) (Deciding.key_no_room t key output passes exceeds))
      (λ fits. pressed passes fits (Deciding.key_did t key output passes fits))

  pub key_case : KeyCase
  unfolding key_refusals key_lines number_of changes_nothing all_change_nothing ◌and◌
  key_case = go (tested (key_refusals t key) (exceeds_room (length output) (key_step key t ∷ []) answers NoRoom) refl)
    where
      go : Tested (key_refusals t key) (exceeds_room (length output) (key_step key t ∷ []) answers NoRoom) → KeyCase
      go (one_holds answer nothing first) = refused answer (no_steps answer Done nothing refl) (Deciding.key_refuses t key output answer nothing first)
      go (last_holds all-fail exceeds) = let_pass (key_passed t key all-fail)
      go (none_holds all-fail fits) = let_pass (key_passed t key all-fail)

module _ (size : Size) (page : Page) where
  pub data StartCase : Type 0 where
    refused : size_fits size page ≡ false → start_call size page ≡ unchanged WrongSize (unstarted page) [] → StartCase
    started : size_fits size page ≡ true → start_call size page ≡ after_steps Done 0 (unstarted page) [] (start_step size page ∷ []) → StartCase

  pub start_case : StartCase
  start_case =
      either_way (size_fits size page)
      (λ fits. started fits (Deciding.start_done size page fits))
      (λ wrong. refused wrong (Deciding.start_wrong_size size page wrong))
