-- Which line decides a call, and what the call then gives.
use mathlib.Core.Path.{◌≡◌, refl, sym, ap, ◌∙◌}
use mathlib.Core.Bool.{Bool, true, false, not}
use mathlib.Core.List.{List, [], ◌∷◌, append-nil}
use Prim.Native.Nat.{ℕ, ◌-◌, ◌<◌, ◌≤◌}
use native.Mathlib.Nat.{add-zero}
use borrow.Author.Tests.{le-ltb, le-leb, lt-leb, ltb-false, not-false}
use lib.ListN.{length}
use Rattle.words.specs.Choice.{◌or◌}
use Rattle.words.proofs.Choosing.{then_case, else_case, both, both_hold}
use Rattle.words.specs.Output.{placed}
use Rattle.words.proofs.Output.{wrote_none}
use Rattle.page.specs.Page.{Page, cells, erased}
use Rattle.state.specs.declared.Size.{Size}
use Rattle.state.specs.State.{fresh_state}
use Rattle.state.specs.Tests.{size_fits}
use Rattle.steps.specs.Steps.{Terminal, Stepped, Valid, bytes_of, all_cells}
use Rattle.keys.specs.Keys.{key_step}
use Rattle.commands.specs.Commands.{fresh_step}
use Rattle.steps.proofs.Soundness.{sized}
use Rattle.commands.proofs.Laws.{all_cells_count, erased_is_fresh}
use Rattle.terminal.specs.declared.Answer.{Answer}
use Rattle.terminal.specs.declared.Answer.TheVariants.{Done, WrongSize, NoRoom}
use Rattle.terminal.specs.Runs.{steps_of, fitting, after, bytes_sent_by, cells_stored_by, count_of, refused_by, protection_by}
use Rattle.terminal.specs.Answers.{number_of, unchanged, after_steps, changes_nothing, gives}
use Rattle.terminal.specs.Tests.{exceeds_room, passes_line2, start_lines, host_refusals, key_refusals, Passes, host_lines, key_lines}
use Rattle.terminal.specs.Calls.{unstarted, start_step, start_call, host_call, key_call}
use Rattle.terminal.proofs.Firsts.{First, none, this, past, decided, AllFail, no_line, fails, through}

-- What the tests of the first two lines tell.
pub is_valid : (t : Terminal) → size_fits t.state.size t.page ≡ true → passes_line2 t ≡ true → Valid t
unfolding passes_line2
is_valid t size valid = record { size = size; state = (both valid).0; page = (both valid).1 }

pub valid_holds : (t : Terminal) → Valid t → passes_line2 t ≡ true
unfolding passes_line2
valid_holds t valid = both_hold _ _ valid.state valid.page

-- A test, or none.
pub or_false : (test : Bool) → (test or false) ≡ test
unfolding ◌or◌
or_false true = refl
or_false false = refl

-- A step that fits, and one that doesn't.
pub fits_on : (room : ℕ) (step : Stepped) (later : List Stepped) → length (bytes_of step.transmission) ≤ room → fitting room (step ∷ later) ≡ step ∷ fitting (room - length (bytes_of step.transmission)) later
unfolding fitting
fits_on room step later fits = then_case _ _ _ (le-leb _ _ fits)

pub stops_there : (room : ℕ) (step : Stepped) (later : List Stepped) → room < length (bytes_of step.transmission) → fitting room (step ∷ later) ≡ []
unfolding fitting
stops_there room step later exceeds = else_case _ _ _ (lt-leb _ _ exceeds)

-- An answer that changes nothing, and one that did steps.
module _ (answer : Answer) (taken : ℕ) (t : Terminal) (output : List ℕ) (steps : List Stepped) where
  gives_nothing : changes_nothing answer ≡ true → gives answer taken t output steps ≡ unchanged answer t output
  unfolding gives
  gives_nothing nothing = then_case _ _ _ nothing

  gives-steps : changes_nothing answer ≡ false → gives answer taken t output steps ≡ after_steps answer taken t output steps
  unfolding gives
  gives-steps some = else_case _ _ _ some

-- What lets a call pass all lines but 3: every test before it fails.
module _ (t : Terminal) (bytes : List ℕ) where
  host_passes : Valid t → length bytes ≤ 65536 → AllFail (host_refusals t bytes)
  unfolding host_refusals
  host_passes valid short = fails (ap not valid.size) (fails (ap not (valid_holds t valid)) (fails (le-ltb _ _ short) no_line))

  pub host_passed : AllFail (host_refusals t bytes) → Valid t
  unfolding host_refusals
  host_passed (fails size (fails valid _)) = is_valid t (not-false _ size) (not-false _ valid)

  pub host_short : AllFail (host_refusals t bytes) → length bytes ≤ 65536
  unfolding host_refusals
  host_short (fails _ (fails _ (fails short _))) = ltb-false _ _ short

module _ (t : Terminal) (key : ℕ) where
  key_passes : Passes t key → AllFail (key_refusals t key)
  unfolding key_refusals
  key_passes passes =
      fails (ap not passes.valid.size)
      (fails (ap not (valid_holds t passes.valid))
      (fails (ap not passes.known)
      (fails passes.not_locked_out
      (fails passes.has_cell
      (fails passes.taken
      (fails passes.not_held_back no_line))))))

  pub key_passed : AllFail (key_refusals t key) → Passes t key
  unfolding key_refusals
  key_passed (fails size (fails valid (fails known (fails free (fails has (fails taken (fails released no_line))))))) =
      record {
        valid = is_valid t (not-false _ size) (not-false _ valid);
        known = not-false _ known;
        not_locked_out = free;
        has_cell = has;
        taken = taken;
        not_held_back = released;
      }

module _ (t : Terminal) (bytes output : List ℕ) where
  abbrev done : List Stepped
  done = fitting (length output) (steps_of t bytes)

  -- The line that decides gives the number; it changes nothing, or the steps done are those that fit.
  host_gives : (answer : Answer) → First (host_lines t bytes output) answer → host_call t bytes output ≡ gives answer (length done) t output done
  unfolding host_call
  host_gives answer first = ap (λ (a : Answer). gives a (length done) t output done) (decided first)

  pub host_refuses : (answer : Answer) → changes_nothing answer ≡ true → First (host_lines t bytes output) answer → host_call t bytes output ≡ unchanged answer t output
  host_refuses answer nothing first = host_gives answer first ∙ gives_nothing answer _ t output _ nothing

  pub host_does : (answer : Answer) → changes_nothing answer ≡ false → First (host_lines t bytes output) answer → host_call t bytes output ≡ after_steps answer (length done) t output done
  host_does answer some first = host_gives answer first ∙ gives-steps answer _ t output _ some

  pub host_no_room : Valid t → length bytes ≤ 65536 → exceeds_room (length output) (steps_of t bytes) ≡ true → host_call t bytes output ≡ after_steps NoRoom (length done) t output done
  unfolding host_lines changes_nothing
  host_no_room valid short exceeds = host_does NoRoom refl (through (host_passes t bytes valid short) (this exceeds))

  pub host_done : Valid t → length bytes ≤ 65536 → exceeds_room (length output) (steps_of t bytes) ≡ false → host_call t bytes output ≡ after_steps Done (length done) t output done
  unfolding host_lines changes_nothing
  host_done valid short fit = host_does Done refl (through (host_passes t bytes valid short) (past fit none))

module _ (t : Terminal) (key : ℕ) (output : List ℕ) where
  abbrev pressed : List Stepped
  pressed = fitting (length output) (key_step key t ∷ [])

  key_gives : (answer : Answer) → First (key_lines t key output) answer → key_call t key output ≡ gives answer 0 t output pressed
  unfolding key_call
  key_gives answer first = ap (λ (a : Answer). gives a 0 t output pressed) (decided first)

  pub key_refuses : (answer : Answer) → changes_nothing answer ≡ true → First (key_lines t key output) answer → key_call t key output ≡ unchanged answer t output
  key_refuses answer nothing first = key_gives answer first ∙ gives_nothing answer _ t output _ nothing

  -- Line 3: a key's step is done whole or not at all.
  pub key_no_room : Passes t key → length output < length (bytes_of (key_step key t).transmission) → key_call t key output ≡ unchanged NoRoom t output
  unfolding key_lines changes_nothing after_steps unchanged after bytes_sent_by cells_stored_by refused_by protection_by exceeds_room
  key_no_room passes exceeds =
      let left_out = stops_there (length output) (key_step key t) [] exceeds in
      key_gives NoRoom (through (key_passes t key passes) (this (rw left_out)))
      ∙ gives-steps NoRoom 0 t output _ refl
      ∙ ap (after_steps NoRoom 0 t output) left_out
      ∙ (λ i. record { number = number_of NoRoom; taken = 0; sent = 0; stored = 0; refused = 0; protection = false; terminal = t; output = sym (wrote_none 0 output).left i })

  pub key_did : Passes t key → length (bytes_of (key_step key t).transmission) ≤ length output → key_call t key output ≡ after_steps Done 0 t output (key_step key t ∷ [])
  unfolding key_lines changes_nothing exceeds_room fitting
  key_did passes fits =
      let all = fits_on (length output) (key_step key t) [] fits in
      key_gives Done (through (key_passes t key passes) (past (rw all) none)) ∙ gives-steps Done 0 t output _ refl ∙ ap (after_steps Done 0 t output) all

  pub key_done : Passes t key → length (bytes_of (key_step key t).transmission) ≤ length output → key_call t key output ≡ record { number = number_of Done; taken = 0; sent = length (bytes_of (key_step key t).transmission); stored = length (key_step key t).cells; refused = count_of (key_step key t).was_refused; protection = (key_step key t).protection; terminal = (key_step key t).terminal; output = placed 0 (bytes_of (key_step key t).transmission) output }
  unfolding after_steps after bytes_sent_by cells_stored_by refused_by protection_by
  key_done passes fits =
      key_did passes fits
      ∙ (λ i. record {
        number = number_of Done;
        taken = 0;
        sent = length (append-nil (bytes_of (key_step key t).transmission) i);
        stored = length (append-nil (key_step key t).cells i);
        refused = add-zero (count_of (key_step key t).was_refused) i;
        protection = or_false (key_step key t).protection i;
        terminal = (key_step key t).terminal;
        output = placed 0 (append-nil (bytes_of (key_step key t).transmission) i) output;
      })

module _ (size : Size) (page : Page) where
  start_gives : (answer : Answer) → First (start_lines size page) answer → start_call size page ≡ gives answer 0 (unstarted page) [] (start_step size page ∷ [])
  unfolding start_call
  start_gives answer first = ap (λ (a : Answer). gives a 0 (unstarted page) [] (start_step size page ∷ [])) (decided first)

  pub start_wrong_size : size_fits size page ≡ false → start_call size page ≡ unchanged WrongSize (unstarted page) []
  unfolding start_lines changes_nothing
  start_wrong_size wrong = start_gives WrongSize (this (ap not wrong)) ∙ gives_nothing WrongSize 0 (unstarted page) [] _ refl

  pub start_done : size_fits size page ≡ true → start_call size page ≡ after_steps Done 0 (unstarted page) [] (start_step size page ∷ [])
  unfolding start_lines changes_nothing
  start_done fits = start_gives Done (past (ap not fits) none) ∙ gives-steps Done 0 (unstarted page) [] _ refl

  -- A fresh page is one erased whole.
  pub start_leaves : size_fits size page ≡ true → start_call size page ≡ record { number = number_of Done; taken = 0; sent = 0; stored = cells page; refused = 0; protection = true; terminal = record { state = fresh_state size; page = erased true 0 (cells page) page }; output = [] }
  unfolding after_steps after bytes_sent_by cells_stored_by count_of refused_by protection_by ◌or◌ start_step fresh_step bytes_of placed
  start_leaves fits =
      let lengths = sized size page fits in
      start_done fits
      ∙ (λ i. record {
        number = number_of Done;
        taken = 0;
        sent = 0;
        stored = (ap (length {A = ℕ}) (append-nil (all_cells page)) ∙ all_cells_count page) i;
        refused = 0;
        protection = true;
        terminal = record { state = fresh_state size; page = sym (erased_is_fresh page (lengths.marks ∙ sym lengths.characters)) i };
        output = [];
      })
