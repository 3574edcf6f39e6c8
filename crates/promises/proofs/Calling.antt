-- Calls are steps, however a stream is cut: demand 2, cutting, from demand 1 and Follows alone.
use mathlib.Core.Path.{◌≡◌, refl, sym, ap, ◌∙◌}
use mathlib.Core.Bool.{Bool}
use mathlib.Core.List.{List, [], ◌∷◌, ◌++◌, map, map-append, append_assoc}
use Prim.Native.Nat.{ℕ, ◌+◌}
use native.Mathlib.Omega.{arith}
use lib.ListN.{take, drop, length-append, take-append-drop}
use Rattle.words.specs.Choice.{◌or◌}
use Rattle.steps.specs.Steps.{Terminal, Stepped, Valid}
use Rattle.terminal.specs.Answers.{Outcome, bytes_sent}
use Rattle.terminal.specs.Runs.{after, bytes_sent_by, cells_stored_by, refused_by, protection_by}
use Rattle.terminal.proofs.Running.{or_joined}
use Rattle.promises.specs.Rules.{Rules, Input, byte, step_of, steps, byte_steps, Total, total_of}
use Rattle.promises.specs.Entries.{Entries, Call, outcome_of, outcomes, total, inputs_of, inputs_done, AllDone, done, Read, reads, joined_bytes, read_one, Carries, ended, taken, stopped}
use Rattle.promises.specs.Demands.{Cutting}
use Rattle.promises.specs.Further.{SameHoweverCut, Continuing, CallsAreSteps}
use Rattle.promises.proofs.Laws.{StepLaws, Keeps, DidSteps}
use Rattle.promises.proofs.Doing.{does_steps, all_taken}

-- A call in front of what comes after it.
abbrev in_front : Outcome → Total → Total
in_front outcome rest =
    record {
      terminal = rest.terminal;
      bytes_sent = bytes_sent outcome ++ rest.bytes_sent;
      stored = outcome.stored + rest.stored;
      refused = outcome.refused + rest.refused;
      protection = outcome.protection or rest.protection;
    }

-- Steps, and then further steps.
after-joined : (t : Terminal) (first second : List Stepped) → after t (first ++ second) ≡ after (after t first) second
unfolding after
after-joined t [] second = refl
after-joined t (step ∷ later) second = after-joined step.terminal later second

pub sent_joined : (first second : List Stepped) → bytes_sent_by (first ++ second) ≡ bytes_sent_by first ++ bytes_sent_by second
unfolding bytes_sent_by
sent_joined [] second = refl
sent_joined (step ∷ later) second = rw (append_assoc, sent_joined later second)

stored_joined : (first second : List Stepped) → cells_stored_by (first ++ second) ≡ cells_stored_by first ++ cells_stored_by second
unfolding cells_stored_by
stored_joined [] second = refl
stored_joined (step ∷ later) second = rw (append_assoc, stored_joined later second)

refused-joined : (first second : List Stepped) → refused_by (first ++ second) ≡ refused_by first + refused_by second
unfolding refused_by
refused-joined [] second = omega arith
refused-joined (step ∷ later) second = let further = refused-joined later second in omega (arith, further)

protection_joined : (first second : List Stepped) → protection_by (first ++ second) ≡ (protection_by first or protection_by second)
unfolding protection_by ◌or◌
protection_joined [] second = refl
protection_joined (step ∷ later) second =
    ap (λ (b : Bool). step.protection or b) (protection_joined later second) ∙ or_joined step.protection (protection_by later) (protection_by second)

pub steps-joined : (rules : Rules) (t : Terminal) (first second : List Input) → steps rules t (first ++ second) ≡ steps rules t first ++ steps rules (after t (steps rules t first)) second
unfolding steps after
steps-joined rules t [] second = refl
steps-joined rules t (input ∷ later) second = rw (steps-joined rules (step_of rules input t).terminal later second)

-- A call that did steps, in front of further steps.
total-joined : (t : Terminal) (first second : List Stepped) (outcome : Outcome) → DidSteps t first outcome → in_front outcome (total_of (after t first) second) ≡ total_of t (first ++ second)
total-joined t first second outcome did =
    rw (after-joined t first second, sent_joined first second, stored_joined first second, length-append (cells_stored_by first) (cells_stored_by second), refused-joined first second, protection_joined first second, did.sent, did.stored, did.refused, did.protection)

-- What a call did, in front of what later calls did.
pub inputs_in_front : (entries : Entries) (t : Terminal) (call : Call) (calls : List Call) {outcome : Outcome} → outcome_of entries call t ≡ outcome → inputs_done entries t (call ∷ calls) ≡ inputs_of call outcome ++ inputs_done entries outcome.terminal calls
unfolding inputs_done
inputs_in_front entries t call calls is = λ i. inputs_of call (is i) ++ inputs_done entries (is i).terminal calls

pub first_done : {outcome : Outcome} {later : List Outcome} → AllDone (outcome ∷ later) → outcome.number ≡ 0
first_done (done outcome later number further) = number

later_done : {outcome : Outcome} {later : List Outcome} → AllDone (outcome ∷ later) → AllDone later
later_done (done outcome later number further) = further

-- Steps keep a terminal valid, and its size.
pub steps_keep_valid : (rules : Rules) → StepLaws rules → (t : Terminal) → Valid t → (inputs : List Input) → Valid (after t (steps rules t inputs))
unfolding steps after
steps_keep_valid rules laws t valid [] = valid
steps_keep_valid rules laws t valid (input ∷ later) = steps_keep_valid rules laws (step_of rules input t).terminal (laws.every_step input t valid).valid later

pub steps_keep_size : (rules : Rules) → StepLaws rules → (t : Terminal) → Valid t → (inputs : List Input) → (after t (steps rules t inputs)).state.size ≡ t.state.size
unfolding steps after
steps_keep_size rules laws t valid [] = refl
steps_keep_size rules laws t valid (input ∷ later) =
    let law = laws.every_step input t valid in
    steps_keep_size rules laws (step_of rules input t).terminal law.valid later ∙ law.size

module _ (rules : Rules) (entries : Entries) (kept : Keeps rules entries) where
  pub calls_are_steps_of : CallsAreSteps rules entries
  unfolding outcomes total inputs_done steps after bytes_sent_by cells_stored_by refused_by protection_by
  calls_are_steps_of t [] = refl
  calls_are_steps_of t (call ∷ later) =
      let outcome = outcome_of entries call t in
      let now = steps rules t (inputs_of call outcome) in
      let did : DidSteps t now outcome = does_steps rules entries kept call t in
      let inputs = inputs_done entries outcome.terminal later in
      ap (in_front outcome) (calls_are_steps_of outcome.terminal later)
      ∙ ap (λ (u : Terminal). in_front outcome (total_of u (steps rules u inputs))) did.terminal
      ∙ total-joined t now (steps rules (after t now) inputs) outcome did
      ∙ ap (total_of t) (sym (steps-joined rules t (inputs_of call outcome) inputs))

  -- Reads that carry a stream did its inputs, and are the steps of these.
  carried_inputs : {t : Terminal} {stream : List ℕ} {list : List Read} → Carries entries t stream list → inputs_done entries t (reads list) ≡ map byte stream
  unfolding outcome_of inputs_done inputs_of
  carried_inputs ended = refl
  carried_inputs {t} (taken r {later} zero further) =
      rw (all_taken rules entries kept t r.bytes r.output zero, carried_inputs further, map-append byte r.bytes later)
  carried_inputs {t} (stopped r later three further) =
      let n = (read_one entries t r).taken in
      rw (carried_inputs further, ← map-append byte (take n r.bytes) (drop n r.bytes ++ later), ← append_assoc (take n r.bytes) (drop n r.bytes) later, take-append-drop n r.bytes)

  pub continuing_of : Continuing rules entries
  continuing_of t stream list carries =
      calls_are_steps_of t (reads list) ∙ ap (λ (inputs : List Input). total_of t (steps rules t inputs)) (carried_inputs carries)

  -- Reads that are all given 0 carry their bytes joined.
  all_done_carry : (t : Terminal) (list : List Read) → AllDone (outcomes entries t (reads list)) → Carries entries t (joined_bytes list) list
  unfolding outcomes outcome_of joined_bytes
  all_done_carry t [] all_done = ended
  all_done_carry t (r ∷ later) all_done = taken r (first_done all_done) (all_done_carry (entries.host t r.bytes r.output).terminal later (later_done all_done))

  pub cutting_of : Cutting rules entries
  cutting_of t cut all_done = continuing_of t (joined_bytes cut) cut (all_done_carry t cut all_done)

  pub same_however_cut_of : SameHoweverCut entries
  same_however_cut_of t one other same one-done other-done =
      cutting_of t one one-done ∙ ap (λ (stream : List ℕ). total_of t (byte_steps rules t stream)) same ∙ sym (cutting_of t other other-done)
