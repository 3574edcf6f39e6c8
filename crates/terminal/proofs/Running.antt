-- A host call on its way: the steps done so far, and what they leave to do.
use mathlib.Core.Path.{◌≡◌, refl, sym, ap, ◌∙◌, subst}
use mathlib.Core.Bool.{Bool, true, false, ◌||◌}
use mathlib.Core.List.{List, [], ◌∷◌, ◌++◌, append_assoc, append-nil}
use Prim.Native.Nat.{ℕ, ◌+◌, ◌-◌, ◌*◌, ◌<◌, ◌≤◌}
use native.Mathlib.Numerals.{add-one}
use native.Mathlib.Omega.{arith}
use borrow.Author.Tests.{leb-true, leb-false, lt-ltb, le-ltb}
use lib.Dec.{leb}
use lib.ListN.{length, drop, get_or, length-append, drop_of_length-le}
use lib.Seq.{drop-cons}
use Rattle.std.specs.Prelude.{Result, Ok, Err}
use Rattle.std.specs.Int.{from_bool}
use Rattle.words.specs.Choice.{◌or◌}
use Rattle.words.specs.Output.{placed, Wrote}
use Rattle.words.proofs.Choosing.{true_is_not_false, either_way}
use Rattle.words.proofs.Output.{placed-length, wrote_none, wrote_then}
use Rattle.output.specs.declared.NoRoom.{NoRoom}
use Rattle.page.specs.Page.{Page}
use Rattle.state.specs.declared.State.{State}
use Rattle.steps.specs.declared.Step.{Step}
use Rattle.steps.specs.Steps.{Terminal, Stepped, bytes_of, Valid}
use Rattle.steps.specs.Told.{Written, told, told_or, written}
use Rattle.commands.specs.Host.{host_step}
use Rattle.steps.proofs.Naming.{named_count}
use Rattle.steps.proofs.Measuring.{measured}
use Rattle.steps.proofs.Writing.{no_room, with_room}
use Rattle.commands.proofs.Theorems.{step_keeps_valid, step_names_once}
use Rattle.terminal.specs.declared.Answer.{Answer}
use Rattle.terminal.specs.declared.Answer.TheVariants.{Done}
use Rattle.terminal.specs.declared.Answer.TheVariants as answer
use Rattle.terminal.specs.Runs.{steps_of, fitting, after, bytes_sent_by, cells_stored_by, count_of, refused_by, protection_by}
use Rattle.terminal.specs.Answers.{number_of, after_steps}
use Rattle.terminal.specs.Tests.{exceeds_room}
use Rattle.terminal.specs.Calls.{host_call}
use Rattle.terminal.proofs.Deciding.{or_false, fits_on, stops_there, host_no_room, host_done}

-- What steps leave, send and name, one step more.
pub after_more : (t : Terminal) (done : List Stepped) (step : Stepped) → after t (done ++ (step ∷ [])) ≡ step.terminal
unfolding after
after_more t [] step = refl
after_more t (first ∷ later) step = after_more first.terminal later step

pub sent_more : (done : List Stepped) (step : Stepped) → bytes_sent_by (done ++ (step ∷ [])) ≡ bytes_sent_by done ++ bytes_of step.transmission
unfolding bytes_sent_by
sent_more [] step = append-nil _
sent_more (first ∷ later) step = ap (λ (bytes : List ℕ). bytes_of first.transmission ++ bytes) (sent_more later step) ∙ sym (append_assoc (bytes_of first.transmission) (bytes_sent_by later) (bytes_of step.transmission))

pub stored_more : (done : List Stepped) (step : Stepped) → cells_stored_by (done ++ (step ∷ [])) ≡ cells_stored_by done ++ step.cells
unfolding cells_stored_by
stored_more [] step = append-nil _
stored_more (first ∷ later) step = ap (λ (cells : List ℕ). first.cells ++ cells) (stored_more later step) ∙ sym (append_assoc first.cells (cells_stored_by later) step.cells)

pub or_joined : (a b c : Bool) → (a or (b or c)) ≡ ((a or b) or c)
unfolding ◌or◌
or_joined true b c = refl
or_joined false b c = refl

refused_more : (done : List Stepped) (step : Stepped) → refused_by (done ++ (step ∷ [])) ≡ refused_by done + count_of step.was_refused
unfolding refused_by
refused_more [] step = omega arith
refused_more (first ∷ later) step = let further = refused_more later step in omega (arith, further)

protection_more : (done : List Stepped) (step : Stepped) → protection_by (done ++ (step ∷ [])) ≡ (protection_by done or step.protection)
unfolding protection_by ◌or◌
protection_more [] step = or_false step.protection
protection_more (first ∷ later) step = ap (λ (b : Bool). first.protection or b) (protection_more later step) ∙ or_joined first.protection (protection_by later) step.protection

-- The code counts by `usize::from`.
pub counted_one : (refused : Bool) → from_bool refused ≡ count_of refused
unfolding count_of
counted_one true = refl
counted_one false = refl

-- And joins by `|`.
pub joined : (a b : Bool) → (a || b) ≡ (a or b)
unfolding ◌or◌
joined true b = refl
joined false b = refl

one_at_most : (refused : Bool) → count_of refused ≤ 1
unfolding count_of
one_at_most true = omega arith
one_at_most false = omega arith

-- Each byte has its step.
pub steps_count : (t : Terminal) (bytes : List ℕ) → length (steps_of t bytes) ≡ length bytes
unfolding steps_of
steps_count t [] = refl
steps_count t (byte ∷ later) = let further = steps_count (host_step byte t).terminal later in omega (arith, further)

next_step : (t : Terminal) (bytes : List ℕ) (i : ℕ) → i < length bytes → steps_of t (drop i bytes) ≡ host_step (get_or bytes i 0) t ∷ steps_of (host_step (get_or bytes i 0) t).terminal (drop (i + 1) bytes)
unfolding steps_of
next_step t bytes i here = rw (add-one i, drop-cons bytes i 0 here)

-- A page has so many cells, and a step names each once at most.
pub step_count : (byte : ℕ) (t : Terminal) → Valid t → length (host_step byte t).cells ≤ 7680
step_count byte t valid =
    let known = measured valid in
    let few = named_count (step_names_once byte t valid) in
    let most = known.most in
    omega arith

-- What the code tells of a step that was done, and of one whose transmission does not fit.
pub record WasDone (at : ℕ) (output : List ℕ) (stepped : Stepped) (step : Step) (page : Page) (written-to : List ℕ) : Type 0 where
  pub fits : length (bytes_of stepped.transmission) ≤ length output - at
  pub terminal : record { state = step.state; page = page } ≡ stepped.terminal
  pub stored : step.stored ≡ length stepped.cells
  pub refused : step.refused ≡ stepped.was_refused
  pub protection : step.protection ≡ stepped.protection
  pub sent : step.sent ≡ length (bytes_of stepped.transmission)
  pub writes : written-to ≡ placed at (bytes_of stepped.transmission) output

pub record Exceeded (at : ℕ) (output : List ℕ) (before : Terminal) (stepped : Stepped) (page : Page) (written-to : List ℕ) : Type 0 where
  pub exceeds : length output - at < length (bytes_of stepped.transmission)
  pub same_page : page ≡ before.page
  pub same_output : written-to ≡ output

module _ (at : ℕ) (output : List ℕ) (before : Terminal) (stepped : Stepped) (page : Page) (written-to : List ℕ) where
  pub was_done : (step : Step) → record { told = told step page; output = written-to } ≡ written at output before stepped → WasDone at output stepped step page written-to
  was_done step is =
      either_way (leb (length (bytes_of stepped.transmission)) (length output - at))
      (λ fits.
      let did = is ∙ with_room at output before stepped (leb-true _ _ fits) in
      record {
        fits = leb-true _ _ fits;
        terminal = ap (λ (w : Written). w.told.terminal) did;
        stored = ap (λ (w : Written). w.told.stored) did;
        refused = ap (λ (w : Written). w.told.was_refused) did;
        protection = ap (λ (w : Written). w.told.protection) did;
        sent = ap (λ (w : Written). w.told.sent) did;
        writes = ap (λ (w : Written). w.output) did;
      })
      (λ exceeds. absurd (true_is_not_false (sym (ap (λ (w : Written). w.told.exceeds) (is ∙ no_room at output before stepped (leb-false _ _ exceeds))))))

  pub exceeded : (result : Result Step NoRoom) (state : State) → record { told = told_or result state page; output = written-to } ≡ written at output before stepped → ((step : Step) → result ≡ Ok step → ⊥) → Exceeded at output before stepped page written-to
  exceeded (Ok step) state is not-done = absurd (not-done step refl)
  exceeded (Err no-room) state is not-done =
      either_way (leb (length (bytes_of stepped.transmission)) (length output - at))
      (λ fits. absurd (true_is_not_false (ap (λ (w : Written). w.told.exceeds) (is ∙ with_room at output before stepped (leb-true _ _ fits)))))
      (λ exceeds.
      let did = is ∙ no_room at output before stepped (leb-false _ _ exceeds) in
      record {
        exceeds = leb-false _ _ exceeds;
        same_page = ap (λ (w : Written). w.told.terminal.page) did;
        same_output = ap (λ (w : Written). w.output) did;
      })

-- So far: the steps done, where they led, what they sent and stored; the rest of the call goes on from here.
pub record Going (start : Terminal) (bytes before : List ℕ) (here : Terminal) (taken sent stored refused : ℕ) (protection : Bool) (output : List ℕ) : Type 0 where
  pub done : List Stepped
  pub steps : fitting (length before) (steps_of start bytes) ≡ done ++ fitting (length before - sent) (steps_of here (drop taken bytes))
  pub as_many : length done ≡ taken
  pub comes : after start done ≡ here
  pub wrote : Wrote 0 (bytes_sent_by done) before sent output
  pub counted : length (cells_stored_by done) ≡ stored
  pub refusals : refused_by done ≡ refused
  pub changes : protection_by done ≡ protection
  pub valid : Valid here
  pub inside : taken ≤ length bytes
  pub room : sent ≤ length before
  pub as_long : length output ≡ length before
  pub few : stored ≤ taken * 7680
  pub few_refused : refused ≤ taken

pub sets_out : (start : Terminal) (bytes before : List ℕ) → Valid start → Going start bytes before start 0 0 0 0 false before
unfolding after bytes_sent_by cells_stored_by refused_by protection_by
sets_out start bytes before valid =
    let all : length before - 0 ≡ length before = omega arith in
    record {
      done = [];
      steps = rw all;
      as_many = refl;
      comes = refl;
      wrote = wrote_none 0 before;
      counted = refl;
      refusals = refl;
      changes = refl;
      valid = valid;
      inside = omega arith;
      room = omega arith;
      as_long = refl;
      few = omega arith;
      few_refused = omega arith;
    }

-- One step more.
module _ {start : Terminal} {bytes before : List ℕ} {here : Terminal} {taken sent stored refused : ℕ} {protection : Bool} {output : List ℕ} (going : Going start bytes before here taken sent stored refused protection output) where
  abbrev onward : Stepped
  onward = host_step (get_or bytes taken 0) here

  module _ (more : taken < length bytes) where
    goes_one_on : length (bytes_of onward.transmission) ≤ length output - sent → Going start bytes before onward.terminal (taken + 1) (sent + length (bytes_of onward.transmission)) (stored + length onward.cells) (refused + count_of onward.was_refused) (protection or onward.protection) (placed sent (bytes_of onward.transmission) output)
    goes_one_on fits =
        let n : ℕ = length (bytes_of onward.transmission) in
        let few = step_count (get_or bytes taken 0) here going.valid in
        let room : length (bytes_of onward.transmission) ≤ length before - sent = omega (arith, going.as_long) in
        let left : length before - sent - length (bytes_of onward.transmission) ≡ length before - (sent + length (bytes_of onward.transmission)) = omega arith in
        let written = wrote_then (omega arith) going.wrote (record { next_is = refl; left = refl }) in
        record {
          done = going.done ++ (onward ∷ []);
          steps =
              going.steps
              ∙ ap (λ (steps : List Stepped). going.done ++ fitting (length before - sent) steps) (next_step here bytes taken more)
              ∙ ap (λ (steps : List Stepped). going.done ++ steps) (fits_on (length before - sent) onward (steps_of onward.terminal (drop (taken + 1) bytes)) room)
              ∙ ap (λ (r : ℕ). going.done ++ (onward ∷ fitting r (steps_of onward.terminal (drop (taken + 1) bytes)))) left
              ∙ sym (append_assoc going.done (onward ∷ []) (fitting (length before - (sent + length (bytes_of onward.transmission))) (steps_of onward.terminal (drop (taken + 1) bytes))));
          as_many = length-append going.done (onward ∷ []) ∙ omega (arith, going.as_many);
          comes = after_more start going.done onward;
          wrote = rw (sent_more going.done onward) written;
          counted = rw (stored_more going.done onward, length-append (cells_stored_by going.done) onward.cells, going.counted);
          refusals = rw (refused_more going.done onward, going.refusals);
          changes = rw (protection_more going.done onward, going.changes);
          valid = step_keeps_valid (get_or bytes taken 0) here going.valid;
          inside = omega arith;
          room = omega (arith, going.room);
          as_long = placed-length sent (bytes_of onward.transmission) output (omega (arith, going.room, going.as_long)) ∙ going.as_long;
          few = omega (arith, going.few);
          few_refused = omega (arith, going.few_refused, one_at_most onward.was_refused);
        }

    -- A step that sends nothing leaves the output alone.
    pub goes_silently : (step : Stepped) → onward ≡ step → bytes_of step.transmission ≡ [] → (stored' refused' : ℕ) (protection' : Bool) → stored + length step.cells ≡ stored' → refused + count_of step.was_refused ≡ refused' → (protection or step.protection) ≡ protection' → Going start bytes before step.terminal (taken + 1) sent stored' refused' protection' output
    goes_silently step is silent stored' refused' protection' stores refuses protects =
        let none : length (bytes_of onward.transmission) ≡ 0 = ap (λ (s : Stepped). length (bytes_of s.transmission)) is ∙ ap length silent in
        let same_sent : sent + length (bytes_of onward.transmission) ≡ sent = omega (arith, none) in
        let same_output : placed sent (bytes_of onward.transmission) output ≡ output =
        ap (λ (s : Stepped). placed sent (bytes_of s.transmission) output) is
        ∙ ap (λ (bytes : List ℕ). placed sent bytes output) silent
        ∙ sym (wrote_none sent output).left in
        let fits : length (bytes_of onward.transmission) ≤ length output - sent = omega (arith, none) in
        let one_on : Going start bytes before onward.terminal (taken + 1) sent (stored + length onward.cells) (refused + count_of onward.was_refused) (protection or onward.protection) output =
        subst (λ (n : ℕ). Going start bytes before onward.terminal (taken + 1) n (stored + length onward.cells) (refused + count_of onward.was_refused) (protection or onward.protection) output) same_sent
        (subst (λ (o : List ℕ). Going start bytes before onward.terminal (taken + 1) (sent + length (bytes_of onward.transmission)) (stored + length onward.cells) (refused + count_of onward.was_refused) (protection or onward.protection) o) same_output
        (goes_one_on fits)) in
        let of-step : Going start bytes before step.terminal (taken + 1) sent (stored + length step.cells) (refused + count_of step.was_refused) (protection or step.protection) output =
        subst (λ (s : Stepped). Going start bytes before s.terminal (taken + 1) sent (stored + length s.cells) (refused + count_of s.was_refused) (protection or s.protection) output) is one_on in
        subst (λ (n : ℕ). Going start bytes before step.terminal (taken + 1) sent n refused' protection' output) stores
        (subst (λ (n : ℕ). Going start bytes before step.terminal (taken + 1) sent (stored + length step.cells) n protection' output) refuses
        (subst (λ (b : Bool). Going start bytes before step.terminal (taken + 1) sent (stored + length step.cells) (refused + count_of step.was_refused) b output) protects of-step))

    pub goes_on : (step : Step) (page : Page) (written-to : List ℕ) → record { told = told step page; output = written-to } ≡ written sent output here onward → Going start bytes before (record { state = step.state; page = page }) (taken + 1) (sent + step.sent) (stored + step.stored) (refused + count_of step.refused) (protection or step.protection) written-to
    goes_on step page written-to is =
        let was = was_done sent output here onward page written-to step is in
        subst (λ (t : Terminal). Going start bytes before t (taken + 1) (sent + step.sent) (stored + step.stored) (refused + count_of step.refused) (protection or step.protection) written-to) (sym was.terminal)
        (rw (was.stored, was.sent, was.refused, was.protection, was.writes) (goes_one_on was.fits))

  -- Where it ends, the call did the steps done so far.
  ends : (answer : Answer) → fitting (length before) (steps_of start bytes) ≡ going.done → after_steps answer (length (fitting (length before) (steps_of start bytes))) start before (fitting (length before) (steps_of start bytes)) ≡ record { number = number_of answer; taken = taken; sent = sent; stored = stored; refused = refused; protection = protection; terminal = here; output = output }
  unfolding after_steps
  ends answer all =
      let bytes_sent : length (bytes_sent_by going.done) ≡ sent = omega (arith, going.wrote.next_is) in
      rw all
      (λ i. record {
        number = number_of answer;
        taken = going.as_many i;
        sent = bytes_sent i;
        stored = going.counted i;
        refused = going.refusals i;
        protection = going.changes i;
        terminal = going.comes i;
        output = sym going.wrote.left i;
      })

  module _ (valid : Valid start) (short : length bytes ≤ 65536) where
    pub ends_full : (more : taken < length bytes) → length output - sent < length (bytes_of onward.transmission) → host_call start bytes before ≡ record { number = number_of answer.NoRoom; taken = taken; sent = sent; stored = stored; refused = refused; protection = protection; terminal = here; output = output }
    unfolding exceeds_room
    ends_full more exceeds =
        let room : length before - sent < length (bytes_of onward.transmission) = omega (arith, going.as_long) in
        let all : fitting (length before) (steps_of start bytes) ≡ going.done =
        going.steps
        ∙ ap (λ (steps : List Stepped). going.done ++ fitting (length before - sent) steps) (next_step here bytes taken more)
        ∙ ap (λ (steps : List Stepped). going.done ++ steps) (stops_there (length before - sent) (onward) _ room)
        ∙ append-nil going.done in
        let fewer : length (fitting (length before) (steps_of start bytes)) < length (steps_of start bytes) = omega (arith, ap length all, going.as_many, steps_count start bytes) in
        host_no_room start bytes before valid short (lt-ltb _ _ fewer) ∙ ends answer.NoRoom all

    pub ends_done : length bytes ≤ taken → host_call start bytes before ≡ record { number = number_of Done; taken = taken; sent = sent; stored = stored; refused = refused; protection = protection; terminal = here; output = output }
    unfolding exceeds_room steps_of fitting
    ends_done no_more =
        let all : fitting (length before) (steps_of start bytes) ≡ going.done =
        going.steps
        ∙ ap (λ (rest : List ℕ). going.done ++ fitting (length before - sent) (steps_of here rest)) (drop_of_length-le bytes no_more)
        ∙ append-nil going.done in
        let as_many : length (steps_of start bytes) ≤ length (fitting (length before) (steps_of start bytes)) = omega (arith, ap length all, going.as_many, steps_count start bytes) in
        host_done start bytes before valid short (le-ltb _ _ as_many) ∙ ends Done all
