-- Line 3: a step is left out exactly when, after the steps before it, its transmission exceeds the room left.
use mathlib.Core.Path.{◌≡◌, refl, ap, ◌∙◌}
use mathlib.Core.Bool.{true}
use mathlib.Core.List.{List, [], ◌∷◌, ◌++◌}
use mathlib.Core.Logic.{◌↔◌}
use Prim.Native.Nat.{ℕ, ◌+◌, ◌-◌, ◌<◌, ◌≤◌}
use native.Mathlib.Omega.{arith}
use borrow.Author.Tests.{lt-ltb, ltb-true}
use lib.ListN.{length, length-append}
use Rattle.words.proofs.Choosing.{less_or_not}
use Rattle.steps.specs.Steps.{Stepped, bytes_of}
use Rattle.terminal.specs.Runs.{fitting, bytes_sent_by}
use Rattle.terminal.specs.Tests.{exceeds_room}
use Rattle.terminal.specs.Lines.{Line3}
use Rattle.terminal.proofs.Deciding.{fits_on, stops_there}

-- How many bytes the first of some steps and the others send.
sent_count : (step : Stepped) (later : List Stepped) → length (bytes_sent_by (step ∷ later)) ≡ length (bytes_of step.transmission) + length (bytes_sent_by later)
unfolding bytes_sent_by
sent_count step later = length-append (bytes_of step.transmission) (bytes_sent_by later)

left_out : (room : ℕ) (steps : List Stepped) → length (fitting room steps) < length steps → Line3 room steps
unfolding bytes_sent_by fitting
left_out room [] short = absurd (omega arith)
left_out room (step ∷ later) short =
    less_or_not room (length (bytes_of step.transmission))
    (λ exceeds. record { before = []; next = step; later = later; are = refl; fit = omega arith; exceeds = omega arith })
    (λ fits.
    let all = ap (length {A = Stepped}) (fits_on room step later fits) in
    let rest = left_out (room - length (bytes_of step.transmission)) later (omega (arith, all)) in
    let counted = sent_count step rest.before in
    record {
      before = step ∷ rest.before;
      next = rest.next;
      later = rest.later;
      are = ap (λ (steps : List Stepped). step ∷ steps) rest.are;
      fit = omega (arith, counted, rest.fit);
      exceeds = omega (arith, counted, rest.exceeds);
    })

-- The steps done are those before it.
before_done : (room : ℕ) (before : List Stepped) (next : Stepped) (later : List Stepped) → length (bytes_sent_by before) ≤ room → room - length (bytes_sent_by before) < length (bytes_of next.transmission) → fitting room (before ++ (next ∷ later)) ≡ before
unfolding bytes_sent_by
before_done room [] next later fit exceeds = stops_there room next later (omega (arith, exceeds))
before_done room (step ∷ before) next later fit exceeds =
    let counted = sent_count step before in
    let first : length (bytes_of step.transmission) ≤ room = omega (arith, counted) in
    fits_on room step (before ++ (next ∷ later)) first
    ∙ ap (λ (steps : List Stepped). step ∷ steps) (before_done (room - length (bytes_of step.transmission)) before next later (omega (arith, counted)) (omega (arith, counted)))

pub line_3_done : (room : ℕ) (steps : List Stepped) (line : Line3 room steps) → fitting room steps ≡ line.before
line_3_done room steps line = ap (fitting room) line.are ∙ before_done room line.before line.next line.later line.fit line.exceeds

pub line_3 : (room : ℕ) (steps : List Stepped) → (exceeds_room room steps ≡ true) ↔ Line3 room steps
unfolding exceeds_room
line_3 room steps = (
  λ holds. left_out room steps (ltb-true _ _ holds),
  λ line.
      let done = ap (length {A = Stepped}) (line_3_done room steps line) in
      let all = ap (length {A = Stepped}) line.are ∙ length-append line.before (line.next ∷ line.later) in
      let fewer : length (fitting room steps) < length steps = omega (arith, done, all) in
      lt-ltb _ _ fewer,
)
