-- Laws of the calls: what an output held before makes no difference, and the bytes sent fit in it.
use mathlib.Core.Path.{◌≡◌, refl, sym, ap, ◌∙◌}
use mathlib.Core.Bool.{Bool, true, false}
use mathlib.Core.List.{List, [], ◌∷◌, ◌++◌}
use Prim.Native.Nat.{ℕ, ◌-◌, ◌/◌, ◌%◌, ◌≤◌}
use native.Mathlib.Omega.{arith}
use Rattle.std.specs.Int.{w64, to_be_bytes}
use Rattle.std.proofs.Math.Nat.{div-div-eq-div-mul}
use borrow.Author.Tests.{leb-true}
use lib.Dec.{leb}
use lib.ListN.{length, get_or, length-append, length-replicate}
use Rattle.words.specs.Choice.{If◌then◌else◌}
use Rattle.words.specs.Output.{placed}
use Rattle.words.proofs.Choosing.{either_line}
use Rattle.words.proofs.Output.{placed_before, wrote_none}
use Rattle.steps.specs.Steps.{Terminal, Stepped, bytes_of}
use Rattle.keys.specs.Keys.{key_step}
use Rattle.terminal.specs.declared.Answer.{Answer}
use Rattle.terminal.specs.declared.Answer.TheVariants.{Done, WrongSize, WrongState, NoRoom, UnknownKey, Locked, TooLong, NoCell, NotTaken, RequiredBlank}
use Rattle.terminal.specs.Runs.{steps_of, fitting, bytes_sent_by}
use Rattle.terminal.specs.Answers.{Outcome, number_of, unchanged, after_steps, changes_nothing, gives, bytes_sent}
use Rattle.terminal.specs.Tests.{first_of, host_lines, key_lines}
use Rattle.terminal.specs.Calls.{host_call, key_call}
use Rattle.terminal.proofs.Running.{steps_count}
use Rattle.frames.specs.Printing.{high_first, line_of, printed}
use Rattle.frames.specs.Sessions.{output}

-- An answer's number has one byte.
pub one_byte : (answer : Answer) → number_of answer ≡ number_of answer % 256
unfolding number_of
one_byte Done = refl
one_byte WrongSize = refl
one_byte WrongState = refl
one_byte NoRoom = refl
one_byte UnknownKey = refl
one_byte Locked = refl
one_byte TooLong = refl
one_byte NoCell = refl
one_byte NotTaken = refl
one_byte RequiredBlank = refl

-- Of a number in eight bytes, the last one, and the last four.
abbrev pub last_byte : List ℕ → ℕ
last_byte bytes = get_or bytes 7 0

abbrev pub last_four : List ℕ → List ℕ
last_four bytes = get_or bytes 4 0 ∷ get_or bytes 5 0 ∷ get_or bytes 6 0 ∷ get_or bytes 7 0 ∷ []

pub four_told : (number : ℕ) → last_four (to_be_bytes w64 number) ≡ high_first 4 number
unfolding high_first
four_told number =
    let two : number / 65536 ≡ number / 256 / 256 = sym (div-div-eq-div-mul number 256 256) in
    let three : number / 16777216 ≡ number / 256 / 256 / 256 = sym (ap (λ (n : ℕ). n / 256) (div-div-eq-div-mul number 256 256) ∙ div-div-eq-div-mul number 65536 256) in
    λ i. three i % 256 ∷ two i % 256 ∷ number / 256 % 256 ∷ number % 256 ∷ []

-- The same line is printed of outcomes that agree in what it tells.
pub printed_same : (a b : Outcome) → a.number ≡ b.number → a.terminal.state ≡ b.terminal.state → a.stored ≡ b.stored → bytes_sent a ≡ bytes_sent b → printed a ≡ printed b
unfolding printed
printed_same a b number state stored sent = λ i.
    line_of (high_first 1 (number i) ++ (high_first 1 (state i).cursor.row ++ (high_first 1 (state i).cursor.column ++ (high_first 4 (stored i) ++ sent i))))

-- The same but for what the output held: its bytes are written over another one.
pub record Alike (one other : Outcome) (held : List ℕ) : Type 0 where
  pub number : other.number ≡ one.number
  pub taken : other.taken ≡ one.taken
  pub terminal : other.terminal ≡ one.terminal
  pub stored : other.stored ≡ one.stored
  pub sends : bytes_sent other ≡ bytes_sent one
  pub output : other.output ≡ placed 0 (bytes_sent one) held

module _ (t : Terminal) (taken : ℕ) (steps : List Stepped) (one other : List ℕ) where
  unchanged_alike : (answer : Answer) → Alike (unchanged answer t one) (unchanged answer t other) other
  unfolding unchanged
  unchanged_alike answer = record { number = refl; taken = refl; terminal = refl; stored = refl; sends = refl; output = (wrote_none 0 other).left }

  did_alike : (answer : Answer) → Alike (after_steps answer taken t one steps) (after_steps answer taken t other steps) other
  unfolding after_steps
  did_alike answer =
      record {
        number = refl;
        taken = refl;
        terminal = refl;
        stored = refl;
        sends = placed_before (bytes_sent_by steps) other ∙ sym (placed_before (bytes_sent_by steps) one);
        output = ap (λ (bytes : List ℕ). placed 0 bytes other) (sym (placed_before (bytes_sent_by steps) one));
      }

  gives_alike : (answer : Answer) → Alike (gives answer taken t one steps) (gives answer taken t other steps) other
  unfolding gives If◌then◌else◌
  gives_alike answer = go (changes_nothing answer)
    where
      go : (nothing : Bool) → Alike (If nothing then unchanged answer t one else after_steps answer taken t one steps) (If nothing then unchanged answer t other else after_steps answer taken t other steps) other
      go true = unchanged_alike answer
      go false = did_alike answer

-- Of steps that fit, the bytes do; and they are no more steps than there are.
fitting-sends : (room : ℕ) (steps : List Stepped) → length (bytes_sent_by (fitting room steps)) ≤ room
unfolding fitting bytes_sent_by
fitting-sends room [] = omega arith
fitting-sends room (step ∷ later) =
    either_line (λ (done : List Stepped). length (bytes_sent_by done) ≤ room) (leb (length (bytes_of step.transmission)) room) _ _
    (λ fits.
    let further = fitting-sends (room - length (bytes_of step.transmission)) later in
    simp length-append (omega (arith, further, leb-true (length (bytes_of step.transmission)) room fits)))
    (λ exceeds. omega arith)

fitting_few : (room : ℕ) (steps : List Stepped) → length (fitting room steps) ≤ length steps
unfolding fitting
fitting_few room [] = omega arith
fitting_few room (step ∷ later) =
    either_line (λ (done : List Stepped). length done ≤ length (step ∷ later)) (leb (length (bytes_of step.transmission)) room) _ _
    (λ fits. let further = fitting_few (room - length (bytes_of step.transmission)) later in omega arith)
    (λ exceeds. omega arith)

-- What a call sends and takes at most.
pub record Within (outcome : Outcome) (room most : ℕ) : Type 0 where
  pub sent : outcome.sent ≤ room
  pub taken : outcome.taken ≤ most

gives-within : (answer : Answer) (taken : ℕ) (t : Terminal) (held : List ℕ) (steps : List Stepped) (room : ℕ) → length (bytes_sent_by steps) ≤ room → Within (gives answer taken t held steps) room taken
unfolding gives after_steps unchanged
gives-within answer taken t held steps room fits =
    either_line (λ (o : Outcome). Within o room taken) (changes_nothing answer) _ _
    (λ _. record { sent = omega arith; taken = omega arith })
    (λ _. record { sent = fits; taken = omega arith })

-- The output that the definition lends is as long as the code's.
pub output_long : length output ≡ 65536
unfolding output
output_long = length-replicate {A = ℕ} 65536 0

module _ (t : Terminal) (held : List ℕ) (long : length held ≡ 65536) where
  same_room : length held ≡ length output
  same_room = long ∙ sym output_long

  pub host_alike : (bytes : List ℕ) → Alike (host_call t bytes output) (host_call t bytes held) held
  unfolding host_call host_lines
  host_alike bytes = rw same_room (gives_alike t _ _ output held _)

  pub host_within : (bytes : List ℕ) → Within (host_call t bytes held) 65536 (length bytes)
  unfolding host_call
  host_within bytes =
      let fits = fitting-sends (length held) (steps_of t bytes) in
      let few = fitting_few (length held) (steps_of t bytes) in
      let within = gives-within (first_of (host_lines t bytes held)) (length (fitting (length held) (steps_of t bytes))) t held (fitting (length held) (steps_of t bytes)) 65536 (omega arith) in
      record { sent = within.sent; taken = omega (arith, within.taken, steps_count t bytes) }

  pub key_alike : (number : ℕ) → Alike (key_call t number output) (key_call t number held) held
  unfolding key_call key_lines
  key_alike number = rw same_room (gives_alike t _ _ output held _)

  pub key_within : (number : ℕ) → Within (key_call t number held) 65536 0
  unfolding key_call
  key_within number =
      let fits = fitting-sends (length held) (key_step number t ∷ []) in
      gives-within (first_of (key_lines t number held)) 0 t held (fitting (length held) (key_step number t ∷ [])) 65536 (omega arith)
