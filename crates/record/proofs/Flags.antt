-- Of bytes as C lends them, as many as a record has, the content is good exactly where every flag is 0 or 1.
use mathlib.Core.Path.{◌≡◌, refl, sym, ap, ◌∙◌}
use mathlib.Core.Bool.{Bool, true, false}
use mathlib.Core.List.{List, [], ◌∷◌, ◌++◌, flat_map}
use mathlib.Core.Logic.{◌↔◌, ⊎_elim}
use Prim.Native.Nat.{ℕ, zero, suc, ◌+◌, ◌-◌, ◌<◌, ◌≤◌}
use native.Mathlib.Omega.{arith}
use borrow.Author.Tests.{eqb-true}
use lib.Dec.{eqb}
use lib.ListN.{length, get_or, length-append}
use lib.Seq.{get_or-append-add}
use Rattle.words.specs.Choice.{If◌then◌else◌, ◌and◌, ◌or◌, ◌is◌to◌}
use Rattle.words.specs.Lists.{exactly}
use Rattle.words.proofs.Choosing.{one_holds, range_holds, range_is}
use Rattle.words.proofs.Elements.{exactly_these}
use Rattle.state.specs.declared.State.{State}
use Rattle.record.specs.Bytes.{number_bytes, number_at, flag_byte, flag_bytes, flag_at, read_each}
use Rattle.record.specs.Record.{first_bytes, argument_bytes, stop_bytes, record_of, state_in, Good, holds_flag, AsLent, FlagsRight}
use Rattle.record.proofs.Lengths.{first_length, arguments_length}
use Rattle.record.proofs.Reading.{length-each, whole_read, split_read}
use Rattle.record.proofs.RoundTrip.{number_again, numbers_again}

-- A record's flags are 0 or 1.
flag_small : (flag : Bool) → flag_byte flag ≤ 1
unfolding flag_byte If◌then◌else◌
flag_small true = omega arith
flag_small false = omega arith

stop_small : (stops : List Bool) (k : ℕ) → get_or (flat_map flag_bytes stops) k 0 ≤ 1
unfolding flat_map
stop_small [] k = omega arith
stop_small (stop ∷ later) zero = flag_small stop
stop_small (stop ∷ later) (suc k) = stop_small later k

record_flags : (s : State) (place : ℕ) → holds_flag place ≡ true → get_or (record_of s) place 0 ≤ 1
unfolding holds_flag record_of first_bytes number_bytes
record_flags s place holds =
    ⊎_elim (λ low. let h = range_holds place 10 13 low in low_here h.0 h.1)
    (λ more. ⊎_elim (λ e. rw (eqb-true place 17 e) (flag_small s.half.spoilt))
    (λ stop. stop_here (range_holds place 35 194 stop).0) (one_holds more)) (one_holds holds)
  where
    -- erasure, full, manual and soft
    four : (k : ℕ) → k < 4 → get_or (record_of s) (10 + k) 0 ≤ 1
    four zero h = flag_small s.modes.erasure
    four (suc zero) h = flag_small s.modes.full
    four (suc (suc zero)) h = flag_small s.locks.manual
    four (suc (suc (suc zero))) h = flag_small s.locks.soft
    four (suc (suc (suc (suc k)))) h = absurd (omega arith)

    low_here : 10 ≤ place → place ≤ 13 → get_or (record_of s) place 0 ≤ 1
    low_here low high = let there : 10 + (place - 10) ≡ place = omega arith in rw there at (four (place - 10) (omega arith))

    stop_here : 35 ≤ place → get_or (record_of s) place 0 ≤ 1
    stop_here late =
        let before = first_bytes s ++ argument_bytes s.half.arguments in
        let long : length before ≡ 35 = length-append (first_bytes s) (argument_bytes s.half.arguments) ∙ (λ i. first_length s i + arguments_length s.half.arguments i) in
        let there : length before + (place - 35) ≡ place = omega arith in
        let same : get_or (record_of s) place 0 ≡ get_or (stop_bytes s.stops) (place - 35) 0 =
        rw there at (get_or-append-add before (stop_bytes s.stops) (place - 35) 0) in
        rw same (stop_small (exactly 160 false s.stops) (place - 35))

-- A flag that is 0 or 1 is written again as it was read.
flag_again : (byte : ℕ) → byte ≤ 1 → flag_byte (eqb byte 1) ≡ byte
unfolding flag_byte If◌then◌else◌
flag_again zero h = refl
flag_again (suc zero) h = refl
flag_again (suc (suc byte)) h = absurd (omega arith)

second_holds : (a b : Bool) → b ≡ true → (a or b) ≡ true
unfolding ◌or◌
second_holds true b holds = refl
second_holds false b holds = holds

module _ (bytes : List ℕ) (lent : AsLent bytes) where
  abbrev byte : ℕ → ℕ
  byte k = get_or bytes k 0

  stops_again : (at n : ℕ) → ((k : ℕ) → at ≤ k → k < at + n → byte k ≤ 1) → flat_map flag_bytes (read_each (flag_at bytes) 1 at n) ≡ read_each byte 1 at n
  unfolding read_each flat_map
  stops_again at zero right = refl
  stops_again at (suc n) right = λ i. flag_again (byte at) (right at (omega arith) (omega arith)) i ∷ stops_again (at + 1) n (λ k low high. right k (omega arith) (omega arith)) i

  module _ (right : FlagsRight bytes) where
    flag_at_place : (place : ℕ) → holds_flag place ≡ true → flag_byte (eqb (byte place) 1) ≡ byte place
    flag_at_place place holds = flag_again (byte place) (right place holds)

    two : (at : ℕ) → number_bytes 2 (number_at 2 bytes at) ≡ read_each byte 1 at 2
    two = number_again bytes lent.are_bytes 2

    first_again : first_bytes (state_in bytes) ≡ read_each byte 1 0 19
    unfolding first_bytes state_in number_bytes number_at read_each holds_flag ◌is◌to◌ ◌and◌ ◌or◌
    first_again = λ i.
        two 0 i ++ two 2 i ++ two 4 i ++ two 6 i ++ two 8 i
        ++ flag_at_place 10 refl i ∷ flag_at_place 11 refl i ∷ flag_at_place 12 refl i ∷ flag_at_place 13 refl i
        ∷ byte 14 ∷ byte 15 ∷ byte 16 ∷ flag_at_place 17 refl i ∷ byte 18 ∷ []

    stop_place : (place : ℕ) → 35 ≤ place → place < 195 → holds_flag place ≡ true
    unfolding holds_flag
    stop_place place low high =
        let most : place ≤ 194 = omega arith in
        second_holds _ _ (second_holds _ _ (range_is place 35 194 low most))

    good_again : Good bytes
    unfolding record_of state_in
    good_again =
        let eight = exactly_these 0 (read_each (number_at 2 bytes) 2 19 8) (length-each (number_at 2 bytes) 2 19 8) in
        let all = exactly_these false (read_each (flag_at bytes) 1 35 160) (length-each (flag_at bytes) 1 35 160) in
        let arguments = ap (flat_map (number_bytes 2)) eight ∙ numbers_again bytes lent.are_bytes 2 19 8 in
        let stops = ap (flat_map flag_bytes) all ∙ stops_again 35 160 (λ k low high. right k (stop_place k low high)) in
        (λ i. first_again i ++ arguments i ++ stops i)
        ∙ ap (λ (l : List ℕ). l ++ read_each byte 1 35 160) (sym (split_read byte 0 19 16))
        ∙ sym (split_read byte 0 35 160)
        ∙ (rw lent.as_many at (whole_read bytes))

pub good_by_flags : (bytes : List ℕ) → AsLent bytes → Good bytes ↔ FlagsRight bytes
good_by_flags bytes lent = (λ good place holds. rw good at (record_flags (state_in bytes) place holds), good_again bytes lent)
