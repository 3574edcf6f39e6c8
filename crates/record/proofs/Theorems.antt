-- The record of a state: it is read back, a state has one, and that of the all-zero state is all zeros.
use mathlib.Core.Path.{◌≡◌, refl, sym, ap, ◌∙◌}
use mathlib.Core.Bool.{Bool, true, false}
use mathlib.Core.List.Memᴰ
use mathlib.Core.List.{List, [], ◌∷◌, ◌++◌, append_assoc, append-nil, flat_map, Memᴰ}
use mathlib.Core.Logic.{◌↔◌, ⊎_elim}
use Prim.Native.Nat.{ℕ, ◌+◌, ◌*◌, ◌/◌, ◌%◌, ◌<◌, ◌≤◌}
use native.Mathlib.Omega.{arith}
use borrow.Author.Tests.{leb-true}
use lib.Dec.{ltb}
use lib.ListN.{length, replicate, length-append}
use Rattle.words.specs.Choice.{If◌then◌else◌}
use Rattle.words.specs.Lists.{exactly}
use Rattle.words.proofs.Choosing.{both, either_line}
use Rattle.words.proofs.Elements.{exactly_these}
use Rattle.sequence.specs.declared.HalfRead.{HalfRead}
use Rattle.sequence.specs.Record.{largest_argument, arguments_fit, valid_half_read}
use Rattle.state.specs.declared.State.{State}
use Rattle.state.specs.State.{Arrays, zero_state}
use Rattle.state.specs.Tests.{listed_size, valid_state}
use Rattle.page.proofs.Valid.{valid_mark_lem}
use Rattle.state.proofs.Keeping.{size_bounds, on_page, parts, pen_range}
use Rattle.record.specs.Bytes.{number_bytes, number_at, flag_byte, flag_bytes, flag_at, read_each}
use Rattle.record.specs.Record.{first_bytes, argument_bytes, stop_bytes, record_of, state_in, Good, is_good}
use Rattle.record.proofs.Lengths.{first_length, arguments_length}
use Rattle.record.proofs.Comparing.{same_is_equal, itself_is_same}
use Rattle.record.proofs.Reading.{length-each}
use Rattle.record.proofs.RoundTrip.{many, number_back, flag_back, each_back}

-- No argument of a valid half-read record is above 9,999.
each_argument_fits : (reached i : ℕ) (arguments : List ℕ) → arguments_fit reached i arguments ≡ true → (x : ℕ) → Memᴰ x arguments → x ≤ 9999
unfolding arguments_fit largest_argument
each_argument_fits reached i [] fit x among = absurd (Memᴰ.not-nil among)
each_argument_fits reached i (argument ∷ later) fit x among =
    let most : (If ltb i reached then 9999 else 0) ≤ 9999 = either_line (λ (n : ℕ). n ≤ 9999) _ _ _ (λ _. omega arith) (λ _. omega arith) in
    let here = leb-true argument _ (both fit).0 in
    ⊎_elim (λ is. omega arith) (λ after. each_argument_fits reached (i + 1) later (both fit).1 x after) (Memᴰ.cases_cons among)

arguments_fit_lem : (half : HalfRead) → valid_half_read half ≡ true → (x : ℕ) → Memᴰ x half.arguments → x ≤ 9999
unfolding valid_half_read
arguments_fit_lem half =
    either_line Told _ _ _ (λ _ v. each_argument_fits 0 0 half.arguments (both (both v).1).1)
    (λ _. either_line Told _ _ _ (λ _ v. each_argument_fits half.count 0 half.arguments (both v).1)
    (λ _. either_line Told _ _ _ (λ _ v. each_argument_fits 0 0 half.arguments (both v).1)
    (λ _. either_line Told _ _ _ (λ _ v. each_argument_fits half.count 0 half.arguments (both v).1)
    (λ _ v. each_argument_fits 0 0 half.arguments (both (both v).1).1))))
  where
    Told : Bool → Type 0
    Told test = test ≡ true → (x : ℕ) → Memᴰ x half.arguments → x ≤ 9999

two_bytes_fit : (n : ℕ) → n < 65536 → n < many 2
unfolding many
two_bytes_fit n h = omega arith

two_back : (n : ℕ) → n < 65536 → n % 256 + 256 * (n / 256 % 256 + 256 * 0) ≡ n
two_back n h = omega arith

flag_here : (flag : Bool) → flag_at (flag_bytes flag) 0 ≡ flag
flag_here flag = flag_back flag [] []

module _ (s : State) (listed : listed_size s.size ≡ true) (valid : valid_state s ≡ true) (has : Arrays s) where
  arguments_back : read_each (number_at 2 (record_of s)) 2 19 8 ≡ s.half.arguments
  unfolding record_of number_bytes
  arguments_back =
      let arguments = s.half.arguments in
      let eight = exactly_these 0 arguments has.arguments in
      let argument-fits : (n : ℕ) → Memᴰ n arguments → n < 65536 = λ n among. let most = arguments_fit_lem s.half (parts s valid).half n among in omega arith in
      let grouped : record_of s ≡ first_bytes s ++ (flat_map (number_bytes 2) arguments ++ stop_bytes s.stops) =
      append_assoc (first_bytes s) (argument_bytes arguments) (stop_bytes s.stops) ∙ ap (λ (l : List ℕ). first_bytes s ++ (flat_map (number_bytes 2) l ++ stop_bytes s.stops)) eight in
      rw grouped
      (rw (first_length s, has.arguments) at (each_back (number_bytes 2) (number_at 2) 2 (λ _. refl) (λ n. n < many 2) (λ n fits before after. number_back 2 n fits before after) arguments (λ n among. two_bytes_fit n (argument-fits n among)) (first_bytes s) (stop_bytes s.stops)))

  stops_back : read_each (flag_at (record_of s)) 1 35 160 ≡ s.stops
  unfolding record_of
  stops_back =
      let stops = s.stops in
      let all = exactly_these false stops has.stops in
      let before = first_bytes s ++ argument_bytes s.half.arguments in
      let long : length before ≡ 35 = length-append (first_bytes s) (argument_bytes s.half.arguments) ∙ (λ i. first_length s i + arguments_length s.half.arguments i) in
      let grouped : record_of s ≡ before ++ (flat_map flag_bytes stops ++ []) =
      ap (λ (l : List Bool). before ++ flat_map flag_bytes l) all ∙ ap (λ (l : List ℕ). before ++ l) (sym (append-nil (flat_map flag_bytes stops))) in
      rw grouped
      (rw (long, has.stops) at (each_back flag_bytes flag_at 1 (λ _. refl) (λ _. Unit {0}) (λ flag _ before after. flag_back flag before after) stops (λ _ _. tt) before []))

  -- The record of a valid state, read back, is that state.
  pub reads_back : state_in (record_of s) ≡ s
  unfolding state_in record_of first_bytes number_bytes number_at
  reads_back =
      let bounds = size_bounds s.size listed in
      let cursor = on_page s listed valid in
      let pen = (valid_mark_lem s.modes.pen (pen_range s.modes.pen (parts s valid).pen).0).0 in
      (λ i. record {
        size = record { rows = two_back s.size.rows (omega arith) i; columns = two_back s.size.columns (omega arith) i };
        cursor = record { row = two_back s.cursor.row (omega arith) i; column = two_back s.cursor.column (omega arith) i };
        modes = record { pen = two_back s.modes.pen (omega arith) i; erasure = flag_here s.modes.erasure i; full = flag_here s.modes.full i };
        locks = record { manual = flag_here s.locks.manual i; soft = flag_here s.locks.soft i; message = s.locks.message; byte = s.locks.byte };
        stops = stops_back i;
        half = record { kind = s.half.kind; arguments = arguments_back i; count = s.half.count; spoilt = flag_here s.half.spoilt i };
      })

-- Content is good where the test says so.
pub good_by_test : (bytes : List ℕ) → (is_good bytes ≡ true) ↔ Good bytes
unfolding is_good
good_by_test bytes =
    (λ same. sym (same_is_equal bytes (record_of (state_in bytes)) same), λ good. rw good (itself_is_same bytes))

-- Two good records that are read as one state are the same.
pub one_record : (one other : List ℕ) → Good one → Good other → state_in one ≡ state_in other → one ≡ other
one_record one other good other-good same = sym good ∙ ap record_of same ∙ other-good

-- The record of the all-zero state is all zeros.
pub zeros : record_of zero_state ≡ replicate 195 0
unfolding record_of first_bytes number_bytes flag_byte exactly flat_map If◌then◌else◌
zeros = refl

-- What bytes say has the arrays of the code, whatever they are.
pub said_arrays : (bytes : List ℕ) → Arrays (state_in bytes)
unfolding state_in
said_arrays bytes = record { stops = length-each (flag_at bytes) 1 35 160; arguments = length-each (number_at 2 bytes) 2 19 8 }
