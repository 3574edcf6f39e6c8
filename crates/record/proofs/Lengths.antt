-- How long a record is, and its parts; what is written over a whole slice.
use mathlib.Core.Path.{◌≡◌, refl, ap, ◌∙◌}
use mathlib.Core.Bool.{Bool, false}
use mathlib.Core.List.{List, append-nil}
use Prim.Native.Nat.{ℕ, ◌+◌, ◌*◌, ◌≤◌}
use native.Mathlib.Omega.{arith}
use lib.ListN.{length, drop_of_length-le, length-append}
use Rattle.words.specs.Lists.{exactly}
use Rattle.words.specs.Output.{placed, Wrote}
use Rattle.words.proofs.Elements.{exactly-length}
use Rattle.words.proofs.Pieces.{flat_length}
use Rattle.state.specs.declared.State.{State}
use Rattle.record.specs.Bytes.{number_bytes, flag_bytes}
use Rattle.record.specs.Record.{record_length, first_bytes, argument_bytes, stop_bytes, record_of}

pub number_length : (number : ℕ) → length (number_bytes 2 number) ≡ 2
unfolding number_bytes
number_length number = refl

pub first_length : (s : State) → length (first_bytes s) ≡ 19
unfolding first_bytes number_bytes
first_length s = refl

pub arguments_length : (arguments : List ℕ) → length (argument_bytes arguments) ≡ 16
unfolding number_bytes
arguments_length arguments =
    flat_length (number_bytes 2) 2 (λ _. refl) (exactly 8 0 arguments) ∙ ap (λ (n : ℕ). n * 2) (exactly-length 8 0 arguments)

pub stops_length : (stops : List Bool) → length (stop_bytes stops) ≡ 160
stops_length stops = flat_length flag_bytes 1 (λ _. refl) (exactly 160 false stops) ∙ ap (λ (n : ℕ). n * 1) (exactly-length 160 false stops)

pub record_length_lem : (s : State) → length (record_of s) ≡ record_length
unfolding record_of
record_length_lem s =
    simp (length-append, first_length s, arguments_length s.half.arguments, stops_length s.stops)

-- What is as long as the slice that it is written over is all that is there then.
pub whole_written : {bytes : List ℕ} (before : List ℕ) {next : ℕ} {after : List ℕ} → length bytes ≡ length before → Wrote 0 bytes before next after → after ≡ bytes
unfolding placed
whole_written {bytes} before same wrote =
    let over : length before ≤ 0 + length bytes = omega arith in
    wrote.left ∙ rw (drop_of_length-le before over) (append-nil bytes)
