-- Laws of a line as the code holds it.
use mathlib.Core.Path.{◌≡◌, refl, sym, ap, ◌∙◌}
use mathlib.Core.Bool.{true, false}
use mathlib.Core.List.{List, [], ◌∷◌, ◌++◌}
use Prim.Native.Nat.{ℕ, ◌+◌, ◌%◌, ◌<◌, ◌≤◌}
use native.Mathlib.Numerals.{add-one}
use borrow.Author.Tests.{le-leb, lt-leb, lt-ltb, le-ltb, eqb-true}
use lib.Dec.{ltb}
use native.Mathlib.Omega.{arith}
use lib.ListN.{length, take, set, length-append, length-set}
use lib.Seq.{take-suc-set}
use Rattle.words.proofs.Choosing.{then_case, else_case, either_line, either_way, less_or_not, both}
use Rattle.numerals.specs.Hexadecimal.{is_hexadecimal, bytes_in, pairs_of}
use Rattle.frames.specs.Frames.{no_frame, frame_in, frame_of}
use Rattle.frames.specs.Held.{longer, line_in, Collected}
use Rattle.numerals.proofs.Digits.{pairs_least}
use Rattle.frames.proofs.Framing.{no_bytes, too_many_bytes}

no_bytes_in : bytes_in [] ≡ []
unfolding bytes_in pairs_of
no_bytes_in = either_line (λ (bytes : List ℕ). bytes ≡ []) (is_hexadecimal []) _ _ (λ _. refl) (λ _. refl)

module _ (buffer : List ℕ) (digits : ℕ) where
  pub line_kept : digits ≤ 512 → line_in buffer digits ≡ take digits buffer
  unfolding line_in
  line_kept fits = then_case _ _ _ (le-leb _ _ fits)

  -- The bytes of a line that is too long, of one that is not hexadecimal, and of one that is.
  pub line_too_long : 512 < digits → bytes_in (line_in buffer digits) ≡ []
  unfolding line_in bytes_in pairs_of
  line_too_long long = ap bytes_in (else_case _ _ _ (lt-leb _ _ long)) ∙ no_bytes_in

  pub not_hexadecimal : digits ≤ 512 → is_hexadecimal (take digits buffer) ≡ false → bytes_in (line_in buffer digits) ≡ []
  unfolding bytes_in
  not_hexadecimal fits wrong = ap bytes_in (line_kept fits) ∙ else_case _ _ _ wrong

  pub is_hexadecimal_lem : digits ≤ 512 → is_hexadecimal (take digits buffer) ≡ true → bytes_in (line_in buffer digits) ≡ pairs_of (take digits buffer)
  unfolding bytes_in
  is_hexadecimal_lem fits right = ap bytes_in (line_kept fits) ∙ then_case _ _ _ right

-- A line of more than 512 digits is no frame.
long_line : (line : List ℕ) → 512 < length line → frame_in (bytes_in line) ≡ no_frame
unfolding bytes_in is_hexadecimal
long_line line long =
    either_way (is_hexadecimal line)
    (λ is.
    let even = eqb-true (length line % 2) 0 (both is).0 in
    let many : 256 < length (pairs_of line) = omega (arith, pairs_least line) in
    ap frame_in (then_case _ _ _ is) ∙ too_many_bytes (pairs_of line) many)
    (λ wrong. ap frame_in (else_case _ _ _ wrong) ∙ no_bytes [] refl)

pub none_collected : (buffer : List ℕ) → length buffer ≡ 512 → Collected [] buffer 0
none_collected buffer room = record { room = room; counted = omega arith; stands = λ _. refl }

pub more_collected : {line buffer : List ℕ} {digits : ℕ} (byte : ℕ) → Collected line buffer digits → Collected (line ++ (byte ∷ [])) (set buffer digits byte) (longer digits)
unfolding longer
more_collected {line} {buffer} {digits} byte so_far =
    let one_more = length-append line (byte ∷ []) in
    less_or_not digits 512
    (λ fits.
    let next = then_case (ltb digits 512) (digits + 1) 513 (lt-ltb digits 512 fits) in
    let inside : digits < length buffer = omega (arith, so_far.room) in
    record {
      room = length-set buffer digits byte ∙ so_far.room;
      counted = next ∙ omega (arith, one_more, so_far.counted);
      stands = λ short. rw (next, add-one digits) (take-suc-set buffer digits byte inside ∙ ap (λ (l : List ℕ). l ++ (byte ∷ [])) (so_far.stands (omega (arith, one_more))));
    })
    (λ full.
    record {
      room = length-set buffer digits byte ∙ so_far.room;
      counted = else_case (ltb digits 512) (digits + 1) 513 (le-ltb digits 512 full) ∙ omega (arith, one_more, so_far.counted);
      stands = λ short. absurd (omega (arith, one_more, so_far.counted));
    })

-- The frame found is that of the whole line, also of one that is too long.
pub frame_found : {line buffer : List ℕ} {digits : ℕ} → Collected line buffer digits → frame_of (line_in buffer digits) ≡ frame_of line
unfolding frame_of
frame_found {line} {buffer} {digits} all =
    less_or_not 512 (length line)
    (λ long. ap frame_in (line_too_long buffer digits (omega (arith, all.counted))) ∙ no_bytes [] refl ∙ sym (long_line line long))
    (λ short. ap (λ (l : List ℕ). frame_in (bytes_in l)) (line_kept buffer digits (omega (arith, all.counted)) ∙ all.stands short))
