use mathlib.Core.Path.{◌≡◌, refl, sym, ap, ◌∙◌}
use mathlib.Core.List.{List, [], ◌∷◌, ◌++◌, append_assoc, append-nil}
use Prim.Native.Nat.{ℕ, ◌+◌, ◌*◌, ◌/◌, ◌<◌, ◌≤◌}
use native.Mathlib.Omega.{arith}
use lib.ListN.{length, take, drop}
use lib.Seq.{length-take-le}
use Rattle.words.proofs.Output.{wrote_none, wrote_one, wrote_then}
use Rattle.words.proofs.Passing.{passes}
use Rattle.numerals.specs.Hexadecimal.{is_digit, digit_value, pairs_of}
use Rattle.numerals.proofs.Digits.{pairs_next, pairs_end}
use Rattle.numerals.proofs.Digits.{read_later}
use Rattle.numerals.proofs.decode.Goals as goal

pub loop-i-init : goal.loop-i-init
loop-i-init c = ([], wrote_none _ _, refl)

pub value_of-high-requires : goal.value_of-high-requires
value_of-high-requires c =
    let digits = take c.args.digits c.args.text.now in
    let here : 2 * c.loop-i.i < c.args.digits = omega arith in
    let inside : 2 * c.loop-i.i < length digits = omega (arith, length-take-le c.args.digits c.args.text.now c.requires.digits_in_bounds) in
    rw (read_later c.loop-i.invariant.1 _ _ (omega arith) here) (passes is_digit digits c.requires.text_value _ inside)

pub value_of-low-requires : goal.value_of-low-requires
value_of-low-requires c =
    let digits = take c.args.digits c.args.text.now in
    let here : 2 * c.loop-i.i + 1 < c.args.digits = omega arith in
    let inside : 2 * c.loop-i.i + 1 < length digits = omega (arith, length-take-le c.args.digits c.args.text.now c.requires.digits_in_bounds) in
    let past : c.loop-i.i ≤ 2 * c.loop-i.i + 1 = omega arith in
    rw (read_later c.loop-i.invariant.1 _ _ past here) (passes is_digit digits c.requires.text_value _ inside)

pub loop-i-preserved : goal.loop-i-preserved
loop-i-preserved c =
    let digits = take c.args.digits c.args.text.now in
    let written : List ℕ = c.loop-i.invariant.0 in
    let here : 2 * c.loop-i.i + 1 < length digits = omega (arith, length-take-le c.args.digits c.args.text.now c.requires.digits_in_bounds) in
    let first : 2 * c.loop-i.i < c.args.digits = omega arith in
    let second : 2 * c.loop-i.i + 1 < c.args.digits = omega arith in
    let past : c.loop-i.i ≤ 2 * c.loop-i.i + 1 = omega arith in
    let high = c.value_of-high.ensures.0 ∙ ap digit_value (read_later c.loop-i.invariant.1 _ _ (omega arith) first) in
    let low = c.value_of-low.ensures.0 ∙ ap digit_value (read_later c.loop-i.invariant.1 _ _ past second) in
    let next : 2 * (c.loop-i.i + 1) ≡ 2 * c.loop-i.i + 2 = omega arith in
    let byte : List ℕ = (c.value_of-high.result * 16 + c.value_of-low.result) ∷ [] in (
      written ++ byte,
      wrote_then (omega arith) c.loop-i.invariant.1 (wrote_one _ _ _ (omega arith)),
      rw next (append_assoc written byte _ ∙ (λ i. written ++ ((high i * 16 + low i) ∷ pairs_of (drop (2 * c.loop-i.i + 2) digits))) ∙ ap (λ (l : List ℕ). written ++ l) (sym (pairs_next digits _ here)) ∙ c.loop-i.invariant.2),
    )

pub returns : goal.returns
returns c =
    let digits = take c.args.digits c.args.text.now in
    let written : List ℕ = c.loop-i.invariant.0 in
    let past : length digits ≤ 2 * c.loop-i.i + 1 = omega (arith, length-take-le c.args.digits c.args.text.now c.requires.digits_in_bounds) in
    let ends : c.loop-i.i ≡ c.args.digits / 2 = omega arith in
    let all : written ≡ pairs_of digits =
    sym (append-nil written) ∙ ap (λ (l : List ℕ). written ++ l) (sym (pairs_end digits _ past)) ∙ c.loop-i.invariant.2 in
    rw (← all, ← ends) c.loop-i.invariant.1
