-- A half-read record is out of range, in document 01's words, exactly where the test that the code runs fails.
use mathlib.Core.Path.{◌≡◌, refl}
use mathlib.Core.Bool.{Bool, true, false}
use mathlib.Core.List.{List, [], ◌∷◌}
use mathlib.Core.Logic.{⊎_elim, ◌↔◌}
use Prim.Native.Nat.{ℕ, zero, suc, ◌+◌, ◌<◌, ◌≤◌}
use native.Mathlib.Omega.{arith}
use borrow.Author.Tests.{ltb-true, ltb-false, leb-true, leb-false, eqb-true, eqb-false}
use lib.Dec.{ltb, leb, eqb}
use lib.ListN.{get_or}
use Rattle.words.specs.Choice.{◌and◌, ◌is◌to◌}
use Rattle.words.proofs.Choosing.{true_is_not_false, either_line, both, one_fails, range_fails, refuted, le_or_lt, not_both}
use Rattle.sequence.specs.declared.HalfRead.{HalfRead}
use Rattle.sequence.specs.Record.{largest_argument, arguments_fit, valid_half_read}
use Rattle.sequence.proofs.Cases.{one_of_five}
use Rattle.sequence.proofs.Keeping.{arguments_counted, eight_at_most}
use Rattle.sequence.specs.Range.{argument_of, HalfReadOutOfRange, no_such_kind, count_unused, argument_unused, spoilt_unused, no_argument, more_than_eight, more_than_one, argument_not_begun, argument_above_9999, argument_not_reached, spoilt_not_one, spoilt_not_0}

-- The largest that an argument may be, as a bound: at most 9,999, and 0 where it isn't reached.
largest_at_most : (i reached : ℕ) → largest_argument i reached ≤ 9999
unfolding largest_argument
largest_at_most i reached = either_line (λ (n : ℕ). n ≤ 9999) (ltb i reached) 9999 0 (λ _. omega arith) (λ _. omega arith)

largest_not_reached : (i reached : ℕ) → reached ≤ i → largest_argument i reached ≡ 0
unfolding largest_argument
largest_not_reached i reached h =
    either_line (λ (n : ℕ). n ≡ 0) (ltb i reached) 9999 0 (λ t. let low = ltb-true i reached t in absurd (omega arith)) (λ _. refl)

-- Arguments that fit: each is small enough. Past the list's end there is 0.
each_fits : (reached i : ℕ) (arguments : List ℕ) → arguments_fit reached i arguments ≡ true → (k : ℕ) → get_or arguments k 0 ≤ largest_argument (i + k) reached
unfolding arguments_fit
each_fits reached i [] p k = omega arith
each_fits reached i (argument ∷ rest) p zero =
    let here : i + 0 ≡ i = omega arith in
    rw here (leb-true _ _ (both p).0)
each_fits reached i (argument ∷ rest) p (suc k) =
    let next : i + suc k ≡ i + 1 + k = omega arith in
    rw next (each_fits reached (i + 1) rest (both p).1 k)

-- Where they don't all fit, one is too large.
one_too_large : (reached i : ℕ) (arguments : List ℕ) → arguments_fit reached i arguments ≡ false → (k : ℕ) × (largest_argument (i + k) reached < get_or arguments k 0)
unfolding arguments_fit
one_too_large reached i [] p = absurd (true_is_not_false p)
one_too_large reached i (argument ∷ rest) p =
    ⊎_elim
    (λ q. let here : i + 0 ≡ i = omega arith in (0, rw here (leb-false _ _ q)))
    (λ q.
    let later = one_too_large reached (i + 1) rest q in
    let next : i + suc later.0 ≡ i + 1 + later.0 = omega arith in
    (suc later.0, rw next later.1))
    (one_fails p)

-- The test fails: a clause holds.
module _ (half : HalfRead) where
  spoilt_out : half.spoilt ≡ true → (eqb half.kind 3 and eqb half.count 1 and arguments_fit 0 0 half.arguments) ≡ false → HalfReadOutOfRange half
  spoilt_out s p =
      ⊎_elim
      (λ q. spoilt_unused (eqb-false _ _ q) s)
      (λ q. ⊎_elim
      (λ r. spoilt_not_one s (eqb-false _ _ r))
      (λ r. let found = one_too_large 0 0 half.arguments r in spoilt_not_0 s found.0 (λ e. omega arith))
      (one_fails q))
      (one_fails p)

  -- The argument that is too large is above 9,999, or isn't reached.
  argument_out : arguments_fit half.count 0 half.arguments ≡ false → HalfReadOutOfRange half
  unfolding largest_argument
  argument_out p =
      let found = one_too_large half.count 0 half.arguments p in
      either_line (λ (most : ℕ). most < argument_of half found.0 → HalfReadOutOfRange half) (ltb (0 + found.0) half.count) 9999 0
      (λ _ h. argument_above_9999 found.0 h)
      (λ t h. let past = ltb-false (0 + found.0) half.count t in argument_not_reached found.0 (omega arith) (λ e. omega arith))
      found.1

  bracket_out : half.kind ≡ 3 → (half.count is 1 to 8 and arguments_fit half.count 0 half.arguments) ≡ false → HalfReadOutOfRange half
  bracket_out k p =
      ⊎_elim
      (λ q. ⊎_elim (no_argument (omega arith)) (more_than_eight k) (range_fails _ _ _ q))
      argument_out
      (one_fails p)

  -- Where one argument is reached, not none or more.
  count_out : 4 ≤ half.kind → (half.count ≡ 1 → ⊥) → HalfReadOutOfRange half
  count_out high other = ⊎_elim (λ none. no_argument (omega arith) (omega arith)) (λ some. more_than_one high (above_1 half.count some other)) (le_or_lt half.count 0)
    where
      above_1 : (n : ℕ) → 0 < n → (n ≡ 1 → ⊥) → 1 < n
      above_1 n h not_1 = ⊎_elim (λ low. absurd (not_1 (omega arith))) (λ high. high) (le_or_lt n 1)

  alone_out : half.kind ≡ 4 → (eqb half.count 1 and arguments_fit 0 0 half.arguments) ≡ false → HalfReadOutOfRange half
  alone_out k p =
      ⊎_elim
      (λ q. count_out (omega arith) (eqb-false _ _ q))
      (λ q. let found = one_too_large 0 0 half.arguments q in argument_not_begun k found.0 (λ e. omega arith))
      (one_fails p)

  private_out : half.kind ≡ 5 → (eqb half.count 1 and arguments_fit half.count 0 half.arguments) ≡ false → HalfReadOutOfRange half
  private_out k p = ⊎_elim (λ q. count_out (omega arith) (eqb-false _ _ q)) argument_out (one_fails p)

  bare_out : (half.kind ≡ 3 → ⊥) → (half.kind ≡ 4 → ⊥) → (half.kind ≡ 5 → ⊥) → (leb half.kind 2 and eqb half.count 0 and arguments_fit 0 0 half.arguments) ≡ false → HalfReadOutOfRange half
  bare_out not-3 not_4 not_5 p =
      ⊎_elim
      (λ low. ⊎_elim
      (λ q. let high = leb-false half.kind 2 q in absurd (omega arith))
      (λ q. ⊎_elim
      (λ r. count_unused (omega arith) (eqb-false _ _ r))
      (λ r. let found = one_too_large 0 0 half.arguments r in argument_unused (omega arith) found.0 (λ e. omega arith))
      (one_fails q))
      (one_fails p))
      (λ high. no_such_kind (past_5 half.kind high not-3 not_4 not_5))
      (le_or_lt half.kind 2)
    where
      past_5 : (n : ℕ) → 2 < n → (n ≡ 3 → ⊥) → (n ≡ 4 → ⊥) → (n ≡ 5 → ⊥) → 5 < n
      past_5 n h n3 n4 n5 =
          ⊎_elim (λ low. absurd (n3 (omega arith)))
          (λ a. ⊎_elim (λ low. absurd (n4 (omega arith)))
          (λ b. ⊎_elim (λ low. absurd (n5 (omega arith))) (λ c. c) (le_or_lt n 5)) (le_or_lt n 4)) (le_or_lt n 3)

  out_holds : valid_half_read half ≡ false → HalfReadOutOfRange half
  unfolding valid_half_read
  out_holds =
      either_line (λ (t : Bool). t ≡ false → HalfReadOutOfRange half) half.spoilt _ _ spoilt_out
      (λ _. either_line (λ (t : Bool). t ≡ false → HalfReadOutOfRange half) (eqb half.kind 3) _ _
      (λ k. bracket_out (eqb-true _ _ k))
      (λ k. either_line (λ (t : Bool). t ≡ false → HalfReadOutOfRange half) (eqb half.kind 4) _ _
      (λ l. alone_out (eqb-true _ _ l))
      (λ l. either_line (λ (t : Bool). t ≡ false → HalfReadOutOfRange half) (eqb half.kind 5) _ _
      (λ m. private_out (eqb-true _ _ m))
      (λ m. bare_out (eqb-false _ _ k) (eqb-false _ _ l) (eqb-false _ _ m)))))

-- The test holds: no clause does.
module _ (half : HalfRead) (v : valid_half_read half ≡ true) where
  all_0 : arguments_fit 0 0 half.arguments ≡ true → (i : ℕ) → argument_of half i ≡ 0
  all_0 p i =
      let most = each_fits 0 0 half.arguments p i in
      let none = largest_not_reached (0 + i) 0 (omega arith) in
      omega arith

  -- What that says of each part.
  kind_known : half.kind ≤ 5
  kind_known = one_of_five half v (λ k c f. omega arith) (λ s k l m f. omega arith) (λ s k c f. omega arith) (λ s k c f. omega arith) (λ s k c f. omega arith)

  counts_none : half.kind < 3 → half.count ≡ 0
  counts_none low = one_of_five half v (λ k c f. absurd (omega arith)) (λ s k l m f. absurd (omega arith)) (λ s k c f. absurd (omega arith)) (λ s k c f. absurd (omega arith)) (λ s k c f. c)

  uses_none : half.kind < 3 → (i : ℕ) → argument_of half i ≡ 0
  uses_none low = one_of_five half v (λ k c f. absurd (omega arith)) (λ s k l m f. absurd (omega arith)) (λ s k c f. absurd (omega arith)) (λ s k c f. absurd (omega arith)) (λ s k c f. all_0 f)

  counts_one : 4 ≤ half.kind → half.count ≡ 1
  counts_one high = one_of_five half v (λ k c f. c) (λ s k l m f. absurd (omega arith)) (λ s k c f. c) (λ s k c f. c) (λ s k c f. absurd (omega arith))

  begins_with_0 : half.kind ≡ 4 → (i : ℕ) → argument_of half i ≡ 0
  begins_with_0 four = one_of_five half v (λ k c f. all_0 f) (λ s k l m f. absurd (omega arith)) (λ s k c f. all_0 f) (λ s k c f. absurd (omega arith)) (λ s k c f. all_0 f)

  unspoilt : (half.kind ≡ 3 → ⊥) → half.spoilt ≡ false
  unspoilt other = one_of_five half v (λ k c f. absurd (other k)) (λ s k l m f. s) (λ s k c f. s) (λ s k c f. s) (λ s k c f. s)

  argument_small : (i : ℕ) → argument_of half i ≤ largest_argument i half.count
  argument_small i = one_of_five half v (λ k c f. nothing f) (λ s k l m f. fits f) (λ s k c f. nothing f) (λ s k c f. fits f) (λ s k c f. nothing f)
    where
      nothing : arguments_fit 0 0 half.arguments ≡ true → argument_of half i ≤ largest_argument i half.count
      nothing f = let none = all_0 f i in omega arith

      fits : arguments_fit half.count 0 half.arguments ≡ true → argument_of half i ≤ largest_argument i half.count
      fits f = let here : 0 + i ≡ i = omega arith in rw here at (each_fits half.count 0 half.arguments f i)

  spoilt_one : half.spoilt ≡ true → half.count ≡ 1
  spoilt_one t = one_of_five half v (λ k c f. c) (λ s k l m f. absurd (not_both t s)) (λ s k c f. c) (λ s k c f. c) (λ s k c f. absurd (not_both t s))

  spoilt_0 : half.spoilt ≡ true → (i : ℕ) → argument_of half i ≡ 0
  spoilt_0 t = one_of_five half v (λ k c f. all_0 f) (λ s k l m f. absurd (not_both t s)) (λ s k c f. all_0 f) (λ s k c f. absurd (not_both t s)) (λ s k c f. all_0 f)

  not_out : HalfReadOutOfRange half → ⊥
  not_out (no_such_kind high) = omega (arith, kind_known)
  not_out (count_unused low some) = some (counts_none low)
  not_out (argument_unused low i some) = some (uses_none low i)
  not_out (no_argument high none) = omega (arith, (arguments_counted half v high).0)
  not_out (more_than_eight three more) = omega (arith, eight_at_most half v)
  not_out (more_than_one high more) = omega (arith, counts_one high)
  not_out (argument_not_begun four i some) = some (begins_with_0 four i)
  not_out (argument_above_9999 i high) = omega (arith, argument_small i, largest_at_most i half.count)
  not_out (argument_not_reached i past some) = some (omega (arith, argument_small i, largest_not_reached i half.count past))
  not_out (spoilt_unused other t) = not_both t (unspoilt other)
  not_out (spoilt_not_one t other) = other (spoilt_one t)
  not_out (spoilt_not_0 t i some) = some (spoilt_0 t i)

pub out_of_range : (half : HalfRead) → (valid_half_read half ≡ false) ↔ HalfReadOutOfRange half
out_of_range half = (out_holds half, λ out. refuted _ (λ v. not_out half v out))
