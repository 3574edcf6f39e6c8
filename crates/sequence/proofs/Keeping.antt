-- `advance` keeps the half-read record valid. Each proof follows the lines of the definition it speaks of.
use mathlib.Core.Path.{◌≡◌, refl, sym, ◌∙◌}
use mathlib.Core.List.{List, [], ◌∷◌}
use mathlib.Core.Bool.{true, false}
use mathlib.Core.Logic.{◌⊎◌, inl, inr, ⊎_elim}
use Prim.Native.Nat.{ℕ, zero, suc, ◌+◌, ◌-◌, ◌*◌, ◌≤◌}
use native.Mathlib.Nat.{add-zero}
use native.Mathlib.Omega.{arith}
use borrow.Author.Tests.{lt-ltb, le-leb, eq-eqb, ne_eqb, ltb-true, ltb-false, leb-true, leb-false, eqb-true, eqb-false}
use lib.Dec.{ltb, leb, eqb}
use lib.ListN.{set}
use Rattle.words.specs.Choice.{If◌then◌else◌, ◌and◌, ◌is◌to◌}
use Rattle.words.proofs.Choosing.{then_case, else_case, either_line, both, both_hold, range_holds, range_is}
use Rattle.sequence.specs.declared.HalfRead.{HalfRead}
use Rattle.sequence.specs.declared.Advanced.{Advanced}
use Rattle.sequence.specs.Record.{nothing_read, esc_read, intermediate_read, argument_read, bracket_read, private_mark_read, spoilt_read, largest_argument, arguments_fit, valid_half_read, last_argument, with_last_argument, with_digit, with_next_argument}
use Rattle.sequence.specs.Reading.{outside_sequence, after_esc, after_intermediate, after_bracket, right_after_bracket, after_private_mark, sequence_read_on, inside_sequence, advance_of}
use Rattle.sequence.proofs.Cases.{one_of_five}

abbrev Valid : HalfRead → Type 0
Valid half = valid_half_read half ≡ true

-- one of none of the first three kinds has one to eight arguments, spoilt or not
pub arguments_counted : (half : HalfRead) → valid_half_read half ≡ true → 3 ≤ half.kind → (1 ≤ half.count) × (half.count ≤ 8)
arguments_counted half v high =
    one_of_five half v
    (λ k c f. (omega arith, omega arith))
    (λ s k l m f. (l, m))
    (λ s k c f. (omega arith, omega arith))
    (λ s k c f. (omega arith, omega arith))
    (λ s k c f. absurd (omega arith))

-- no valid record has more than eight arguments
pub eight_at_most : (half : HalfRead) → valid_half_read half ≡ true → half.count ≤ 8
eight_at_most half v =
    one_of_five half v (λ k c f. omega arith) (λ s k l m f. m) (λ s k c f. omega arith) (λ s k c f. omega arith) (λ s k c f. omega arith)

-- a kind that is none of these is above them
pub past_2 : (kind : ℕ) → (kind ≡ 0 → ⊥) → (kind ≡ 1 → ⊥) → (kind ≡ 2 → ⊥) → 3 ≤ kind
past_2 zero not-0 not_1 not_2 = absurd (not-0 refl)
past_2 (suc zero) not-0 not_1 not_2 = absurd (not_1 refl)
past_2 (suc (suc zero)) not-0 not_1 not_2 = absurd (not_2 refl)
past_2 (suc (suc (suc kind))) not-0 not_1 not_2 = omega arith

pub is_bracket : (half : HalfRead) → Valid half → 3 ≤ half.kind → (half.kind ≡ 4 → ⊥) → (half.kind ≡ 5 → ⊥) → half.kind ≡ 3
is_bracket half v high not_4 not_5 =
    one_of_five half v (λ k c f. k) (λ s k l m f. k) (λ s k c f. absurd (not_4 k)) (λ s k c f. absurd (not_5 k)) (λ s k c f. absurd (omega arith))

-- a fitting value in place of an argument; one more argument reached
set_fits : (reached i k value : ℕ) (arguments : List ℕ) → value ≤ largest_argument (i + k) reached → arguments_fit reached i arguments ≡ true → arguments_fit reached i (set arguments k value) ≡ true
unfolding arguments_fit
set_fits reached i k value [] h p = p
set_fits reached i zero value (argument ∷ rest) h p = both_hold _ _ (le-leb _ _ (rw add-zero at h)) (both p).1
set_fits reached i (suc k) value (argument ∷ rest) h p =
    let next : i + suc k ≡ i + 1 + k = omega arith in
    both_hold _ _ (both p).0 (set_fits reached (i + 1) k value rest (rw next at h) (both p).1)

largest_grows : (reached i : ℕ) → largest_argument i reached ≤ largest_argument i (reached + 1)
unfolding largest_argument
largest_grows reached i =
    either_line (λ (n : ℕ). n ≤ largest_argument i (reached + 1)) (ltb i reached) 9999 0
    (λ t.
    let low = ltb-true i reached t in
    rw (then_case {A = ℕ} (ltb i (reached + 1)) 9999 0 (lt-ltb i (reached + 1) (omega arith))) (omega arith))
    (λ _. omega arith)

more_fit : (reached i : ℕ) (arguments : List ℕ) → arguments_fit reached i arguments ≡ true → arguments_fit (reached + 1) i arguments ≡ true
unfolding arguments_fit
more_fit reached i [] p = p
more_fit reached i (argument ∷ rest) p =
    let now = leb-true argument (largest_argument i reached) (both p).0 in
    let grown = largest_grows reached i in
    both_hold _ _ (le-leb argument (largest_argument i (reached + 1)) (omega arith)) (more_fit reached (i + 1) rest (both p).1)

-- the records that the rules name
pub nothing_valid : valid_half_read nothing_read ≡ true
unfolding valid_half_read If◌then◌else◌ ◌and◌ arguments_fit largest_argument
nothing_valid = refl

esc_valid : Valid esc_read
unfolding valid_half_read If◌then◌else◌ ◌and◌ arguments_fit largest_argument
esc_valid = refl

intermediate_valid : Valid intermediate_read
unfolding valid_half_read If◌then◌else◌ ◌and◌ arguments_fit largest_argument
intermediate_valid = refl

argument_valid : Valid argument_read
unfolding valid_half_read If◌then◌else◌ ◌and◌ ◌is◌to◌ arguments_fit largest_argument
argument_valid = refl

bracket_valid : Valid bracket_read
unfolding valid_half_read If◌then◌else◌ ◌and◌ arguments_fit largest_argument
bracket_valid = refl

private_mark_valid : Valid private_mark_read
unfolding valid_half_read If◌then◌else◌ ◌and◌ arguments_fit largest_argument
private_mark_valid = refl

spoilt_valid : Valid spoilt_read
unfolding valid_half_read If◌then◌else◌ ◌and◌ arguments_fit largest_argument
spoilt_valid = refl

-- after ESC [ and more, and after ESC [ >, not spoilt
open_is : (half : HalfRead) → half.kind ≡ 3 → half.spoilt ≡ false → valid_half_read half ≡ (half.count is 1 to 8 and arguments_fit half.count 0 half.arguments)
unfolding valid_half_read
open_is half k s = else_case _ _ _ s ∙ then_case _ _ _ (eq-eqb _ _ k)

private_is : (half : HalfRead) → half.kind ≡ 5 → half.spoilt ≡ false → valid_half_read half ≡ (eqb half.count 1 and arguments_fit half.count 0 half.arguments)
unfolding valid_half_read
private_is half k s =
    else_case _ _ _ s
    ∙ else_case _ _ _ (ne_eqb _ _ (λ (three : half.kind ≡ 3). omega arith))
    ∙ else_case _ _ _ (ne_eqb _ _ (λ (four : half.kind ≡ 4). omega arith))
    ∙ then_case _ _ _ (eq-eqb _ _ k)

last_fits : (count value : ℕ) → 1 ≤ count → value ≤ 9999 → value ≤ largest_argument (0 + (count - 1)) count
unfolding largest_argument
last_fits count value counted small =
    rw (then_case {A = ℕ} (ltb (0 + (count - 1)) count) 9999 0 (lt-ltb (0 + (count - 1)) count (omega arith))) small

-- a digit fits, or it spoils
digit_keeps : (half : HalfRead) (digit : ℕ) → ((half.kind ≡ 3) ⊎ (half.kind ≡ 5)) → Valid half → Valid (with_digit half digit)
unfolding with_digit
digit_keeps half digit kind v =
    either_line Valid half.spoilt _ _
    (λ _. v)
    (λ s. either_line Valid (ltb 9999 (last_argument half * 10 + digit)) _ _
    (λ _. spoilt_valid)
    (λ small. ⊎_elim (bracket s (ltb-false _ _ small)) (private s (ltb-false _ _ small)) kind))
  where
    value : ℕ
    value = last_argument half * 10 + digit

    still_fits : value ≤ 9999 → 1 ≤ half.count → arguments_fit half.count 0 half.arguments ≡ true → arguments_fit half.count 0 (set half.arguments (half.count - 1) value) ≡ true
    still_fits small counted was = set_fits half.count 0 (half.count - 1) value half.arguments (last_fits half.count value counted small) was

    bracket : half.spoilt ≡ false → value ≤ 9999 → half.kind ≡ 3 → Valid (with_last_argument half value)
    bracket s small k =
        let was = both (sym (open_is half k s) ∙ v) in
        open_is (with_last_argument half value) k s ∙ both_hold _ _ was.0 (still_fits small (range_holds _ _ _ was.0).0 was.1)

    private : half.spoilt ≡ false → value ≤ 9999 → half.kind ≡ 5 → Valid (with_last_argument half value)
    private s small k =
        let was = both (sym (private_is half k s) ∙ v) in
        let one = eqb-true half.count 1 was.0 in
        private_is (with_last_argument half value) k s ∙ both_hold _ _ was.0 (still_fits small (omega arith) was.1)

next_keeps : (half : HalfRead) → half.kind ≡ 3 → Valid half → Valid (with_next_argument half)
unfolding with_next_argument
next_keeps half k v =
    either_line Valid half.spoilt _ _
    (λ _. v)
    (λ s. either_line Valid (leb 8 half.count) _ _
    (λ _. spoilt_valid)
    (λ room.
    let was = both (sym (open_is half k s) ∙ v) in
    let counted = range_holds _ _ _ was.0 in
    let low = leb-false 8 half.count room in
    open_is _ k s ∙ both_hold _ _ (range_is (half.count + 1) 1 8 (omega arith) (omega arith)) (more_fit half.count 0 half.arguments was.1)))

-- the rules in turn
abbrev LeavesValid : Advanced → Type 0
LeavesValid advanced = Valid advanced.half

outside_keeps : (byte : ℕ) → LeavesValid (outside_sequence byte)
unfolding outside_sequence
outside_keeps byte =
    either_line LeavesValid _ _ _ (λ _. nothing_valid)
    (λ _. either_line LeavesValid _ _ _ (λ _. nothing_valid)
    (λ _. either_line LeavesValid _ _ _ (λ _. esc_valid)
    (λ _. either_line LeavesValid _ _ _ (λ _. nothing_valid) (λ _. nothing_valid))))

after_esc_keeps : (byte : ℕ) → LeavesValid (after_esc byte)
unfolding after_esc
after_esc_keeps byte =
    either_line LeavesValid _ _ _ (λ _. intermediate_valid)
    (λ _. either_line LeavesValid _ _ _ (λ _. bracket_valid) (λ _. nothing_valid))

after_intermediate_keeps : (byte : ℕ) → LeavesValid (after_intermediate byte)
unfolding after_intermediate
after_intermediate_keeps byte = either_line LeavesValid _ _ _ (λ _. intermediate_valid) (λ _. nothing_valid)

after_bracket_keeps : (half : HalfRead) (byte : ℕ) → half.kind ≡ 3 → Valid half → LeavesValid (after_bracket half byte)
unfolding after_bracket
after_bracket_keeps half byte k v =
    either_line LeavesValid _ _ _ (λ _. digit_keeps half (byte - 0x30) (inl k) v)
    (λ _. either_line LeavesValid _ _ _ (λ _. next_keeps half k v)
    (λ _. either_line LeavesValid _ _ _ (λ _. spoilt_valid)
    (λ _. either_line LeavesValid _ _ _ (λ _. nothing_valid) (λ _. nothing_valid))))

right_after_bracket_keeps : (byte : ℕ) → LeavesValid (right_after_bracket byte)
unfolding right_after_bracket
right_after_bracket_keeps byte =
    either_line LeavesValid _ _ _ (λ _. private_mark_valid) (λ _. after_bracket_keeps argument_read byte refl argument_valid)

after_private_mark_keeps : (half : HalfRead) (byte : ℕ) → half.kind ≡ 5 → Valid half → LeavesValid (after_private_mark half byte)
unfolding after_private_mark
after_private_mark_keeps half byte k v =
    either_line LeavesValid _ _ _ (λ _. digit_keeps half (byte - 0x30) (inr k) v)
    (λ _. either_line LeavesValid _ _ _ (λ _. spoilt_valid) (λ _. nothing_valid))

read_on_keeps : (half : HalfRead) (byte : ℕ) → Valid half → (half.kind ≡ 0 → ⊥) → LeavesValid (sequence_read_on half byte)
unfolding sequence_read_on
read_on_keeps half byte v not_None =
    either_line LeavesValid _ _ _ (λ _. after_esc_keeps byte)
    (λ not-esc. either_line LeavesValid _ _ _ (λ _. after_intermediate_keeps byte)
    (λ not-intermediate. either_line LeavesValid _ _ _ (λ _. right_after_bracket_keeps byte)
    (λ not-alone. either_line LeavesValid _ _ _ (λ k. after_private_mark_keeps half byte (eqb-true _ _ k) v)
    (λ not-private.
    let high = past_2 half.kind not_None (eqb-false _ _ not-esc) (eqb-false _ _ not-intermediate) in
    after_bracket_keeps half byte (is_bracket half v high (eqb-false _ _ not-alone) (eqb-false _ _ not-private)) v))))

inside_keeps : (half : HalfRead) (byte : ℕ) → Valid half → (half.kind ≡ 0 → ⊥) → LeavesValid (inside_sequence half byte)
unfolding inside_sequence
inside_keeps half byte v not_None =
    either_line LeavesValid _ _ _ (λ _. nothing_valid)
    (λ _. either_line LeavesValid _ _ _ (λ _. esc_valid)
    (λ _. either_line LeavesValid _ _ _ (λ _. read_on_keeps half byte v not_None)
    (λ _. either_line LeavesValid _ _ _ (λ _. nothing_valid) (λ _. nothing_valid))))

pub advance_keeps : (half : HalfRead) (byte : ℕ) → valid_half_read half ≡ true → valid_half_read (advance_of half byte).half ≡ true
unfolding advance_of
advance_keeps half byte v =
    either_line LeavesValid _ _ _ (λ _. outside_keeps byte)
    (λ not_None. inside_keeps half byte v (eqb-false _ _ not_None))
