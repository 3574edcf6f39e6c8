-- What the code finds in bytes, step by step, and what that is in a block.
use mathlib.Core.Path.{◌≡◌, refl, sym, ap, ◌∙◌}
use mathlib.Core.Bool.{Bool, true, false}
use mathlib.Core.List.{List, [], ◌∷◌, ◌++◌, append_assoc}
use Prim.Native.Nat.{ℕ, min, ◌+◌, ◌<◌, ◌≤◌, ◌/◌, ◌%◌}
use native.Mathlib.Omega.{arith}
use borrow.Author.Tests.{ltb-true, lt-ltb, le-leb, lt-leb, eqb-true, eq-eqb, ne_eqb}
use lib.Dec.{ltb, eqb}
use lib.ListN.{length, drop, get_or, drop_of_length-le}
use Rattle.words.specs.Choice.{◌and◌, ◌or◌}
use Rattle.words.specs.Lists.{every}
use Rattle.words.proofs.Choosing.{less_or_not, then_case, else_case, either_way, both, both_hold, first_decides, first_fails, first_holds, second_decides, not_both}
use Rattle.words.proofs.Walking.{next_element}
use Rattle.words.proofs.Passing.{every_append}
use Rattle.output.specs.Decimal.{decimal, place_bytes}
use Rattle.blocks.specs.Blocks.{Entry, entry_bytes, encode}
use Rattle.blocks.specs.Lay.{same_place}
use Rattle.blocks.proofs.Decoding.{digits, plain, valid, encode_injective}
use Rattle.copy.specs.Copy.{plain_length, same_head}
use Rattle.blocks.specs.Decode.{valid_entry}

-- The end of an entry: a byte below 20 ends it, and any other is passed.
module _ (bytes : List ℕ) (end : ℕ) where
  stops_plain : end < length bytes → get_or bytes end 0 < 0x20 → plain_length (drop end bytes) ≡ 0
  unfolding plain_length
  stops_plain inside low = ap plain_length (next_element bytes end 0 inside) ∙ else_case _ _ _ (lt-leb 0x20 (get_or bytes end 0) low)

  goes_plain : end < length bytes → 0x20 ≤ get_or bytes end 0 → plain_length (drop end bytes) ≡ plain_length (drop (end + 1) bytes) + 1
  unfolding plain_length
  goes_plain inside high = ap plain_length (next_element bytes end 0 inside) ∙ then_case _ _ _ (le-leb 0x20 (get_or bytes end 0) high)

  pub ends_here : (all : ℕ) → all ≡ end + plain_length (drop end bytes) → end < length bytes → get_or bytes end 0 < 0x20 → end ≡ all
  ends_here all so_far inside low = omega (arith, stops_plain inside low)

  pub goes_on : (all : ℕ) → all ≡ end + plain_length (drop end bytes) → end < length bytes → 0x20 ≤ get_or bytes end 0 → all ≡ end + 1 + plain_length (drop (end + 1) bytes)
  goes_on all so_far inside high = omega (arith, goes_plain inside high)

  pub ends_with_bytes : (all : ℕ) → all ≡ end + plain_length (drop end bytes) → length bytes ≤ end → end ≡ all
  unfolding plain_length
  ends_with_bytes all so_far past = let none = ap plain_length (drop_of_length-le bytes past) in omega (arith, none)

-- A run of plain bytes, and what comes after it.
pub plain_then : (run after : List ℕ) → every plain run ≡ true → plain_length (run ++ after) ≡ length run + plain_length after
unfolding plain_length every
plain_then [] after h = omega arith
plain_then (byte ∷ run) after h =
    let p = both h in
    let later = plain_then run after p.1 in
    then_case _ _ _ p.0 ∙ omega arith

-- Two heads: the same byte at each place, up to f.
module _ (one other : List ℕ) (here there : ℕ) where
  heads_here : here < length one → there < length other → same_head (drop here one) (drop there other) ≡ (eqb (get_or one here 0) (get_or other there 0) and (eqb (get_or one here 0) 0x66 or same_head (drop (here + 1) one) (drop (there + 1) other)))
  unfolding same_head
  heads_here inside within = rw (next_element one here 0 inside, next_element other there 0 within)

  pub differ_here : here < length one → there < length other → (get_or one here 0 ≡ get_or other there 0 → ⊥) → same_head (drop here one) (drop there other) ≡ false
  differ_here inside within differ = heads_here inside within ∙ first_fails _ _ (ne_eqb _ _ differ)

  pub same_to_f : here < length one → there < length other → get_or one here 0 ≡ get_or other there 0 → get_or one here 0 ≡ 0x66 → same_head (drop here one) (drop there other) ≡ true
  same_to_f inside within same is_f = heads_here inside within ∙ both_hold _ _ (eq-eqb _ _ same) (first_holds _ _ (eq-eqb _ _ is_f))

  pub same_so_far : here < length one → there < length other → get_or one here 0 ≡ get_or other there 0 → (get_or one here 0 ≡ 0x66 → ⊥) → same_head (drop here one) (drop there other) ≡ same_head (drop (here + 1) one) (drop (there + 1) other)
  same_so_far inside within same no-f = heads_here inside within ∙ first_decides _ _ (eq-eqb _ _ same) ∙ second_decides _ _ (ne_eqb _ _ no-f)

  pub one_ended : length one ≤ here → same_head (drop here one) (drop there other) ≡ false
  unfolding same_head
  one_ended past = rw (drop_of_length-le one past)

  pub other_ended : here < length one → length other ≤ there → same_head (drop here one) (drop there other) ≡ false
  unfolding same_head
  other_ended inside past = rw (next_element one here 0 inside, drop_of_length-le other past)

-- Where one of the two has ended, they are not the same.
pub either_ended : (one other : List ℕ) (at : ℕ) → at ≡ min (length one) (length other) → same_head (drop at one) (drop at other) ≡ false
either_ended one other at ends =
    less_or_not at (length one)
    (λ more. other_ended one other at at more (omega arith))
    (one_ended one other at at)

-- Before f a head has bytes below 66.
abbrev before_f : ℕ → Bool
before_f byte = ltb byte 0x66

same_starts : (start one other : List ℕ) → every before_f start ≡ true → same_head (start ++ (0x66 ∷ one)) (start ++ (0x66 ∷ other)) ≡ true
unfolding same_head every ◌and◌ ◌or◌
same_starts [] one other h = refl
same_starts (byte ∷ start) one other h =
    let p = both h in
    let low : byte < 0x66 = ltb-true byte 0x66 p.0 in
    first_decides _ _ (eq-eqb byte byte refl) ∙ second_decides _ _ (ne_eqb byte 0x66 (λ e. omega arith)) ∙ same_starts start one other p.1

starts_alike : (start begin one other : List ℕ) → every before_f start ≡ true → every before_f begin ≡ true → same_head (start ++ (0x66 ∷ one)) (begin ++ (0x66 ∷ other)) ≡ true → start ≡ begin
unfolding same_head every
starts_alike [] [] one other h k same = refl
starts_alike [] (b ∷ begin) one other h k same =
    let is = eqb-true 0x66 b (both same).0 in
    let low = ltb-true b 0x66 (both k).0 in
    absurd (omega arith)
starts_alike (a ∷ start) [] one other h k same =
    let is = eqb-true a 0x66 (both same).0 in
    let low = ltb-true a 0x66 (both h).0 in
    absurd (omega arith)
starts_alike (a ∷ start) (b ∷ begin) one other h k same =
    let is = eqb-true a b (both same).0 in
    let low : a < 0x66 = ltb-true a 0x66 (both h).0 in
    let later = sym (second_decides _ _ (ne_eqb a 0x66 (λ e. omega arith))) ∙ (both same).1 in
    let rest = starts_alike start begin one other (both h).1 (both k).1 later in
    λ i. is i ∷ rest i

-- A head without its f.
head_start : ℕ → ℕ → List ℕ
head_start row column = 0x1B ∷ 0x5B ∷ (decimal row ++ (0x3B ∷ decimal column))

low_decimal : (number : ℕ) → number < 1000 → every before_f (decimal number) ≡ true
unfolding every
low_decimal number small =
    digits (λ (bytes : List ℕ). every before_f bytes ≡ true) number
    (λ h. both_hold _ _ (lt-ltb (0x30 + number) 0x66 (omega arith)) refl)
    (λ h. both_hold _ _ (lt-ltb (0x30 + number / 10) 0x66 (omega arith)) (both_hold _ _ (lt-ltb (0x30 + number % 10) 0x66 (omega arith)) refl))
    (both_hold _ _ (lt-ltb (0x30 + number / 100) 0x66 (omega arith)) (both_hold _ _ (lt-ltb (0x30 + number / 10 % 10) 0x66 (omega arith)) (both_hold _ _ (lt-ltb (0x30 + number % 10) 0x66 (omega arith)) refl)))

low_start : (row column : ℕ) → row < 1000 → column < 1000 → every before_f (head_start row column) ≡ true
unfolding head_start every ◌and◌
low_start row column a b = every_append before_f (decimal row) (0x3B ∷ decimal column) (low_decimal row a) (low_decimal column b)

head_then_f : (entry : Entry) (after : List ℕ) → entry_bytes entry ++ after ≡ head_start entry.row entry.column ++ (0x66 ∷ (entry.characters ++ after))
unfolding entry_bytes place_bytes head_start
head_then_f entry after = simp append_assoc

-- A head tells its row and column.
abbrev bare : Entry → Entry
bare entry = record { row = entry.row; column = entry.column; characters = [] }

heads_tell : (a b : Entry) → valid_entry a ≡ true → valid_entry b ≡ true → head_start a.row a.column ≡ head_start b.row b.column → bare a ≡ bare b
unfolding encode every valid_entry
heads_tell a b p q same =
    let blank : (entry : Entry) → valid_entry entry ≡ true → every valid_entry (bare entry ∷ []) ≡ true =
    λ entry h. both_hold _ _ (both_hold _ _ (both h).0 (both_hold _ _ (both (both h).1).0 refl)) refl in
    let encoded : encode (bare a ∷ []) ≡ encode (bare b ∷ []) =
    head_then_f (bare a) (0x03 ∷ []) ∙ ap (λ (start : List ℕ). start ++ (0x66 ∷ 0x03 ∷ [])) same ∙ sym (head_then_f (bare b) (0x03 ∷ [])) in
    let entries = encode_injective (bare a ∷ []) (bare b ∷ []) (blank a p) (blank b q) encoded in
    cc

-- So entries have the same head exactly where they are of one place.
pub same_head_is : (a b : Entry) (after beyond : List ℕ) → valid_entry a ≡ true → valid_entry b ≡ true → same_head (entry_bytes a ++ after) (entry_bytes b ++ beyond) ≡ same_place a b
unfolding same_place
same_head_is a b after beyond p q =
    let v = valid a p in
    let w = valid b q in
    let start = head_start a.row a.column in
    let begin = head_start b.row b.column in
    rw (head_then_f a after, head_then_f b beyond)
    (either_way (same_place a b)
    (λ one_place.
    let row = eqb-true _ _ (both one_place).0 in
    let column = eqb-true _ _ (both one_place).1 in
    let same : start ≡ begin = λ i. head_start (row i) (column i) in
    rw (same) (same_starts begin _ _ (low_start b.row b.column w.row w.column)) ∙ sym one_place)
    (λ apart.
    either_way (same_head (start ++ (0x66 ∷ (a.characters ++ after))) (begin ++ (0x66 ∷ (b.characters ++ beyond))))
    (λ same.
    let alike = heads_tell a b p q (starts_alike start begin _ _ (low_start a.row a.column v.row v.column) (low_start b.row b.column w.row w.column) same) in
    absurd (not_both (both_hold _ _ (eq-eqb _ _ (ap (λ (e : Entry). e.row) alike)) (eq-eqb _ _ (ap (λ (e : Entry). e.column) alike))) apart))
    (λ differ. differ ∙ sym apart)))
