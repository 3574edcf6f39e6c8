-- Laws of the lists that are written element by element, in the loops' own terms.
use mathlib.Core.Path.{◌≡◌, refl, sym, ◌∙◌}
use mathlib.Core.List.{List, [], ◌∷◌, ◌++◌, append-nil, append_assoc, flat_map}
use Prim.Native.Nat.{ℕ, ◌+◌, ◌*◌, ◌<◌, ◌≤◌}
use native.Mathlib.Nat.{zero-mul, suc-mul, mul-le-mul_right}
use native.Mathlib.Numerals.{add-one}
use native.Mathlib.Omega.{arith}
use lib.ListN.{length, take, get_or, length-append}
use lib.Seq.{take-suc, take_all, length-take-le}
use Rattle.words.specs.Output.{Wrote}
use Rattle.words.proofs.Output.{wrote_none, wrote_then}

module _ {A : Type 0} (f : A → List ℕ) where
  pub flat_append : (a b : List A) → flat_map f (a ++ b) ≡ flat_map f a ++ flat_map f b
  unfolding flat_map
  flat_append [] b = refl
  flat_append (x ∷ a) b = rw (flat_append a b, append_assoc)

  pub flat_length : (width : ℕ) → ((x : A) → length (f x) ≡ width) → (list : List A) → length (flat_map f list) ≡ length list * width
  unfolding flat_map
  flat_length width each [] = sym (zero-mul width)
  flat_length width each (x ∷ list) =
      rw (length-append (f x) (flat_map f list), each x, flat_length width each list, suc-mul (length list) width) (omega arith)

-- A loop that writes each element of a list in its turn and has come to i.
abbrev pub Walked : {A : Type 0} → (A → List ℕ) → List A → ℕ → List ℕ → ℕ → ℕ → List ℕ → Type 0
Walked f list at before i next text =
    (i ≤ length list) × (length text ≡ length before) × Wrote at (flat_map f (take i list)) before next text

module _ {A : Type 0} (f : A → List ℕ) (list : List A) {at : ℕ} {before : List ℕ} where
  pub walk_starts : Walked f list at before 0 at before
  unfolding flat_map
  walk_starts = (omega arith, refl, wrote_none at before)

  pub walk_goes_on : {i next : ℕ} {text : List ℕ} (other : A) {end : ℕ} {after : List ℕ} → Walked f list at before i next text → i < length list → at ≤ length before → length after ≡ length before → Wrote next (f (get_or list i other)) text end after → Walked f list at before (i + 1) end after
  unfolding flat_map
  walk_goes_on {i} other so_far h room same wrote =
      let one = append-nil (f (get_or list i other)) in
      let longer : flat_map f (take i list) ++ f (get_or list i other) ≡ flat_map f (take (i + 1) list) =
      sym (rw (add-one i, take-suc list i other h, flat_append f (take i list) (get_or list i other ∷ []), one)) in
      (omega arith, same, rw longer at (wrote_then room so_far.2 wrote))

  pub walk_ends : {i next : ℕ} {text : List ℕ} → Walked f list at before i next text → length list ≤ i → Wrote at (flat_map f list) before next text
  walk_ends {i} so_far h = rw (take_all i list h) at so_far.2

  -- where the walk has come to in the text
  pub walk_reached : {i next : ℕ} {text : List ℕ} (width : ℕ) → ((x : A) → length (f x) ≡ width) → Walked f list at before i next text → next ≡ at + i * width
  walk_reached {i} width each so_far =
      so_far.2.next_is ∙ rw (flat_length f width each (take i list), length-take-le i list so_far.0)

  -- the next element fits where all of them do
  pub walk_fits : {i next : ℕ} {text : List ℕ} (width : ℕ) → ((x : A) → length (f x) ≡ width) → Walked f list at before i next text → i < length list → at + length list * width ≤ length before → next + width ≤ length text
  walk_fits {i} width each so_far h fits =
      let more : (i + 1) * width ≡ i * width + width = rw (add-one i, suc-mul i width) in
      let fewer : i + 1 ≤ length list = omega arith in
      omega (arith, more, mul-le-mul_right width fewer, so_far.1, walk_reached width each so_far)
