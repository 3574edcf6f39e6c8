-- Laws of writing into a lent output: writes that follow each other are one write of the joined bytes.
use mathlib.Core.Path.{◌≡◌, refl, sym, ap, ◌∙◌}
use mathlib.Core.List.{List, [], ◌∷◌, ◌++◌, append_assoc}
use Prim.Native.Nat.{ℕ, ◌+◌, ◌<◌, ◌≤◌}
use native.Mathlib.Nat.{add-zero}
use native.Mathlib.Numerals.{add-one}
use native.Mathlib.Omega.{arith}
use lib.ListN.{length, take, drop, set, length-append, length-take, length-drop, take-append-drop}
use lib.Seq.{set_split, take_at, drop_at, drop-drop, length-take-le}
use Rattle.words.specs.Output.{placed, Wrote}

placed_twice : (at : ℕ) (first second list : List ℕ) → at ≤ length list → placed (at + length first) second (placed at first list) ≡ placed at (first ++ second) list
unfolding placed
placed_twice at first second list h =
    let rest : List ℕ = drop (at + length first) list in
    let regrouped : take at list ++ (first ++ rest) ≡ (take at list ++ first) ++ rest = sym (append_assoc (take at list) first rest) in
    let up_to : length (take at list ++ first) ≡ at + length first =
    length-append (take at list) first ∙ ap (λ (k : ℕ). k + length first) (length-take-le at list h) in
    let before : take (at + length first) (take at list ++ (first ++ rest)) ≡ take at list ++ first =
    ap (take (at + length first)) regrouped ∙ take_at (take at list ++ first) rest (at + length first) up_to in
    let ends : at + length first + length second ≡ at + length (first ++ second) = simp length-append (omega arith) in
    let after : drop (at + length first + length second) (take at list ++ (first ++ rest)) ≡ drop (at + length (first ++ second)) list =
    sym (drop-drop (length second) (at + length first) (take at list ++ (first ++ rest)))
    ∙ ap (drop (length second)) (ap (drop (at + length first)) regrouped ∙ drop_at (take at list ++ first) rest (at + length first) up_to)
    ∙ drop-drop (length second) (at + length first) list
    ∙ ap (λ (k : ℕ). drop k list) ends in
    (λ i. before i ++ (second ++ after i))
    ∙ append_assoc (take at list) first (second ++ drop (at + length (first ++ second)) list)
    ∙ ap (λ (l : List ℕ). take at list ++ l) (sym (append_assoc first second (drop (at + length (first ++ second)) list)))

-- What is written does not change how long the output is.
pub placed-length : (at : ℕ) (bytes list : List ℕ) → at + length bytes ≤ length list → length (placed at bytes list) ≡ length list
unfolding placed
placed-length at bytes list fits = simp (length-append, length-take, length-drop) (omega arith)

-- What is written at the start of an output, and what is past it.
pub placed_before : (bytes list : List ℕ) → take (length bytes) (placed 0 bytes list) ≡ bytes
unfolding placed
placed_before bytes list = take_at bytes (drop (0 + length bytes) list) (length bytes) refl

pub placed_past : (bytes list : List ℕ) → drop (length bytes) (placed 0 bytes list) ≡ drop (length bytes) list
unfolding placed
placed_past bytes list =
    let from_start : 0 + length bytes ≡ length bytes = omega arith in
    drop_at bytes (drop (0 + length bytes) list) (length bytes) refl ∙ ap (λ (n : ℕ). drop n list) from_start

-- nothing, one byte, and one write after another
pub wrote_none : (at : ℕ) (list : List ℕ) → Wrote at [] list at list
unfolding placed
wrote_none at list = record { next_is = sym (add-zero at); left = sym (rw (add-zero at) (take-append-drop at list)) }

pub wrote_one : (at byte : ℕ) (list : List ℕ) → at < length list → Wrote at (byte ∷ []) list (at + 1) (set list at byte)
unfolding placed
wrote_one at byte list h = record { next_is = refl; left = set_split list at byte h ∙ rw (← add-one at) }

pub wrote_then : {at : ℕ} {first second list : List ℕ} {middle end : ℕ} {between after : List ℕ} → at ≤ length list → Wrote at first list middle between → Wrote middle second between end after → Wrote at (first ++ second) list end after
wrote_then {at} {first} {second} {list} h a b =
    record {
      next_is = simp length-append (omega (arith, a.next_is, b.next_is));
      left = b.left ∙ (λ i. placed (a.next_is i) second (a.left i)) ∙ placed_twice at first second list h;
    }
