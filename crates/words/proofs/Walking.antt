-- Laws of lists for loops that walk them, in the loops' own terms: the next index is `i + 1`.
use mathlib.Core.Path.{◌≡◌}
use mathlib.Core.List.{List, ◌∷◌}
use Prim.Native.Nat.{ℕ, ◌+◌, ◌*◌, ◌<◌}
use native.Mathlib.Nat.{suc-mul}
use native.Mathlib.Numerals.{add-one}
use lib.ListN.{length, get_or, drop}
use lib.Seq.{drop-cons}

pub next_element : {A : Type 0} (list : List A) (i : ℕ) (other : A) → i < length list → drop i list ≡ get_or list i other ∷ drop (i + 1) list
next_element list i other h = rw add-one (drop-cons list i other h)

pub once_more : (n unit : ℕ) → (n + 1) * unit ≡ n * unit + unit
once_more n unit = rw (add-one n, suc-mul n unit)
