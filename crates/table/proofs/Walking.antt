-- Loops that walk a list's values and have come to i.
use mathlib.Core.Path.{◌≡◌, refl, ap, ◌∙◌}
use mathlib.Core.Bool.{Bool, true, false}
use mathlib.Core.List.{List, [], ◌∷◌}
use Prim.Native.Nat.{ℕ, ◌+◌, ◌<◌, ◌≤◌}
use lib.ListN.{length, drop, get_or, drop_of_length-le}
use Rattle.std.specs.Prelude.{Some, None}
use Rattle.std.specs.List.{list_all}
use Rattle.words.specs.Choice.{If◌then◌else◌}
use Rattle.words.specs.Lists.{every}
use Rattle.words.proofs.Walking.{next_element}
use Rattle.words.proofs.Testing.{both_tests}
use Rattle.table.specs.Settings.{pen_after, pen_after_all}

-- The library's word for the definitions' own.
pub every_is : (test : ℕ → Bool) (values : List ℕ) → every test values ≡ list_all test values
unfolding every
every_is test [] = refl
every_is test (value ∷ later) = both_tests (test value) (every test later) ∙ rw (every_is test later)

-- What a test that an `Option` tells of was.
pub listed : (test : Bool) (a b : ℕ) → Some a ≡ (If test then Some b else None) → (test ≡ true) × (a ≡ b)
unfolding If◌then◌else◌
listed true a b p = (refl, cc)
listed false a b p = cc

pub unlisted : (test : Bool) (b : ℕ) → None ≡ (If test then Some b else None) → test ≡ false
unfolding If◌then◌else◌
unlisted true b p = cc
unlisted false b p = refl

-- A pen that each of them changes.
module _ (values : List ℕ) (i pen : ℕ) where
  pub next_value : i < length values → pen_after_all (drop i values) pen ≡ pen_after_all (drop (i + 1) values) (pen_after (get_or values i 0) pen)
  unfolding pen_after_all
  next_value h = ap (λ (later : List ℕ). pen_after_all later pen) (next_element values i 0 h)

  pub all_values : length values ≤ i → pen_after_all (drop i values) pen ≡ pen
  unfolding pen_after_all
  all_values h = rw (drop_of_length-le values h)
