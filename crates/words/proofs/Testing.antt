-- The code asks and chooses by the library's `&&`, `||` and `cond`, the definitions by words of their own.
use mathlib.Core.Path.{◌≡◌, refl}
use mathlib.Core.Bool.{Bool, true, false, cond, ◌&&◌, ◌||◌}
use Rattle.std.proofs.lemmas.Bool.Decides.{nat_tests}
use Rattle.words.specs.Choice.{If◌then◌else◌, ◌and◌, ◌or◌}

pub both_tests : (a b : Bool) → (a and b) ≡ (a && b)
unfolding ◌and◌
both_tests true b = refl
both_tests false b = refl

pub either_tests : (a b : Bool) → (a or b) ≡ (a || b)
unfolding ◌or◌
either_tests true b = refl
either_tests false b = refl

pub choices : {A : Type 0} (test : Bool) (a b : A) → (If test then a else b) ≡ cond test a b
unfolding If◌then◌else◌
choices true a b = refl
choices false a b = refl

-- What `grind` is handed where a function follows a table.
pub ruleset code_tests = (nat_tests, both_tests, either_tests, choices)
