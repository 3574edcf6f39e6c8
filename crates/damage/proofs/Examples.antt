-- Parts set and read back, on a state of zeros.
use mathlib.Core.Path.{◌≡◌, refl}
use mathlib.Core.Bool.{Bool, true}
use mathlib.Core.List.{List, [], ◌∷◌}
use Prim.Native.Nat.{ℕ}
use lib.Dec.{eqb}
use Rattle.words.specs.Choice.{If◌then◌else◌, ◌and◌, ◌is◌to◌}
use Rattle.words.specs.Lists.{every}
use Rattle.state.specs.State.{zero_state}
use Rattle.damage.specs.Parts.{flag_number, first_parts, part_of, chosen, arguments_with, stops_with, with_part}

-- the first and the last of each group
abbrev parts : List ℕ
parts = 0 ∷ 1 ∷ 2 ∷ 3 ∷ 4 ∷ 5 ∷ 6 ∷ 7 ∷ 8 ∷ 9 ∷ 10 ∷ 11 ∷ 12 ∷ 13 ∷ 19 ∷ 20 ∷ 21 ∷ 179 ∷ 180 ∷ 181 ∷ []

abbrev only_this : ℕ → Bool
only_this part = every (λ other. eqb (part_of (with_part zero_state part 1) other) (flag_number (eqb other part))) parts

pub each_alone : every only_this parts ≡ true
unfolding If◌then◌else◌ ◌and◌ ◌is◌to◌ every flag_number first_parts part_of chosen arguments_with stops_with with_part
each_alone = refl

-- a number, a mark, a flag, an argument, a tab stop and the last two parts set to 65,535; a part that there is not
pub largest_set : part_of (with_part zero_state 0 65535) 0 ∷ part_of (with_part zero_state 4 65535) 4 ∷ part_of (with_part zero_state 5 65535) 5 ∷ part_of (with_part zero_state 19 65535) 19 ∷ part_of (with_part zero_state 179 65535) 179 ∷ part_of (with_part zero_state 180 65535) 180 ∷ part_of (with_part zero_state 181 65535) 181 ∷ part_of (with_part zero_state 182 65535) 182 ∷ [] ≡ 65535 ∷ 65535 ∷ 1 ∷ 65535 ∷ 1 ∷ 255 ∷ 1 ∷ 0 ∷ []
unfolding If◌then◌else◌ ◌and◌ ◌is◌to◌ flag_number first_parts part_of chosen arguments_with stops_with with_part
largest_set = refl
