-- The library's number of a flag.
use mathlib.Core.Path.{◌≡◌, refl}
use mathlib.Core.Bool.{Bool, true, false}
use Rattle.std.specs.Int.{from_bool}
use Rattle.words.specs.Choice.{If◌then◌else◌}
use Rattle.damage.specs.Parts.{flag_number}

pub flag_is : (flag : Bool) → from_bool flag ≡ flag_number flag
unfolding flag_number If◌then◌else◌
flag_is true = refl
flag_is false = refl
