-- What a numeric and an alphabetic cell take, in the library's words: for the tactic of the functions that match on it.
use mathlib.Core.Path.{◌≡◌}
use mathlib.Core.Bool.{◌||◌, ◌&&◌}
use Prim.Native.Nat.{ℕ}
use lib.Dec.{eqb, leb}
use Rattle.std.proofs.Common.{arith}
use Rattle.std.proofs.lemmas.Bool.Decides.{nat_tests}
use Rattle.words.specs.Choice.{◌and◌, ◌or◌, ◌is◌to◌}
use Rattle.page.specs.Marks.{numeric_takes, alphabetic_takes}

pub numeric_by_ranges : (c : ℕ) → numeric_takes c ≡ (eqb c 0x2D || (eqb c 0x2E || (leb 0x30 c && leb c 0x39)))
unfolding numeric_takes ◌is◌to◌ ◌or◌ ◌and◌
numeric_by_ranges c = grind (arith, nat_tests)

pub alphabetic_by_ranges : (c : ℕ) → alphabetic_takes c ≡ (eqb c 0x20 || (eqb c 0x2D || (eqb c 0x2E || (leb 0x41 c && leb c 0x5A || leb 0x61 c && leb c 0x7A))))
unfolding alphabetic_takes ◌is◌to◌ ◌or◌ ◌and◌
alphabetic_by_ranges c = grind (arith, nat_tests)

pub ruleset taking = (numeric_by_ranges, alphabetic_by_ranges, nat_tests)
