-- Which numbers are keys of a kind, in the library's words: for the tactic of the functions that match on the number.
use mathlib.Core.Path.{◌≡◌}
use mathlib.Core.Bool.{◌||◌, ◌&&◌}
use Prim.Native.Nat.{ℕ}
use lib.Dec.{eqb, leb}
use Rattle.std.proofs.Common.{arith}
use Rattle.std.proofs.lemmas.Bool.Decides.{nat_tests}
use Rattle.words.specs.Choice.{◌and◌, ◌or◌, ◌is◌to◌}
use Rattle.keys.specs.Keys.{is_typing, is_editing, is_field_move, is_known}

pub typing_by_range : (key : ℕ) → is_typing key ≡ (leb 32 key && leb key 126)
unfolding is_typing ◌is◌to◌ ◌and◌
typing_by_range key = grind (arith, nat_tests)

pub editing_by_range : (key : ℕ) → is_editing key ≡ (leb 263 key && leb key 265)
unfolding is_editing ◌is◌to◌ ◌and◌
editing_by_range key = grind (arith, nat_tests)

pub field_move_by_range : (key : ℕ) → is_field_move key ≡ (leb 260 key && leb key 261)
unfolding is_field_move ◌is◌to◌ ◌and◌
field_move_by_range key = grind (arith, nat_tests)

pub known_by_ranges : (key : ℕ) → is_known key ≡ (is_typing key || (leb 256 key && leb key 266 || eqb key 268))
unfolding is_known ◌is◌to◌ ◌or◌ ◌and◌
known_by_ranges key = grind (arith, nat_tests)

pub ruleset numbers = (typing_by_range, editing_by_range, field_move_by_range, known_by_ranges, nat_tests)
