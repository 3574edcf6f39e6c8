-- The arguments that commands work with are as they may be.
use mathlib.Core.Path.{◌≡◌, refl, ap, ◌∙◌}
use mathlib.Core.Bool.{true}
use mathlib.Core.List.{List}
use Prim.Native.Nat.{ℕ, ◌≤◌}
use native.Mathlib.Omega.{arith}
use borrow.Author.Tests.{eqb-true, eqb-false}
use lib.Dec.{eqb}
use lib.ListN.{get_or}
use Rattle.words.specs.Choice.{If◌then◌else◌, ◌and◌, ◌or◌, ◌is◌to◌}
use Rattle.words.proofs.Choosing.{either_line}
use Rattle.table.specs.Table.{allowed, value_of}
use Rattle.table.specs.Moves.{kept_column}

-- Where 0 stands for 1, a value is 1 at least: so for G, d, H and f.
pub some_value : (final command : ℕ) (arguments : List ℕ) (i : ℕ) → eqb final command ≡ true → (allowed command).zero_is ≡ 1 → 1 ≤ value_of final arguments i
unfolding value_of
some_value final command arguments i t e =
    let one : (allowed final).zero_is ≡ 1 = ap (λ (n : ℕ). (allowed n).zero_is) (eqb-true final command t) ∙ e in
    either_line (λ (n : ℕ). 1 ≤ n) _ _ _ (λ _. omega arith) (λ t. let given = eqb-false (get_or arguments i 0) 0 t in omega arith)

pub zero_is_one : ((allowed 0x47).zero_is ≡ 1) × ((allowed 0x64).zero_is ≡ 1) × ((allowed 0x48).zero_is ≡ 1) × ((allowed 0x66).zero_is ≡ 1)
unfolding allowed If◌then◌else◌ ◌and◌ ◌or◌ ◌is◌to◌
zero_is_one = (refl, refl, refl, refl)

pub some_column : (row given column present : ℕ) → 1 ≤ column → 1 ≤ present → 1 ≤ kept_column row given column present
unfolding kept_column
some_column row given column present h k = either_line (λ (n : ℕ). 1 ≤ n) _ _ _ (λ _. k) (λ _. h)
