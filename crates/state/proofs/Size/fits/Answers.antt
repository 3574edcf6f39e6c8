use mathlib.Core.Path.{sym, ◌∙◌}
use native.Mathlib.Nat.{mul-le-mul}
use native.Mathlib.Omega.{arith}
use Rattle.state.specs.Tests.{size_fits}
use Rattle.state.proofs.Keeping.{size_bounds}
use Rattle.words.proofs.Testing.{code_tests}
use Rattle.state.proofs.Size.fits.Goals as goal

-- a listed size has at most 48 x 160 cells
pub overflow_mul-self : goal.overflow_mul-self
overflow_mul-self c =
    let bounds = size_bounds _ (sym c.is_listed.ensures ∙ c.if-is_listed.true) in
    omega (arith, mul-le-mul bounds.rows_most bounds.columns_most)

pub returns-then-characters-self : goal.returns-then-characters-self
unfolding size_fits
returns-then-characters-self c = grind (arith, code_tests)

pub returns-else-characters-self : goal.returns-else-characters-self
unfolding size_fits
returns-else-characters-self c = grind (arith, code_tests)
