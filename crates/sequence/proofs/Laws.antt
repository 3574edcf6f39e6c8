-- All arguments, tested by number, and what the tests of this crate tell.
use mathlib.Core.Path.{◌≡◌, refl, sym, ap, ◌∙◌}
use mathlib.Core.List.{List, [], ◌∷◌}
use mathlib.Core.Bool.{Bool, true, false, ◌&&◌}
use Prim.Native.Nat.{ℕ, ◌+◌}
use lib.Dec.{leb}
use Rattle.std.specs.List.{list_all, enumerate_from}
use Rattle.words.proofs.Choosing.{tests}
use Rattle.words.proofs.Testing.{both_tests}
use Rattle.sequence.specs.Record.{arguments_fit, largest_argument}
use Rattle.sequence.specs.Reading.{is_control, is_cancel}

-- Whether an argument fits, by its number.
abbrev pub fits_at : ℕ → ℕ × ℕ → Bool
fits_at reached numbered = leb numbered.1 (largest_argument numbered.0 reached)

pub all_fit : (reached i : ℕ) (arguments : List ℕ) → list_all (fits_at reached) (enumerate_from i arguments) ≡ arguments_fit reached i arguments
unfolding arguments_fit
all_fit reached i [] = refl
all_fit reached i (argument ∷ rest) =
    ap (λ (b : Bool). fits_at reached (i, argument) && b) (all_fit reached (i + 1) rest) ∙ sym (both_tests _ _)

module _ (byte : ℕ) (answer : Bool) where
  pub control : answer ≡ is_control byte → answer ≡ true → is_control byte ≡ true
  control told p = sym told ∙ p

  pub no_control : answer ≡ is_control byte → answer ≡ false → is_control byte ≡ false
  no_control told p = sym told ∙ p

  pub cancel : answer ≡ is_cancel byte → answer ≡ true → is_cancel byte ≡ true
  cancel told p = sym told ∙ p

  pub no_cancel : answer ≡ is_cancel byte → answer ≡ false → is_cancel byte ≡ false
  no_cancel told p = sym told ∙ p

-- What `search` is handed in this crate.
pub ruleset reading = (tests, control, no_control, cancel, no_cancel)
