-- A step with an output: where its transmission is written, where there is none, and where it doesn't fit.
use mathlib.Core.Path.{◌≡◌, refl, sym, ap, ◌∙◌}
use mathlib.Core.Bool.{Bool, true, false}
use mathlib.Core.List.{List, []}
use Prim.Native.Nat.{ℕ, ◌-◌, ◌<◌, ◌≤◌}
use native.Mathlib.Omega.{arith}
use borrow.Author.Tests.{le-leb, lt-leb}
use lib.ListN.{length}
use Rattle.words.specs.Output.{placed}
use Rattle.words.proofs.Choosing.{then_case, else_case}
use Rattle.words.proofs.Output.{wrote_none}
use Rattle.page.specs.Page.{Page}
use Rattle.steps.specs.declared.Step.{Step}
use Rattle.steps.specs.Steps.{Terminal, Stepped, bytes_of, block_transmission}
use Rattle.steps.specs.Told.{told, tells, tells_exceeding, written}

-- The bytes of a block are those that were put in.
pub block-bytes : (full : Bool) (bytes : List ℕ) → bytes_of (block_transmission full bytes) ≡ bytes
unfolding bytes_of block_transmission
block-bytes true bytes = refl
block-bytes false bytes = refl

module _ (at : ℕ) (output : List ℕ) (before : Terminal) (stepped : Stepped) where
  pub no_room : length output - at < length (bytes_of stepped.transmission) → written at output before stepped ≡ record { told = tells_exceeding before; output = output }
  unfolding written
  no_room little = else_case _ _ _ (lt-leb _ _ little)

  pub with_room : length (bytes_of stepped.transmission) ≤ length output - at → written at output before stepped ≡ record { told = tells stepped; output = placed at (bytes_of stepped.transmission) output }
  unfolding written
  with_room enough = then_case _ _ _ (le-leb _ _ enough)

  without_transmission : bytes_of stepped.transmission ≡ [] → written at output before stepped ≡ record { told = tells stepped; output = output }
  without_transmission silent =
      let none : length (bytes_of stepped.transmission) ≡ 0 = ap length silent in
      with_room (omega arith) ∙ (λ i. record { told = tells stepped; output = (ap (λ (bytes : List ℕ). placed at bytes output) silent ∙ sym (wrote_none at output).left) i })

-- A step that sends nothing: where the code tells what it does, it tells what is written.
abbrev pub Silent : Stepped → Type 0
Silent stepped = bytes_of stepped.transmission ≡ []

pub told_silent : (at : ℕ) (output : List ℕ) (before : Terminal) (stepped : Stepped) (step : Step) (page : Page) → told step page ≡ tells stepped → Silent stepped → record { told = told step page; output = output } ≡ written at output before stepped
told_silent at output before stepped step page is silent =
    (λ i. record { told = is i; output = output }) ∙ sym (without_transmission at output before stepped silent)
