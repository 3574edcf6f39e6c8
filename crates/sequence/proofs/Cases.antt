-- A record in range is spoilt, after ESC [ and more, right after it, after ESC [ >, or of the first three kinds:
-- what each has, to something that follows from it.
use mathlib.Core.Path.{◌≡◌}
use mathlib.Core.Bool.{Bool, true, false}
use Prim.Native.Nat.{ℕ, ◌≤◌}
use borrow.Author.Tests.{leb-true, eqb-true}
use lib.Dec.{eqb}
use Rattle.words.proofs.Choosing.{either_line, both, range_holds}
use Rattle.sequence.specs.declared.HalfRead.{HalfRead}
use Rattle.sequence.specs.Record.{arguments_fit, valid_half_read}

module _ (half : HalfRead) where
  -- that its arguments fit, where so many are reached
  abbrev Fit : ℕ → Type 0
  Fit reached = arguments_fit reached 0 half.arguments ≡ true

  abbrev FromSpoilt : Type 0 → Type 0
  FromSpoilt A = half.kind ≡ 3 → half.count ≡ 1 → Fit 0 → A

  abbrev FromBracket : Type 0 → Type 0
  FromBracket A = half.spoilt ≡ false → half.kind ≡ 3 → 1 ≤ half.count → half.count ≤ 8 → Fit half.count → A

  abbrev FromBracketAlone : Type 0 → Type 0
  FromBracketAlone A = half.spoilt ≡ false → half.kind ≡ 4 → half.count ≡ 1 → Fit 0 → A

  abbrev FromPrivateMark : Type 0 → Type 0
  FromPrivateMark A = half.spoilt ≡ false → half.kind ≡ 5 → half.count ≡ 1 → Fit half.count → A

  abbrev FromBare : Type 0 → Type 0
  FromBare A = half.spoilt ≡ false → half.kind ≤ 2 → half.count ≡ 0 → Fit 0 → A

module _ (half : HalfRead) (v : valid_half_read half ≡ true) where
  pub one_of_five : {A : Type 0} → FromSpoilt half A → FromBracket half A → FromBracketAlone half A → FromPrivateMark half A → FromBare half A → A
  unfolding valid_half_read
  one_of_five {A = A} spoilt bracket alone private bare =
      either_line (λ (t : Bool). t ≡ true → A) half.spoilt _ _
      (λ _ p. let later = both (both p).1 in spoilt (eqb-true _ _ (both p).0) (eqb-true _ _ later.0) later.1)
      (λ s. either_line (λ (t : Bool). t ≡ true → A) (eqb half.kind 3) _ _
      (λ k p. let counted = range_holds _ _ _ (both p).0 in bracket s (eqb-true _ _ k) counted.0 counted.1 (both p).1)
      (λ _. either_line (λ (t : Bool). t ≡ true → A) (eqb half.kind 4) _ _
      (λ k p. alone s (eqb-true _ _ k) (eqb-true _ _ (both p).0) (both p).1)
      (λ _. either_line (λ (t : Bool). t ≡ true → A) (eqb half.kind 5) _ _
      (λ k p. private s (eqb-true _ _ k) (eqb-true _ _ (both p).0) (both p).1)
      (λ _ p. let later = both (both p).1 in bare s (leb-true _ _ (both p).0) (eqb-true _ _ later.0) later.1))))
      v
