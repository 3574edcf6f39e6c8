-- Laws of joined cells, over any test `is_unprotected` of which cells are unprotected.
use mathlib.Core.Path.{◌≡◌, refl, sym, ap, ◌∙◌}
use mathlib.Core.Bool.{Bool, true, false, not}
use mathlib.Core.Logic.{◌⊎◌, inl, inr, ⊎_elim}
use Prim.Native.Nat.{ℕ, zero, suc, ◌-◌, ◌<◌}
use native.Mathlib.Numerals.{sub-one}
use native.Mathlib.Omega.{arith}
use borrow.Author.Tests.{not-true}
use Rattle.words.specs.Choice.{◌and◌}
use Rattle.words.proofs.Choosing.{true_is_not_false, not_both, else_case, either_way, both, both_hold, first_fails, second_fails, one_fails}
use Rattle.fields.specs.Fields.{joined, starts_field, field_start}

first_or_later : (cell : ℕ) → (cell ≡ 0) ⊎ (0 < cell)
first_or_later zero = inl refl
first_or_later (suc before) = inr (omega arith)

-- Two cells are joined, or there is a reason why not. Laws look into `joined` here alone.
module _ (is_unprotected : ℕ → Bool) where
  joined_later : (cell : ℕ) → 0 < cell → joined is_unprotected cell ≡ (is_unprotected (cell - 1) and is_unprotected cell)
  unfolding joined
  joined_later zero late = absurd (omega arith)
  joined_later (suc before) late = rw (sub-one (suc before))

  first_apart : joined is_unprotected 0 ≡ false
  unfolding joined
  first_apart = refl

  pub joined_has_before : (cell : ℕ) → joined is_unprotected cell ≡ true → 0 < cell
  unfolding joined
  joined_has_before zero j = absurd (true_is_not_false (sym j))
  joined_has_before (suc before) j = omega arith

  module _ (cell : ℕ) where
    pub joined-unprotected : joined is_unprotected cell ≡ true → (is_unprotected (cell - 1) ≡ true) × (is_unprotected cell ≡ true)
    joined-unprotected j = both (sym (joined_later cell (joined_has_before cell j)) ∙ j)

    pub are_joined : 0 < cell → is_unprotected (cell - 1) ≡ true → is_unprotected cell ≡ true → joined is_unprotected cell ≡ true
    are_joined late left right = joined_later cell late ∙ both_hold _ _ left right

    apart_unless_first : (is_unprotected (cell - 1) and is_unprotected cell) ≡ false → joined is_unprotected cell ≡ false
    apart_unless_first fails =
        ⊎_elim (λ first. ap (joined is_unprotected) first ∙ first_apart) (λ late. joined_later cell late ∙ fails) (first_or_later cell)

    -- after an unprotected cell it is the cell itself that counts
    pub joined_if_unprotected : 0 < cell → is_unprotected (cell - 1) ≡ true → joined is_unprotected cell ≡ is_unprotected cell
    unfolding ◌and◌
    joined_if_unprotected late left = joined_later cell late ∙ ap (λ (b : Bool). b and is_unprotected cell) left

    abbrev pub Apart : Type 0
    Apart = (cell ≡ 0) ⊎ ((is_unprotected (cell - 1) ≡ false) ⊎ (is_unprotected cell ≡ false))

    pub are_apart : Apart → joined is_unprotected cell ≡ false
    are_apart (inl first) = ap (joined is_unprotected) first ∙ first_apart
    are_apart (inr (inl left)) = apart_unless_first (first_fails _ _ left)
    are_apart (inr (inr right)) = apart_unless_first (second_fails _ _ right)

    pub why_apart : joined is_unprotected cell ≡ false → Apart
    why_apart j = ⊎_elim inl (λ late. inr (one_fails (sym (joined_later cell late) ∙ j))) (first_or_later cell)

-- It is told by the two cells.
pub joined_alike : (one other : ℕ → Bool) (cell : ℕ) → one cell ≡ other cell → one (cell - 1) ≡ other (cell - 1) → joined one cell ≡ joined other cell
unfolding joined
joined_alike one other zero here before = refl
joined_alike one other (suc cell) here before = let previous = rw (sub-one (suc cell)) at before in rw (here, previous)

-- A field starts at a cell that is unprotected and not joined to the one before, and at no other.
module _ (is_unprotected : ℕ → Bool) (cell : ℕ) where
  pub start_is : starts_field is_unprotected cell ≡ true → (is_unprotected cell ≡ true) × (joined is_unprotected cell ≡ false)
  unfolding starts_field
  start_is s = let is = both s in (is.0, not-true _ is.1)

  pub joined_starts_not : joined is_unprotected cell ≡ true → starts_field is_unprotected cell ≡ false
  joined_starts_not j = either_way (starts_field is_unprotected cell) (λ s. absurd (not_both j (start_is s).1)) (λ s. s)

  pub protected_starts_not : is_unprotected cell ≡ false → starts_field is_unprotected cell ≡ false
  protected_starts_not f = either_way (starts_field is_unprotected cell) (λ s. absurd (not_both (start_is s).0 f)) (λ s. s)

  pub is_start : is_unprotected cell ≡ true → joined is_unprotected cell ≡ false → starts_field is_unprotected cell ≡ true
  unfolding starts_field
  is_start here apart = both_hold _ _ here (ap not apart)

-- Where the cell is not joined to the one before, its field starts there.
pub start_here : (is_unprotected : ℕ → Bool) (cell : ℕ) → joined is_unprotected cell ≡ false → field_start is_unprotected cell ≡ cell
unfolding field_start
start_here is_unprotected zero j = refl
start_here is_unprotected (suc cell) j = else_case _ _ _ j
