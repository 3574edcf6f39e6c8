-- Laws of fields and of their list, for any predicate that tells which cells are unprotected.
use mathlib.Core.Path.{◌≡◌, refl, sym, ap, ◌∙◌, subst}
use mathlib.Core.Bool.{Bool, true, false}
use mathlib.Core.List.Memᴰ
use mathlib.Core.List.{List, ◌∷◌, ◌++◌, flat_map, Memᴰ}
use mathlib.Core.Logic.{⊎_elim, inl, inr}
use Prim.Native.Nat.{ℕ, zero, suc, ◌+◌, ◌-◌, ◌<◌, ◌≤◌}
use native.Mathlib.Omega.{arith}
use Rattle.words.specs.Choice.{If◌then◌else◌}
use Rattle.words.specs.Lists.{numbers_from}
use Rattle.words.proofs.Choosing.{then_case, else_case, either_line, either_way, less_or_not}
use Rattle.fields.specs.Fields.{joined, starts_field, field_end, Field, fields_from, fields_of}
use Rattle.fields.proofs.Laws.{joined-unprotected, are_apart, start_is, is_start, joined_starts_not, protected_starts_not}
use Rattle.fields.proofs.Walks.{end_on, end_stops, end_at_last}
use Rattle.fields.proofs.Bounds.{IsEnd, end_of_lem}

-- After a protected cell none is joined.
not_joined : (is_unprotected : ℕ → Bool) (cell : ℕ) → is_unprotected cell ≡ false → joined is_unprotected (cell + 1) ≡ false
not_joined is_unprotected cell f =
    let same : cell + 1 - 1 ≡ cell = omega arith in
    are_apart is_unprotected (cell + 1) (inr (inl (ap is_unprotected same ∙ f)))

-- A field of the list: it starts on the page, where a field starts, and has all its cells.
pub record Listed (is_unprotected : ℕ → Bool) (cells : ℕ) (field : Field) : Type 0 where
  pub on_page : field.start < cells
  pub starting : starts_field is_unprotected field.start ≡ true
  pub whole : field.length ≡ field_end is_unprotected cells field.start - field.start

-- The cells of a field.
unfoldable pub cells_of : Field → List ℕ
cells_of field = numbers_from (λ _. true) field.start field.length

module _ (is_unprotected : ℕ → Bool) (cells : ℕ) where
  listed_from : (n cell : ℕ) (field : Field) → cell + n ≤ cells → Memᴰ field (fields_from is_unprotected cells cell n) → Listed is_unprotected cells field
  unfolding fields_from
  listed_from zero cell field h m = absurd (Memᴰ.not-nil m)
  listed_from (suc n) cell field h m =
      either_line (λ (list : List Field). Memᴰ field list → Listed is_unprotected cells field) (starts_field is_unprotected cell) _ _
      (λ s found.
      ⊎_elim
      (λ e. subst (Listed is_unprotected cells) (sym e) (record { on_page = omega arith; starting = s; whole = refl }))
      (λ later. listed_from n (cell + 1) field (omega arith) later)
      (Memᴰ.cases_cons found))
      (λ _ later. listed_from n (cell + 1) field (omega arith) later)
      m

  pub listed : (field : Field) → Memᴰ field (fields_of is_unprotected cells) → Listed is_unprotected cells field
  unfolding fields_of
  listed field m = listed_from cells 0 field (omega arith) m

  module _ (field : Field) (is : Listed is_unprotected cells field) where
    ends : IsEnd is_unprotected cells field.start (field_end is_unprotected cells field.start)
    ends = end_of_lem is_unprotected cells field.start is.on_page

    pub field_bounds : (0 < field.length) × (field.start + field.length ≤ cells)
    field_bounds = omega (arith, is.whole, ends.high, ends.on_page)

    pub field_unprotected : (k : ℕ) → field.start ≤ k → k < field.start + field.length → is_unprotected k ≡ true
    field_unprotected k h l =
        less_or_not field.start k
        (λ q. (joined-unprotected is_unprotected k (ends.inside k q (omega (arith, is.whole, ends.high)))).1)
        (λ q. let same : field.start ≡ k = omega arith in rw same at (start_is is_unprotected field.start is.starting).0)

  end_of_protected : (cell : ℕ) → is_unprotected cell ≡ false → field_end is_unprotected cells cell ≡ cell + 1
  end_of_protected cell f =
      less_or_not (cell + 1) cells (λ h. end_stops is_unprotected cells cell h (not_joined is_unprotected cell f)) (λ h. end_at_last is_unprotected cells cell h)

  -- The unprotected cells after a cell:
  -- the rest of the field that has it, and then those of the fields that start after it.
  rest : ℕ → ℕ → List ℕ
  rest n cell = numbers_from (λ _. true) (cell + 1) (field_end is_unprotected cells cell - (cell + 1)) ++ flat_map cells_of (fields_from is_unprotected cells (cell + 1) n)

  rest_ended : (n cell : ℕ) → field_end is_unprotected cells cell ≡ cell + 1 → rest n cell ≡ flat_map cells_of (fields_from is_unprotected cells (cell + 1) n)
  unfolding rest numbers_from
  rest_ended n cell e = let none : cell + 1 - (cell + 1) ≡ 0 = omega arith in rw (e, none)

  -- The same from a cell on, where it is known of the cells after it.
  module _ (n cell : ℕ) (here : cell < cells) (after : numbers_from is_unprotected (cell + 1) n ≡ rest n cell) where
    from_unprotected : cell ∷ numbers_from is_unprotected (cell + 1) n ≡ numbers_from (λ _. true) cell (field_end is_unprotected cells cell - cell) ++ flat_map cells_of (fields_from is_unprotected cells (cell + 1) n)
    unfolding numbers_from If◌then◌else◌ rest
    from_unprotected =
        let end = field_end is_unprotected cells cell in
        let more : end - cell ≡ suc (end - (cell + 1)) = omega (arith, (end_of_lem is_unprotected cells cell here).high) in
        rw (after, more)

    from_protected : is_unprotected cell ≡ false → numbers_from is_unprotected (cell + 1) n ≡ flat_map cells_of (fields_from is_unprotected cells (cell + 1) n)
    from_protected f = after ∙ rest_ended n cell (end_of_protected cell f)

    from_joined : joined is_unprotected cell ≡ true
        → numbers_from is_unprotected cell (suc n) ≡ numbers_from (λ _. true) cell (field_end is_unprotected cells cell - cell) ++ flat_map cells_of (fields_from is_unprotected cells cell (suc n))
    unfolding numbers_from fields_from
    from_joined j =
        rw (then_case _ _ _ (joined-unprotected is_unprotected cell j).1, else_case _ _ _ (joined_starts_not is_unprotected cell j)) from_unprotected

    from_not_joined : joined is_unprotected cell ≡ false → numbers_from is_unprotected cell (suc n) ≡ flat_map cells_of (fields_from is_unprotected cells cell (suc n))
    unfolding numbers_from fields_from flat_map cells_of
    from_not_joined j =
        either_way (is_unprotected cell)
        (λ f. rw (then_case _ _ _ f, then_case _ _ _ (is_start is_unprotected cell f j)) from_unprotected)
        (λ f. rw (else_case _ _ _ f, else_case _ _ _ (protected_starts_not is_unprotected cell f)) (from_protected f))

  unprotected-after : (n cell : ℕ) → cell + 1 + n ≡ cells → numbers_from is_unprotected (cell + 1) n ≡ rest n cell
  unfolding rest numbers_from fields_from flat_map
  unprotected-after zero cell h = sym (rest_ended zero cell (end_at_last is_unprotected cells cell (omega arith)))
  unprotected-after (suc n) cell h =
      let next : cell + 1 < cells = omega arith in
      let after = unprotected-after n (cell + 1) (omega arith) in
      either_way (joined is_unprotected (cell + 1))
      (λ j. rw (end_on is_unprotected cells cell next j) (from_joined n (cell + 1) next after j))
      (λ j. from_not_joined n (cell + 1) next after j ∙ sym (rest_ended (suc n) cell (end_stops is_unprotected cells cell next j)))

  unprotected_from_first : (n : ℕ) → n ≡ cells → numbers_from is_unprotected 0 n ≡ flat_map cells_of (fields_from is_unprotected cells 0 n)
  unfolding numbers_from fields_from flat_map
  unprotected_from_first zero h = refl
  unprotected_from_first (suc n) h = from_not_joined n 0 (omega arith) (unprotected-after n 0 (omega arith)) (are_apart is_unprotected 0 (inl refl))

  -- The unprotected cells of the page are those of its fields, in order.
  pub unprotected-cells : numbers_from is_unprotected 0 cells ≡ flat_map cells_of (fields_of is_unprotected cells)
  unfolding fields_of
  unprotected-cells = unprotected_from_first cells refl
