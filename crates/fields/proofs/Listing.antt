-- The list of a page's fields: which fields it has, by the cells at which they start, and in which order.
use mathlib.Core.Path.{◌≡◌, refl, sym, ap, ◌∙◌}
use mathlib.Core.Bool.{Bool, true, false}
use mathlib.Core.List.{List, [], ◌∷◌, Memᴰ}
use mathlib.Core.Logic.{inl, ⊎_elim}
use Prim.Native.Nat.{ℕ, zero, suc, ◌+◌, ◌-◌, ◌<◌, ◌≤◌}
use native.Mathlib.Nat.{eq-or-lt_of_le}
use native.Mathlib.Omega.{arith}
use Rattle.words.proofs.Choosing.{then_case, else_case, either_line, not_both}
use Rattle.fields.specs.Fields.{Field, joined, starts_field, field_start, field_end, field_from, fields_from, fields_of}
use Rattle.fields.proofs.Claims.{IsField, end_of, ◌has◌, InOrder, none, one_more, InOneField, Lists, Passes}
use Rattle.fields.proofs.Laws.{are_joined, are_apart, start_is, is_start, joined_starts_not, start_here}
use Rattle.fields.proofs.Bounds.{start_of, end_of_lem, same_field, around}

-- The fields that start at one of the n cells from `from` to before `to`.
module _ (is_unprotected : ℕ → Bool) (cells : ℕ) where
  abbrev Starts : ℕ → ℕ → Field → Type 0
  Starts from to field = Passes (starts_field is_unprotected) from to field.start × (field ≡ field_from is_unprotected cells field.start)

  pub listed_starts : (n from to : ℕ) → to ≡ from + n → {field : Field} → Memᴰ field (fields_from is_unprotected cells from n) → Starts from to field
  unfolding fields_from
  listed_starts zero from to all listed = absurd (mathlib.Core.List.Memᴰ.not-nil listed)
  listed_starts (suc n) from to all {field} listed =
      let later : Memᴰ field (fields_from is_unprotected cells (from + 1) n) → Starts from to field =
      λ m. let is = listed_starts n (from + 1) to (omega arith) m in ((omega arith, is.0.1, is.0.2), is.1) in
      either_line (λ (list : List Field). Memᴰ field list → Starts from to field) _ _ _
      (λ s m. ⊎_elim
      (λ same.
      let here : field.start ≡ from = ap (λ (f : Field). f.start) same in
      ((omega arith, omega arith, rw here s), same ∙ ap (field_from is_unprotected cells) (sym here)))
      later
      (mathlib.Core.List.Memᴰ.cases_cons m))
      (λ _. later)
      listed

  pub start_listed : (n from to : ℕ) → to ≡ from + n → (cell : ℕ) → Passes (starts_field is_unprotected) from to cell → Memᴰ (field_from is_unprotected cells cell) (fields_from is_unprotected cells from n)
  unfolding fields_from
  start_listed zero from to all cell starts = absurd (omega arith)
  start_listed (suc n) from to all cell starts =
      let later : from < cell → Memᴰ (field_from is_unprotected cells cell) (fields_from is_unprotected cells (from + 1) n) =
      λ less. start_listed n (from + 1) to (omega arith) cell (omega arith, starts.1, starts.2) in
      either_line (Memᴰ (field_from is_unprotected cells cell)) _ _ _
      (λ _. ⊎_elim (λ same. mathlib.Core.List.Memᴰ.head (ap (field_from is_unprotected cells) (sym same))) (λ less. mathlib.Core.List.Memᴰ.tail (later less)) (eq-or-lt_of_le starts.0))
      (λ not-here. ⊎_elim (λ same. absurd (not_both starts.2 (rw (← same) not-here))) later (eq-or-lt_of_le starts.0))

  -- no later field starts inside the one that starts at a cell
  ends_before : (n cell : ℕ) → cell < cells → (other : Field) → Memᴰ other (fields_from is_unprotected cells (cell + 1) n) → end_of (field_from is_unprotected cells cell) ≤ other.start
  ends_before n cell here other listed =
      let starts = (listed_starts n (cell + 1) (cell + 1 + n) refl listed).0 in
      let end = end_of_lem is_unprotected cells cell here in
      let outside : other.start < field_end is_unprotected cells cell → ⊥ =
      λ less. not_both (end.inside other.start (omega arith) less) (start_is is_unprotected other.start starts.2).1 in
      omega arith

  pub in_order : (n from : ℕ) → from + n ≤ cells → InOrder (fields_from is_unprotected cells from n)
  unfolding fields_from
  in_order zero from fits = none
  in_order (suc n) from fits =
      let later = in_order n (from + 1) (omega arith) in
      either_line InOrder _ _ _ (λ _. one_more (ends_before n from (omega arith)) later) (λ _. later)

  only_fields : (field : Field) → Memᴰ field (fields_of is_unprotected cells) → IsField is_unprotected cells field
  unfolding fields_of
  only_fields field listed =
      let is = listed_starts cells 0 cells (omega arith) listed in
      let starts = start_is is_unprotected field.start is.0.2 in
      let whole = (around is_unprotected cells field.start is.0.1 starts.0).is_field in
      rw is.1 (rw (start_here is_unprotected field.start starts.1) at whole)

  every_cell : (cell : ℕ) → cell < cells → is_unprotected cell ≡ true → InOneField (fields_of is_unprotected cells) cell
  unfolding fields_of
  every_cell cell here here_unprotected =
      let start = field_start is_unprotected cell in
      let whole = around is_unprotected cells cell here here_unprotected in
      let starts = is_start is_unprotected start (whole.is_field.all_unprotected start (omega arith)) (start_of is_unprotected cell).before in
      let field = field_from is_unprotected cells start in
      let listed = start_listed cells 0 cells (omega arith) start (omega arith, omega arith, starts) in
      let has_cell : field has cell = (omega arith, omega arith) in
      record {
        field = field;
        listed = listed;
        has_cell = has_cell;
        no_other = λ other others there. same_field is_unprotected cells (only_fields other others) (only_fields field listed) cell there has_cell;
      }

  every_field : (field : Field) → IsField is_unprotected cells field → Memᴰ field (fields_of is_unprotected cells)
  every_field field is =
      let start : field has field.start = (omega arith, omega (arith, is.some-cells)) in
      let listed = every_cell field.start (omega (arith, is.on_page)) (is.all_unprotected field.start start) in
      mathlib.Core.List.Memᴰ.cast (same_field is_unprotected cells is (only_fields listed.field listed.listed) field.start start listed.has_cell) listed.listed

  pub lists_fields : Lists is_unprotected cells (fields_of is_unprotected cells)
  unfolding fields_of
  lists_fields =
      record { only_fields = only_fields; every_field = every_field; every_cell = every_cell; in_order = in_order cells 0 (omega arith) }

  -- Where no field starts none is listed.
  pub none_listed : (n from : ℕ) → ((cell : ℕ) → from ≤ cell → cell < from + n → starts_field is_unprotected cell ≡ false) → fields_from is_unprotected cells from n ≡ []
  unfolding fields_from
  none_listed zero from none_starts = refl
  none_listed (suc n) from none_starts =
      else_case _ _ _ (none_starts from (omega arith) (omega arith)) ∙ none_listed n (from + 1) (λ cell low high. none_starts cell (omega arith) (omega arith))

  -- Where all cells are unprotected, each but the first is joined to the one before it.
  module _ (some : 0 < cells) (all : (cell : ℕ) → cell < cells → is_unprotected cell ≡ true) where
    all_joined : (cell : ℕ) → 0 < cell → cell < cells → joined is_unprotected cell ≡ true
    all_joined cell late here = are_joined is_unprotected cell late (all (cell - 1) (omega arith)) (all cell here)

    ends_with_page : field_end is_unprotected cells 0 ≡ cells
    ends_with_page =
        let end = end_of_lem is_unprotected cells 0 some in
        ⊎_elim (λ same. same)
        (λ apart. ⊎_elim (λ same. same) (λ less. absurd (not_both (all_joined _ end.high less) apart)) (eq-or-lt_of_le end.on_page))
        end.after

    pub one_whole_field : fields_of is_unprotected cells ≡ record { start = 0; length = cells } ∷ []
    unfolding fields_of fields_from
    one_whole_field =
        let count : cells ≡ suc (cells - 1) = omega arith in
        let starts = is_start is_unprotected 0 (all 0 some) (are_apart is_unprotected 0 (inl refl)) in
        let size : field_end is_unprotected cells 0 - 0 ≡ cells = omega (arith, ends_with_page) in
        ap (fields_from is_unprotected cells 0) count
        ∙ then_case _ _ _ starts
        ∙ (λ i. record { start = 0; length = size i } ∷ none_listed (cells - 1) 1 (λ cell low high. joined_starts_not is_unprotected cell (all_joined cell low (omega arith))) i)
