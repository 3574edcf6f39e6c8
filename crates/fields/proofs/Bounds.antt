-- A field's bounds: a field is a longest run of joined cells, and such a run is around each cell.
use mathlib.Core.Path.{◌≡◌, refl, ap}
use mathlib.Core.Bool.{Bool, true, false}
use mathlib.Core.Logic.{◌⊎◌, inl, inr, ⊎_elim}
use Prim.Native.Nat.{ℕ, zero, suc, ◌+◌, ◌-◌, ◌<◌, ◌≤◌}
use native.Mathlib.Nat.{eq-or-lt_of_le}
use native.Mathlib.Omega.{arith}
use Rattle.words.proofs.Choosing.{either_line, le_or_lt, not_both}
use Rattle.fields.specs.Fields.{Field, joined, field_start, end_from, field_end}
use Rattle.fields.proofs.Claims.{IsField, end_of, ◌has◌, field_around, IsAround, UnprotectedAround}
use Rattle.fields.proofs.Laws.{are_joined, are_apart, why_apart, joined-unprotected}

-- What is known of the start and of the end that are found from a cell.
module _ (is_unprotected : ℕ → Bool) where
  pub record IsStart (cell start : ℕ) : Type 0 where
    pub low : start ≤ cell
    pub inside : (k : ℕ) → start < k → k ≤ cell → joined is_unprotected k ≡ true
    pub before : joined is_unprotected start ≡ false

  pub start_of : (cell : ℕ) → IsStart cell (field_start is_unprotected cell)
  unfolding field_start
  start_of zero =
      record {
        low = omega arith;
        inside = λ k over under. absurd (omega arith);
        before = are_apart is_unprotected zero (inl refl);
      }
  start_of (suc cell) =
      let further = start_of cell in
      either_line (IsStart (suc cell)) _ _ _
      (λ j. record {
        low = omega arith;
        inside = λ k over under. ⊎_elim (λ same. rw same j) (λ less. further.inside k over (omega arith)) (eq-or-lt_of_le under);
        before = further.before;
      })
      (λ j. record { low = omega arith; inside = λ k over under. absurd (omega arith); before = j })

  pub record IsEnd (cells cell end : ℕ) : Type 0 where
    pub high : cell < end
    pub on_page : end ≤ cells
    pub inside : (k : ℕ) → cell < k → k < end → joined is_unprotected k ≡ true
    pub after : (end ≡ cells) ⊎ (joined is_unprotected end ≡ false)

  end_from_lem : (cells more cell : ℕ) → cells ≡ cell + 1 + more → IsEnd cells cell (end_from is_unprotected cell more)
  unfolding end_from
  end_from_lem cells zero cell all =
      record { high = omega arith; on_page = omega arith; inside = λ k over under. absurd (omega arith); after = inl (omega arith) }
  end_from_lem cells (suc more) cell all =
      let further = end_from_lem cells more (cell + 1) (omega arith) in
      either_line (IsEnd cells cell) _ _ _
      (λ j. record {
        high = omega arith;
        on_page = further.on_page;
        inside = λ k over under. ⊎_elim (λ same. let here : cell + 1 ≡ k = omega arith in rw (← here) j) (λ more. further.inside k (omega arith) under) (eq-or-lt_of_le over);
        after = further.after;
      })
      (λ j. record { high = omega arith; on_page = omega arith; inside = λ k over under. absurd (omega arith); after = inr j })

  -- the page has so many cells, or the cell is past it
  pub end_anywhere : (cells cell : ℕ) → IsEnd (cell + 1 + (cells - (cell + 1))) cell (field_end is_unprotected cells cell)
  unfolding field_end
  end_anywhere cells cell = end_from_lem (cell + 1 + (cells - (cell + 1))) (cells - (cell + 1)) cell refl

  pub end_of_lem : (cells cell : ℕ) → cell < cells → IsEnd cells cell (field_end is_unprotected cells cell)
  end_of_lem cells cell here = let all : cell + 1 + (cells - (cell + 1)) ≡ cells = omega arith in rw all at (end_anywhere cells cell)

  joined_around : (cells cell k : ℕ) → field_start is_unprotected cell < k → k < field_end is_unprotected cells cell → joined is_unprotected k ≡ true
  joined_around cells cell k over under =
      ⊎_elim (λ back. (start_of cell).inside k over back) (λ on. (end_anywhere cells cell).inside k on under) (le_or_lt k cell)

  -- cells that are joined, each to the one before it, are unprotected if one of them is
  run_unprotected : (first end : ℕ) → ((k : ℕ) → first < k → k < end → joined is_unprotected k ≡ true) → (cell : ℕ) → first ≤ cell → cell < end → is_unprotected cell ≡ true → (k : ℕ) → first ≤ k → k < end → is_unprotected k ≡ true
  run_unprotected first end inside cell from to here_unprotected k low high =
      ⊎_elim
      (λ back. ⊎_elim (λ same. rw same here_unprotected)
      (λ less. let again : k + 1 - 1 ≡ k = omega arith in rw (← again) (joined-unprotected is_unprotected (k + 1) (inside (k + 1) (omega arith) (omega arith))).0)
      (eq-or-lt_of_le back))
      (λ on. (joined-unprotected is_unprotected k (inside k (omega arith) high)).1)
      (le_or_lt k cell)

  pub all_unprotected_around : (cells cell : ℕ) → is_unprotected cell ≡ true → UnprotectedAround is_unprotected cells cell
  all_unprotected_around cells cell here_unprotected =
      let low = (start_of cell).low in
      let high = (end_anywhere cells cell).high in
      record {
        low = low;
        high = high;
        all_unprotected = run_unprotected (field_start is_unprotected cell) (field_end is_unprotected cells cell) (joined_around cells cell) cell low high here_unprotected;
      }

-- A longest run of joined cells.
module _ (is_unprotected : ℕ → Bool) (cells : ℕ) where
  record IsRun (field : Field) : Type 0 where
    pub some-cells : field.start < end_of field
    pub on_page : end_of field ≤ cells
    pub inside : (k : ℕ) → field.start < k → k < end_of field → joined is_unprotected k ≡ true
    pub before : joined is_unprotected field.start ≡ false
    pub after : (end_of field ≡ cells) ⊎ (joined is_unprotected (end_of field) ≡ false)

  run_around : (cell : ℕ) → cell < cells → IsRun (field_around is_unprotected cells cell)
  run_around cell here =
      let left = start_of is_unprotected cell in
      let right = end_of_lem is_unprotected cells cell here in
      let end : end_of (field_around is_unprotected cells cell) ≡ field_end is_unprotected cells cell = omega arith in
      record {
        some-cells = omega arith;
        on_page = omega arith;
        inside = λ k over under. joined_around is_unprotected cells cell k over (omega arith);
        before = left.before;
        after = rw end right.after;
      }

  -- two runs that share a cell are one
  module _ {one other : Field} (run : IsRun one) (run' : IsRun other) (cell : ℕ) (in_one : one has cell) (in-other : other has cell) where
    starts_no_earlier : one.start < other.start → ⊥
    starts_no_earlier less = not_both (run.inside other.start less (omega arith)) run'.before

    ends_no_earlier : end_of one < end_of other → ⊥
    ends_no_earlier less =
        ⊎_elim (λ last. omega arith) (not_both (run'.inside (end_of one) (omega arith) less)) run.after

  one_run : {one other : Field} → IsRun one → IsRun other → (cell : ℕ) → one has cell → other has cell → one ≡ other
  one_run {one} {other} run run' cell in_one in-other =
      let left = starts_no_earlier run run' cell in_one in-other in
      let left' = starts_no_earlier run' run cell in-other in_one in
      let right = ends_no_earlier run run' cell in_one in-other in
      let right' = ends_no_earlier run' run cell in-other in_one in
      let starts : one.start ≡ other.start = omega arith in
      let lengths : one.length ≡ other.length = omega arith in
      λ i. record { start = starts i; length = lengths i }

  -- a run that has an unprotected cell is a field, and a field is a run
  module _ {field : Field} (run : IsRun field) (cell : ℕ) (here : field has cell) (here_unprotected : is_unprotected cell ≡ true) where
    all_unprotected : (k : ℕ) → field has k → is_unprotected k ≡ true
    all_unprotected k within = run_unprotected is_unprotected field.start (end_of field) run.inside cell here.0 here.1 here_unprotected k within.0 within.1

    field_of : IsField is_unprotected cells field
    field_of =
        record {
          some-cells = omega (arith, run.some-cells);
          on_page = run.on_page;
          all_unprotected = all_unprotected;
          none_before =
              ⊎_elim inl (⊎_elim inr (λ right. absurd (not_both (all_unprotected field.start (omega arith)) right)))
              (why_apart is_unprotected field.start run.before);
          none_after =
              ⊎_elim inl
              (λ apart. inr (⊎_elim (λ first. absurd (omega (arith, run.some-cells)))
              (⊎_elim (λ left. absurd (not_both (all_unprotected (end_of field - 1) (omega arith)) left)) (λ right. right))
              (why_apart is_unprotected (end_of field) apart)))
              run.after;
        }

  run_of : {field : Field} → IsField is_unprotected cells field → IsRun field
  run_of {field} is =
      record {
        some-cells = omega (arith, is.some-cells);
        on_page = is.on_page;
        inside = λ k over under.
            are_joined is_unprotected k
            (omega arith)
            (is.all_unprotected (k - 1) (omega arith))
            (is.all_unprotected k (omega arith));
        before = are_apart is_unprotected field.start (⊎_elim inl (λ left. inr (inl left)) is.none_before);
        after = ⊎_elim inl (λ apart. inr (are_apart is_unprotected (end_of field) (inr (inr apart)))) is.none_after;
      }

  pub same_field : {one other : Field} → IsField is_unprotected cells one → IsField is_unprotected cells other → (cell : ℕ) → one has cell → other has cell → one ≡ other
  same_field is is' = one_run (run_of is) (run_of is')

  pub around : (cell : ℕ) → cell < cells → is_unprotected cell ≡ true → IsAround is_unprotected cells cell
  around cell here here_unprotected =
      let start = field_start is_unprotected cell in
      let left = start_of is_unprotected cell in
      let right = end_of_lem is_unprotected cells cell here in
      let left' = start_of is_unprotected start in
      let right' = end_of_lem is_unprotected cells start (omega arith) in
      let run = run_around cell here in
      let same : field_around is_unprotected cells start ≡ field_around is_unprotected cells cell =
      one_run (run_around start (omega arith)) run start (omega arith) (omega arith) in
      record {
        is_field = field_of run cell (omega arith) here_unprotected;
        has_cell = (left.low, right.high);
        one_end = omega (arith, ap (λ (f : Field). f.start) same, ap (λ (f : Field). f.length) same);
      }
