use mathlib.Core.Path.{sym, ◌∙◌}
use native.Mathlib.Nat.{zero-mul}
use native.Mathlib.Omega.{arith}
use Rattle.places.proofs.Counting.{cell_is}
use Rattle.steps.proofs.Measuring.{measured}
use Rattle.commands.proofs.Runs.{sets_out, goes_on, stops_here, ends_here, next_in_row, cell_in_row, next_row, cell_in_next_row, round_the_page}
use Rattle.commands.proofs.texts.text_run.Goals as goal
use Rattle.commands.proofs.texts.text_run.Goals.{then-column-state, else-column-state+then-row-state, else-column-state+else-row-state}

pub place-place-requires : goal.place-place-requires
place-place-requires c = (measured c.requires.valid).on_page

pub loop-at-init : goal.loop-at-init
loop-at-init c =
    record { going = sets_out _ _ _ c.requires.valid; cell_is = cell_is _ _ c.place-place.ensures }

-- A byte that is no text.
pub returns-then-not-is_text : goal.returns-then-not-is_text
returns-then-not-is_text c =
    let other = sym c.is_text.ensures ∙ c.if-not-is_text.true in
    let all = stops_here c.loop-at.invariant.going c.loop-at-test.true other in
    record { marks_after = rw c.ended.ensures all.0; end_value = rw c.ended.ensures all.1 }

pub store_text-requires : goal.store_text-requires
store_text-requires c =
    let inv = c.loop-at.invariant in
    let known = measured inv.going.valid in
    (omega (arith, known.cursor_inside, inv.cell_is), known.as_many)

pub overflow_add-cell : goal.overflow_add-cell
overflow_add-cell c =
    let inv = c.loop-at.invariant in
    let known = measured inv.going.valid in
    omega (arith, known.cursor_inside, inv.cell_is, c.well_formed)

pub overflow_add-column : goal.overflow_add-column
overflow_add-column c =
    let on-page = (measured c.loop-at.invariant.going.valid).on_page in
    omega (arith, c.if-column-state.true, on-page.columns_most)

pub overflow_add-row : goal.overflow_add-row
overflow_add-row c =
    let on-page = (measured c.loop-at.invariant.going.valid).on_page in
    omega (arith, c.if-row-state.true, on-page.rows_most)

-- A turn is a step of text: in the row, into the next one, and round the page.
pub loop-at-preserved : goal.loop-at-preserved
loop-at-preserved c =
    let on-page = (measured c.loop-at.invariant.going.valid).on_page in
    let text = sym c.is_text.ensures ∙ c.if-not-is_text.false in
    let stored = c.store_text.ensures in
    let more = c.loop-at-test.true in
    let inv = c.loop-at.invariant in
    elim c.if-column-state.branch [
      | then-column-state w ↦
          rw (w.cell-is, w.row-is, w.column-is)
          (record {
            going = goes_on inv.going more text _ _ _ (next_in_row c.args.state c.loop-at.row c.loop-at.column w.if-column-state.true) stored inv.cell_is;
            cell_is = omega (arith, inv.cell_is, cell_in_row c.args.state c.loop-at.row c.loop-at.column w.if-column-state.true on-page.column_least);
          })
      | else-column-state+then-row-state w ↦
          rw (w.cell-is, w.row-is, w.column-is)
          (record {
            going = goes_on inv.going more text _ _ _ (next_row c.args.state c.loop-at.row c.loop-at.column w.if-column-state.false w.if-row-state.true) stored inv.cell_is;
            cell_is = omega (arith, inv.cell_is, cell_in_next_row c.args.state c.loop-at.row c.loop-at.column w.if-column-state.false on-page);
          })
      | else-column-state+else-row-state w ↦
          rw (w.cell-is, w.row-is, w.column-is)
          (record {
            going = goes_on inv.going more text _ _ _ (round_the_page c.args.state c.loop-at.row c.loop-at.column w.if-column-state.false w.if-row-state.false) stored inv.cell_is;
            cell_is = omega (arith, zero-mul c.args.state.size.columns);
          })
    ]

-- No byte is left.
pub returns : goal.returns
returns c =
    let all = ends_here c.loop-at.invariant.going c.loop-at-test.false in
    record { marks_after = rw c.ended-2.ensures all.0; end_value = rw c.ended-2.ensures (omega (arith, all.1)) }
