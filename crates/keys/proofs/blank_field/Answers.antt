use native.Mathlib.Omega.{arith}
use Rattle.words.specs.Choice.{If◌then◌else◌}
use Rattle.page.specs.Page.{page_of}
use Rattle.places.specs.Places.{place_of}
use Rattle.places.proofs.Counting.{cell_is}
use Rattle.steps.specs.Steps.{Terminal}
use Rattle.keys.specs.Keys.{gone_to, cells_from, field_blanked}
use Rattle.steps.specs.Seen.{start_here, end_here}
use Rattle.steps.proofs.Measuring.{measured}
use Rattle.keys.proofs.Laws.{found, is_unprotected, stays, run_counted, starts_before, start_is, rest_on_page, end_is}
use Rattle.keys.proofs.blank_field.Goals as goal

pub returns-then-not-stands_unprotected : goal.returns-then-not-stands_unprotected
unfolding field_blanked
returns-then-not-stands_unprotected c = stays _ _ c.stands_unprotected.ensures c.if-not-stands_unprotected.true-raw (c.quiet.ensures _)

pub place-place-requires : goal.place-place-requires
place-place-requires c = (measured c.requires).on_page

pub field_start-start-requires : goal.field_start-start-requires
field_start-start-requires c = (found c.requires c.place-place.ensures).inside

pub field_end-end-requires : goal.field_end-end-requires
field_end-end-requires c =
    (found c.requires c.place-place.ensures).inside

pub blank_cells-requires : goal.blank_cells-requires
blank_cells-requires c =
    let valid = c.requires in
    let here = found valid c.place-place.ensures in
    let left = starts_before here c.field_start-start.ensures in
    let right = rest_on_page valid in
    let ends = end_is here c.field_end-end.ensures in
    (omega (arith, here.cell, left, right.some, ends), omega (arith, right.on_page, ends), right.as_many)

pub overflow_sub-end : goal.overflow_sub-end
overflow_sub-end c =
    let valid = c.requires in
    let here = found valid c.place-place.ensures in
    let left = starts_before here c.field_start-start.ensures in
    let right = rest_on_page valid in
    let ends = end_is here c.field_end-end.ensures in
    omega (arith, here.cell, left, right.some, ends)

pub returns : goal.returns
unfolding field_blanked gone_to place_of If◌then◌else◌
returns c =
    let here = found c.requires c.place-place.ensures in
    let cell-unprotected = is_unprotected c.stands_unprotected.ensures c.if-not-stands_unprotected.false-raw in
    let starts = start_is here c.field_start-start.ensures in
    let ends = end_is here c.field_end-end.ensures in
    let t : Terminal = record { state = c.args.state; page = page_of c.args.characters.now c.args.marks.now } in
    rw (cell-unprotected, c.stored.ensures (cells_from (start_here t) (end_here t)) _ (run_counted _ _ (cell_is _ _ starts) ends), c.moved_to.ensures, c.blank_cells.ensures, ends, starts)
