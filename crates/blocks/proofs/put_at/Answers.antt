use mathlib.Core.Path.{sym, ◌∙◌}
use Prim.Native.Nat.{◌≤◌}
use native.Mathlib.Omega.{arith}
use lib.ListN.{length}
use Rattle.words.proofs.Output.{wrote_none, wrote_then}
use Rattle.page.specs.Page.{page_of}
use Rattle.page.specs.Marks.{unprotected}
use Rattle.places.proofs.Counting.{on_rows, some_columns}
use Rattle.blocks.proofs.Laws.{end_bounds, unstarted, unsent, sent_is, sent_length}
use Rattle.blocks.proofs.put_at.Goals as goal

pub returns-then-not-starts_field : goal.returns-then-not-starts_field
returns-then-not-starts_field c =
    let none = sym c.starts_field.ensures ∙ c.if-not-starts_field.true in
    rw (unstarted _ (page_of c.args.characters.now c.args.marks.now) c.args.place none) (wrote_none _ _)

pub is_in_block-requires : goal.is_in_block-requires
is_in_block-requires c =
    omega (arith, end_bounds (unprotected c.args.marks.now) (length c.args.marks.now) c.args.place.cell c.requires.columns_bound.1)

pub returns-then-not-is_in_block : goal.returns-then-not-is_in_block
returns-then-not-is_in_block c =
    let none = sym c.is_in_block.ensures ∙ c.if-not-is_in_block.true in
    rw (unsent _ (page_of c.args.characters.now c.args.marks.now) c.args.place c.requires.columns_bound.3 _ c.field_end-end.ensures none) (wrote_none _ _)

pub put_place-next-requires : goal.put_place-next-requires
put_place-next-requires c =
    let place = c.args.place in
    let marks = c.args.marks.now in
    let starts = sym c.starts_field.ensures ∙ c.if-not-starts_field.false in
    let sent = sym c.is_in_block.ensures ∙ c.if-not-is_in_block.false in
    let size = sent_length c.args.full (page_of c.args.characters.now marks) place c.requires.columns_bound.3 _ c.field_end-end.ensures (omega arith) starts sent in
    omega (arith, on_rows place 48 (some_columns 48 place.columns (omega arith)) (omega arith))

pub slice_bounds-put_all-count : goal.slice_bounds-put_all-count
slice_bounds-put_all-count c = omega (arith, end_bounds (unprotected c.args.marks.now) (length c.args.marks.now) c.args.place.cell c.requires.columns_bound.1)

pub slice_bounds-put_all-start : goal.slice_bounds-put_all-start
slice_bounds-put_all-start c = omega (arith, end_bounds (unprotected c.args.marks.now) (length c.args.marks.now) c.args.place.cell c.requires.columns_bound.1)

pub slice_bounds-put_all-end : goal.slice_bounds-put_all-end
slice_bounds-put_all-end c = omega (arith, end_bounds (unprotected c.args.marks.now) (length c.args.marks.now) c.args.place.cell c.requires.columns_bound.1)

pub put_all-requires : goal.put_all-requires
put_all-requires c =
    let place = c.args.place in
    let marks = c.args.marks.now in
    let starts = sym c.starts_field.ensures ∙ c.if-not-starts_field.false in
    let sent = sym c.is_in_block.ensures ∙ c.if-not-is_in_block.false in
    let size = sent_length c.args.full (page_of c.args.characters.now marks) place c.requires.columns_bound.3 _ c.field_end-end.ensures (omega arith) starts sent in
    let bounds = end_bounds (unprotected marks) (length marks) place.cell c.requires.columns_bound.1 in
    omega arith

pub returns : goal.returns
returns c =
    let place = c.args.place in
    let marks = c.args.marks.now in
    let starts = sym c.starts_field.ensures ∙ c.if-not-starts_field.false in
    let sent = sym c.is_in_block.ensures ∙ c.if-not-is_in_block.false in
    let room : c.args.at ≤ length c.args.out.now = omega arith in
    rw (sent_is c.args.full (page_of c.args.characters.now marks) place c.requires.columns_bound.3 _ c.field_end-end.ensures starts sent)
    (wrote_then room c.put_place-next.ensures c.put_all.ensures)
