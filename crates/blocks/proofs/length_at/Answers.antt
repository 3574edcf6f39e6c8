use mathlib.Core.Path.{sym, ap, ◌∙◌}
use Prim.Native.Nat.{ℕ}
use native.Mathlib.Omega.{arith}
use lib.ListN.{length}
use Rattle.page.specs.Page.{page_of}
use Rattle.page.specs.Marks.{unprotected}
use Rattle.output.proofs.Digits.{place_long}
use Rattle.blocks.proofs.Laws.{end_bounds, unstarted, unsent, sent_length}
use Rattle.blocks.proofs.length_at.Goals as goal

pub returns-then-not-starts_field : goal.returns-then-not-starts_field
returns-then-not-starts_field c = let none = sym c.starts_field.ensures ∙ c.if-not-starts_field.true in record { by_index = λ characters same. sym (ap (length {A = ℕ}) (unstarted _ (page_of characters c.args.marks.now) c.args.place none)); upper_bound = omega arith }

pub is_in_block-requires : goal.is_in_block-requires
is_in_block-requires c =
    omega (arith, end_bounds (unprotected c.args.marks.now) (length c.args.marks.now) c.args.place.cell c.requires.0)

pub returns-then-not-is_in_block : goal.returns-then-not-is_in_block
returns-then-not-is_in_block c = let none = sym c.is_in_block.ensures ∙ c.if-not-is_in_block.true in record { by_index = λ characters same. sym (ap (length {A = ℕ}) (unsent _ (page_of characters c.args.marks.now) c.args.place same _ c.field_end-end.ensures none)); upper_bound = omega arith }

pub overflow_sub-result : goal.overflow_sub-result
overflow_sub-result c =
    let place = c.args.place in
    let marks = c.args.marks.now in
    let bounds = end_bounds (unprotected marks) (length marks) place.cell c.requires.0 in
    omega arith

pub overflow_add-result : goal.overflow_add-result
overflow_add-result c =
    let place = c.args.place in
    let marks = c.args.marks.now in
    let bounds = end_bounds (unprotected marks) (length marks) place.cell c.requires.0 in
    omega (arith, c.place_length.ensures.upper_bound)

pub returns : goal.returns
returns c = let place = c.args.place in
    let marks = c.args.marks.now in
    let bounds = end_bounds (unprotected marks) (length marks) place.cell c.requires.0 in
    let starts = sym c.starts_field.ensures ∙ c.if-not-starts_field.false in
    let sent = sym c.is_in_block.ensures ∙ c.if-not-is_in_block.false in
    let head = c.place_length.ensures in record {
      by_index = λ characters same.
          omega (arith, head.value, place_long place.row place.column 0, place_long place.row place.column 0x66, sent_length _ (page_of characters marks) place same _ c.field_end-end.ensures (rw same c.requires.0) starts sent);
      upper_bound = omega (arith, head.upper_bound);
    }
