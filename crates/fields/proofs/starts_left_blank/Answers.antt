use mathlib.Core.Path.{sym, ◌∙◌}
use native.Mathlib.Omega.{arith}
use lib.ListN.{length}
use Rattle.words.proofs.Choosing.{first_decides, first_fails}
use Rattle.page.specs.Marks.{unprotected}
use Rattle.fields.proofs.Bounds.{end_of_lem}
use Rattle.fields.proofs.starts_left_blank.Goals as goal

pub is_left_blank-requires : goal.is_left_blank-requires
is_left_blank-requires c =
    let end = end_of_lem (unprotected c.args.marks.now) (length c.args.marks.now) c.args.cell c.requires.0 in
    (omega (arith, c.field_end.ensures, end.high), omega (arith, c.field_end.ensures, end.on_page), c.requires.1)

pub returns-then-starts_field : goal.returns-then-starts_field
returns-then-starts_field c =
    let starts = sym c.starts_field.ensures ∙ c.if-starts_field.true in
    c.is_left_blank.ensures ∙ rw c.field_end.ensures (sym (first_decides _ _ starts))

pub returns-else-starts_field : goal.returns-else-starts_field
returns-else-starts_field c =
    c.if-starts_field.false ∙ sym (first_fails _ _ (sym c.starts_field.ensures ∙ c.if-starts_field.false))
