use mathlib.Core.Path.{sym, ◌∙◌}
use native.Mathlib.Omega.{arith}
use Rattle.fields.specs.Fields.{fields_of}
use Rattle.places.proofs.Counting.{cell_is, columns_are, some_columns}
use Rattle.fields.proofs.last_field.Goals as goal

pub end-requires : goal.end-requires
end-requires c = (c.requires.1, some_columns c.args.rows c.args.columns (omega arith), c.requires.2)

pub seek_field_back-requires : goal.seek_field_back-requires
seek_field_back-requires c = omega (arith, cell_is _ _ c.end.ensures, c.requires.3)

pub returns : goal.returns
unfolding fields_of
returns c =
    let all = cell_is _ _ c.end.ensures ∙ sym c.requires.3 in
    c.seek_field_back.ensures ∙ rw (columns_are _ _ c.end.ensures, all)
