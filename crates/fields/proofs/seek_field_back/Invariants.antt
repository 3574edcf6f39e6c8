use Rattle.page.specs.Marks.{unprotected}
use Rattle.fields.specs.Fields.{starts_field}
use Rattle.fields.proofs.Walks.{Back}
use Rattle.fields.proofs.seek_field_back.Given as goal

-- no cell at which a field starts has been passed
abbrev pub invariant-loop-here : goal.invariant-loop-here
invariant-loop-here l = Back (starts_field (unprotected l.marks)) l.fn.place l.here-iterator.here
