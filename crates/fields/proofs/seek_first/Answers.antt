use mathlib.Core.Path.{ap, ◌∙◌}
use Prim.Native.Nat.{ℕ, ◌-◌}
use native.Mathlib.Omega.{arith}
use Rattle.places.proofs.Counting.{cell_is, columns_are}
use Rattle.fields.specs.Searches.{first_unprotected_from}
use Rattle.fields.proofs.Walks.{all_cells}
use Rattle.fields.proofs.seek_first.Goals as goal

pub seek-requires-clause-on_page : goal.seek-requires-clause-on_page
seek-requires-clause-on_page g c = (omega (arith, cell_is _ _ c.first.ensures), c.requires.on_page)

pub returns : goal.returns
returns g c passes agree =
    let first = c.first.result.cell in
    c.seek.ensures passes agree
    ∙ ap (λ (k : ℕ). first_unprotected_from passes k first (c.args.cells - first)) (columns_are _ _ c.first.ensures)
    ∙ all_cells _ _ _ (cell_is _ _ c.first.ensures) _
