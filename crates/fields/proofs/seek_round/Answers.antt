use mathlib.Core.Path.{◌∙◌}
use Prim.Native.Nat.{◌+◌, ◌-◌}
use native.Mathlib.Omega.{arith}
use borrow.Author.Rules.{rules}
use Rattle.fields.specs.Searches.{first_unprotected_from, first_unprotected, next_unprotected}
use Rattle.places.proofs.Counting.{cell_is, columns_are}
use Rattle.fields.proofs.Walks.{found_or_else}
use Rattle.fields.proofs.seek_round.Goals as goal

pub seek-after-requires-clause-on_page : goal.seek-after-requires-clause-on_page
seek-after-requires-clause-on_page g c = (omega (arith, cell_is _ _ c.next.ensures), c.requires.on_page.1)

pub returns : goal.returns
unfolding next_unprotected
returns g c passes agree =
    let cells = c.args.cells in
    let columns = c.args.place.columns in
    let after = c.args.place.cell + 1 in
    let cell = cell_is _ _ c.next.ensures in
    let same = columns_are _ _ c.next.ensures in
    found_or_else (first_unprotected_from passes columns after (cells - after)) (first_unprotected passes columns cells) _
    (c.seek-after.ensures passes agree ∙ (λ i. first_unprotected_from passes (same i) (cell i) (cells - cell i)))
    c.or_else.ensures (λ found. search rules)
