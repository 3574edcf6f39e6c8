use mathlib.Core.Path.{sym, ◌∙◌}
use lib.Seq.{length-take-le}
use Rattle.samples.proofs.Laws.{whole_rest, in_two}
use Rattle.samples.proofs.host_in_two.Goals as goal

pub slice_bounds-host-end : goal.slice_bounds-host-end
slice_bounds-host-end c = sym (length-take-le _ _ c.place_of_cut-at.ensures.0)

pub returns : goal.returns
returns c =
    let cut = c.place_of_cut-at.ensures in
    in_two _ _ _ _ _ cut.1 (whole_rest _ _ cut.0 ∙ cut.2) c.host-first.ensures c.host-second.ensures
