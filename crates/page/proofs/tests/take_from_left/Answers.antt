use mathlib.Core.Path.{◌≡◌, ◌∙◌}
use Prim.Native.Nat.{◌+◌, ◌-◌}
use native.Mathlib.Omega.{arith}
use lib.ListN.{get_or}
use Rattle.page.specs.Marks.{takes}
use Rattle.page.specs.Page.{takes_from_left}
use Rattle.page.proofs.Asking.{parts_take}
use Rattle.page.proofs.tests.take_from_left.Goals as goal

pub returns : goal.returns
unfolding takes_from_left
returns c =
    let from = c.args.from in
    let to = c.args.to in
    let marks = c.args.marks.now in
    let characters = c.args.characters.now in
    c.all_take.ensures
    ∙ parts_take (λ here. takes (get_or marks (here + 1) 0) (get_or characters here 0)) marks characters 1 0 from (to - from - 1)
    (λ k. let same : k + 0 ≡ k = omega arith in rw same) (omega arith) (omega arith) (from + 1) from (to - (from + 1)) (to - 1 - from) (omega arith) (omega arith) (omega arith) (omega arith)
