use mathlib.Core.Path.{ap, ◌∙◌}
use mathlib.Core.List.{List, ◌++◌}
use Prim.Native.Nat.{ℕ, ◌-◌, ◌≤◌}
use native.Mathlib.Omega.{arith}
use lib.ListN.{length, take, drop}
use Rattle.words.proofs.Choosing.{then_case, else_case}
use Rattle.words.proofs.Writing.{length-each, next_changed, all_written, each_part, inside, outside_range}
use Rattle.page.specs.Marks.{with_modified}
use Rattle.page.specs.Page.{tagged}
use Rattle.page.proofs.editing.tag.Goals as goal

pub loop-mark-preserved : goal.loop-mark-preserved
loop-mark-preserved c = next_changed _ _ _ _ c.loop-mark.invariant (omega arith) _ c.with_attribute.ensures

pub returns : goal.returns
unfolding tagged
returns c =
    let from = c.args.from in
    let to = c.args.to in
    let marks = c.args.marks.now in
    let over : length (take (to - from) (drop from marks)) ≤ c.loop-mark.mark-index = omega arith in
    let part = c.loop-mark.invariant ∙ all_written _ _ _ (length-each _ _ _) over in
    ap (λ (now : List ℕ). take from marks ++ (now ++ drop (to - from) (drop from marks))) part
    ∙ each_part _ with_modified from (to - from) marks (omega arith)
    (λ k x h l. then_case _ _ _ (inside from to k h (omega arith)))
    (λ k x outside. else_case _ _ _ (outside_range from to k (λ h l. outside h (omega arith))))
