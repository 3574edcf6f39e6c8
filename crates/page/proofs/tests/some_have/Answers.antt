use mathlib.Core.Path.{◌∙◌}
use Prim.Native.Nat.{◌-◌}
use native.Mathlib.Omega.{arith}
use lib.ListN.{take, drop}
use Rattle.std.proofs.Common.{rules, tests}
use Rattle.std.proofs.lemmas.Iterator.{YieldsList-from_slice}
use Rattle.std.proofs.lemmas.Iterator.Search.{any_from_yields_List}
use Rattle.page.specs.Marks.{has_attribute}
use Rattle.page.proofs.Asking.{some_of_part}
use Rattle.page.proofs.tests.some_have.Goals as goal

pub returns : goal.returns
returns c =
    any_from_yields_List (has_attribute c.args.attribute) _ _ _ c.any.ensures.ran (YieldsList-from_slice (take (c.args.to - c.args.from) (drop c.args.from c.args.marks.now)) cc) (λ x b q k. search (rules, tests))
    ∙ some_of_part (has_attribute c.args.attribute) c.args.marks.now c.args.from (c.args.to - c.args.from) (omega arith)
