use mathlib.Core.Path.{◌∙◌}
use Prim.Native.Nat.{◌-◌}
use native.Mathlib.Omega.{arith}
use lib.Dec.{eqb}
use lib.ListN.{take, drop}
use Rattle.std.proofs.Common.{rules, tests}
use Rattle.std.proofs.lemmas.Iterator.{YieldsList-from_slice}
use Rattle.std.proofs.lemmas.Iterator.Search.{all_from_yields_List}
use Rattle.page.proofs.Asking.{all_of_part}
use Rattle.page.proofs.tests.is_all_blank.Goals as goal

pub returns : goal.returns
returns c =
    all_from_yields_List (λ character. eqb character 0x20) _ _ _ c.all.ensures.ran (YieldsList-from_slice (take (c.args.to - c.args.from) (drop c.args.from c.args.characters.now)) cc) (λ x b q k. search (rules, tests))
    ∙ all_of_part (λ character. eqb character 0x20) c.args.characters.now c.args.from (c.args.to - c.args.from) (omega arith)
