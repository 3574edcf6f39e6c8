use mathlib.Core.Path.{sym, ap, ◌∙◌}
use native.Mathlib.Omega.{arith}
use Rattle.words.proofs.Choosing.{first_holds, second_decides}
use Rattle.blocks.specs.Blocks.{some_modified, is_in_block}
use Rattle.blocks.proofs.is_in_block.Goals as goal

pub returns-then-full : goal.returns-then-full
unfolding is_in_block
returns-then-full c = c.if-full.true ∙ sym (first_holds _ _ c.if-full.true)

pub returns-else-full : goal.returns-else-full
unfolding is_in_block
returns-else-full c =
    let as_long = ap (some_modified c.args.marks.now c.args.from) (omega arith) in
    c.some_have.ensures ∙ as_long ∙ sym (second_decides _ _ c.if-full.false)
