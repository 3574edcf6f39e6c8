use mathlib.Core.Path.{sym, ap, ◌∙◌}
use Rattle.blocks.specs.Blocks.{entry_bytes}
use Rattle.copy.proofs.Laws.{found_here, passed_by, found_nowhere}
use Rattle.copy.proofs.laid_part.Goals as goal

pub returns-then-same_head : goal.returns-then-same_head
returns-then-same_head c = λ entry valid is.
    found_here c.in-Some.ensures.steps entry valid is (sym c.same_head.ensures ∙ c.if-same_head.true)
    ∙ ap entry_bytes (sym (c.loop-sent.invariant entry valid is))

pub loop-sent-preserved : goal.loop-sent-preserved
loop-sent-preserved c = λ entry valid is.
    c.loop-sent.invariant entry valid is
    ∙ passed_by c.in-Some.ensures.steps entry valid is (sym c.same_head.ensures ∙ c.if-same_head.false)

pub returns : goal.returns
returns c = λ entry valid is.
    is ∙ ap entry_bytes (sym (c.loop-sent.invariant entry valid is ∙ found_nowhere _ c.in-None.ensures.steps entry))
