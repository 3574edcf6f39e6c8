use mathlib.Core.Path.{ap, ◌∙◌}
use Prim.Native.Nat.{ℕ, ◌*◌, ◌≤◌, min}
use lib.Dec.{eqb}
use lib.ListN.{take}
use Rattle.std.specs.Bool.{then_some}
use Rattle.page.specs.Page.{page_of}
use Rattle.terminal.specs.Calls.{start_call}
use native.Mathlib.Nat.{mul-le-mul_right}
use native.Mathlib.Omega.{arith}
use Rattle.terminal.specs.Answers.{Outcome}
use Rattle.frames.specs.Held.{lent}
use Rattle.frames.proofs.Starting.{start_sends_nothing, start_did}
use Rattle.frames.proofs.start_call.Goals as goal

pub overflow_mul-rows : goal.overflow_mul-rows
overflow_mul-rows c =
    let rows-most : c.from-rows.result ≤ 255 = omega arith in
    let product = mul-le-mul_right c.from-columns.result rows-most in
    omega (arith, product)

pub print-end-requires : goal.print-end-requires
print-end-requires c =
    let sent = ap (λ (o : Outcome). o.sent) c.start-reply.ensures ∙ start_sends_nothing _ _ in
    (omega (arith, sent), omega (arith, sent), c.requires.text)

pub returns : goal.returns
returns c before =
    let held = c.then_some.ensures ∙ ap (λ (n : ℕ). then_some (eqb n 0) (record { cells = c.min-cells.result; state = c.start-reply.result.state })) c.number_of-good.ensures in
    let page = page_of (take c.min-cells.result c.args.characters.now) (take c.min-cells.result c.args.marks.now) in
    start_did c.args.rows c.args.columns c.min-cells.result c.args.from c.print-end.result
    (lent c.args.characters.now c.args.marks.now c.args.out.now c.args.text.now) c.requires
    (c.min-cells.ensures ∙ (λ i. min (c.from-rows.ensures i * c.from-columns.ensures i) 7680))
    c.start-reply.result _ _ _ (c.start-reply.ensures ∙ (λ i. start_call (record { rows = c.from-rows.ensures i; columns = c.from-columns.ensures i }) page)) c.print-end.ensures before held
