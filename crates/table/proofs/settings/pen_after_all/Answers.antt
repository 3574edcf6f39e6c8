use mathlib.Core.Path.{sym, ap, ◌∙◌}
use Rattle.std.specs.Prelude.{Some}
use Rattle.words.proofs.Choosing.{then_case, else_case}
use Rattle.words.proofs.Passing.{next_passes, next_fails, all_pass}
use Rattle.table.specs.Settings.{is_visual}
use Rattle.table.proofs.Walking.{listed, unlisted, next_value, all_values}
use Rattle.table.proofs.settings.pen_after_all.Goals as goal

pub returns-in_err-here : goal.returns-in_err-here
returns-in_err-here c =
    let other = next_fails is_visual 0 _ _ c.loop-value-test.true (unlisted _ _ c.in_err-here.ensures) in
    c.from_residual.ensures ∙ sym (else_case _ _ _ (c.loop-value.invariant.0 ∙ other))

pub loop-value-preserved : goal.loop-value-preserved
loop-value-preserved c =
    let one = listed _ _ _ c.in_ok-here.ensures in (
      c.loop-value.invariant.0 ∙ next_passes is_visual 0 _ _ c.loop-value-test.true one.0,
      rw one.1 (c.loop-value.invariant.1 ∙ next_value _ _ _ c.loop-value-test.true),
    )

pub returns : goal.returns
returns c =
    let pen = c.loop-value.invariant.1 ∙ all_values _ _ _ c.loop-value-test.false in
    let all = c.loop-value.invariant.0 ∙ all_pass is_visual 0 _ _ c.loop-value-test.false in
    ap Some (sym pen) ∙ sym (then_case _ _ _ all)
