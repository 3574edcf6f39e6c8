use mathlib.Core.Path.{sym, ◌∙◌}
use Rattle.std.proofs.lemmas.Result.{err_from_is_err_and}
use Rattle.samples.proofs.Copying.{lays_where_answered, lays_nothing}
use Rattle.samples.proofs.lay_later.Goals as goal

pub returns-then-not-all_done : goal.returns-then-not-all_done
returns-then-not-all_done c = lays_nothing _ _ _ (sym c.all_done.ensures ∙ c.if-not-all_done.true)

pub returns-in_err-bytes : goal.returns-in_err-bytes
returns-in_err-bytes c =
    let refused = err_from_is_err_and c.from_residual.result c.from_residual.ensures.1 in
    rw (refused.1, refused.2) (lays_where_answered _ _ _ (sym c.all_done.ensures ∙ c.if-not-all_done.false) c.in_err-bytes.ensures)

pub returns : goal.returns
returns c = lays_where_answered _ _ _ (sym c.all_done.ensures ∙ c.if-not-all_done.false) c.in_ok-bytes.ensures
