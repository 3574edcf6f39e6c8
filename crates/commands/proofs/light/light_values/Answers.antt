use mathlib.Core.Path.{sym, ◌∙◌}
use native.Mathlib.Omega.{arith}
use borrow.Author.Rules.{rules}
use Rattle.commands.proofs.Finals.{as_many_arguments, final_m, final_h, final_l}
use Rattle.commands.proofs.light.light_values.Goals as goal

pub returns-in-109 : goal.returns-in-109
returns-in-109 c =
    λ page.
    let all = as_many_arguments c.args.half.count 8 c.min.result c.args.half.arguments (search rules) (rw c.from.ensures at c.min.ensures) in
    rw all at (c.rendition.ensures page) ∙ sym (final_m _ _ _ _ c.in-109.is)

pub returns-in-104 : goal.returns-in-104
returns-in-104 c =
    λ page.
    let all = as_many_arguments c.args.half.count 8 c.min.result c.args.half.arguments (search rules) (rw c.from.ensures at c.min.ensures) in
    rw all at (c.set_mode.ensures page) ∙ sym (final_h _ _ _ _ c.in-104.is)

pub returns-in_default : goal.returns-in_default
returns-in_default c =
    λ page.
    let all = as_many_arguments c.args.half.count 8 c.min.result c.args.half.arguments (search rules) (rw c.from.ensures at c.min.ensures) in
    rw all at (c.set_mode-in_default.ensures page) ∙ sym (final_l _ _ _ _ (c.requires (λ m. grind arith) (λ h. grind arith)))
