use mathlib.Core.Path.{sym, ◌∙◌}
use native.Mathlib.Omega.{arith}
use Rattle.steps.specs.Steps.{Terminal}
use Rattle.steps.specs.Light.{light_step}
use Rattle.commands.proofs.Finals.{too_many, not_too_many, final_move, final_o}
use Rattle.commands.proofs.Lightness.{light_listed, plain_left, plain_is_move}
use Rattle.commands.proofs.light.light_final.Goals as goal

pub returns-then-most_arguments-half : goal.returns-then-most_arguments-half
unfolding light_step
returns-then-most_arguments-half c =
    λ page.
    let t : Terminal = record { state = c.args.state; page = page } in
    let asked = c.most_arguments.ensures in
    let light = light_listed c.args.letter c.requires.light in
    sym (too_many c.args.letter c.args.half t _ asked (λ none. light (sym asked ∙ none)) c.if-most_arguments-half.true)

pub move_command-requires : goal.move_command-requires
move_command-requires c = record { on_page = c.requires.on_page; plain_move = plain_left c.args.letter c.requires.light (λ o. grind arith) (λ m. grind arith) (λ h. grind arith) (λ l. grind arith) }

pub returns-in-111 : goal.returns-in-111
returns-in-111 c =
    λ page.
    let t : Terminal = record { state = c.args.state; page = page } in
    let asked = c.most_arguments.ensures in
    let light = light_listed c.args.letter c.requires.light in
    let passed = not_too_many c.args.letter c.args.half t _ asked (λ none. light (sym asked ∙ none)) c.if-most_arguments-half.false in
    c.qualify_area.ensures page ∙ sym (passed ∙ final_o _ _ _ _ t c.value.ensures c.in-111.is)

pub light_values-requires : goal.light_values-requires
light_values-requires c = λ m h. grind arith

pub returns-in-109 : goal.returns-in-109
returns-in-109 c =
    λ page.
    let t : Terminal = record { state = c.args.state; page = page } in
    let asked = c.most_arguments.ensures in
    let light = light_listed c.args.letter c.requires.light in
    let passed = not_too_many c.args.letter c.args.half t _ asked (λ none. light (sym asked ∙ none)) c.if-most_arguments-half.false in
    c.light_values.ensures page ∙ sym passed

pub returns-in_default : goal.returns-in_default
returns-in_default c =
    λ page.
    let t : Terminal = record { state = c.args.state; page = page } in
    let asked = c.most_arguments.ensures in
    let light = light_listed c.args.letter c.requires.light in
    let passed = not_too_many c.args.letter c.args.half t _ asked (λ none. light (sym asked ∙ none)) c.if-most_arguments-half.false in
    let plain = plain_left c.args.letter c.requires.light (λ o. grind arith) (λ m. grind arith) (λ h. grind arith) (λ l. grind arith) in
    let move = plain_is_move c.args.letter plain in
    c.move_command.ensures page ∙ sym (passed ∙ final_move _ _ _ t move)
