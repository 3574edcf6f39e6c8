use mathlib.Core.Path.{refl, ap, ◌∙◌}
use native.Mathlib.Omega.{arith}
use Rattle.page.specs.Page.{page_of}
use Rattle.state.specs.declared.State.{State}
use Rattle.steps.specs.Steps.{Terminal, bytes_of, goes_to}
use Rattle.steps.specs.Told.{tells}
use Rattle.steps.proofs.Measuring.{measured}
use Rattle.steps.proofs.Writing.{told_silent}
use Rattle.commands.specs.Light.{is_light}
use Rattle.commands.proofs.Silent.{tab_silent, erase_silent}
use Rattle.commands.proofs.Finals.{not_listed, too_many, not_too_many, final_I, final_Z, final_W, final_J, final_K, final_n}
use Rattle.commands.proofs.Lightness.{no_move_left, no_setting_left}
use Rattle.commands.proofs.bracket_step.Goals as goal

pub returns-then-most-eq0 : goal.returns-then-most-eq0
unfolding bytes_of
returns-then-most-eq0 c =
    let t : Terminal = record { state = c.args.state; page = page_of c.args.characters.now c.args.marks.now } in
    λ before. rw (not_listed c.args.letter c.args.half t _ c.most_arguments-most.ensures c.if-most-eq0.true)
    (told_silent _ _ _ _ _ _ (c.refuse.ensures t.page) refl)

pub returns-then-most-half : goal.returns-then-most-half
unfolding bytes_of
returns-then-most-half c =
    let t : Terminal = record { state = c.args.state; page = page_of c.args.characters.now c.args.marks.now } in
    λ before. rw (too_many c.args.letter c.args.half t _ c.most_arguments-most.ensures c.if-most-eq0.false c.if-most-half.true)
    (told_silent _ _ _ _ _ _ (c.refuse-then-most-half.ensures t.page) refl)

pub tab_on-requires : goal.tab_on-requires
tab_on-requires c = (measured c.requires.valid).on_page

pub tab_back-requires : goal.tab_back-requires
tab_back-requires c = (measured c.requires.valid).on_page

pub tab_control-step-requires : goal.tab_control-step-requires
tab_control-step-requires c = (measured c.requires.valid).on_page

pub erase_part-step-requires : goal.erase_part-step-requires
erase_part-step-requires c = let inside = measured c.requires.valid in record { valid = c.requires.valid; first_bound = omega (arith, inside.cursor_inside, inside.as_many) }

pub status_report-requires : goal.status_report-requires
status_report-requires c = record { on_page = (measured c.requires.valid).on_page; at_in_bounds = c.requires.at_in_bounds.0 }

pub returns-in-73 : goal.returns-in-73
unfolding bytes_of
returns-in-73 c =
    let t : Terminal = record { state = c.args.state; page = page_of c.args.characters.now c.args.marks.now } in
    let passed = not_too_many c.args.letter c.args.half t _ c.most_arguments-most.ensures c.if-most-eq0.false c.if-most-half.false in
    λ before. rw (passed ∙ final_I _ _ _ _ t c.value-what.ensures c.in-73.is)
    (told_silent _ _ _ _ _ _ (c.quiet-step.ensures t.page ∙ ap (λ (s : State). tells (goes_to s t)) c.tab_on.ensures) refl)

pub returns-in-90 : goal.returns-in-90
unfolding bytes_of
returns-in-90 c =
    let t : Terminal = record { state = c.args.state; page = page_of c.args.characters.now c.args.marks.now } in
    let passed = not_too_many c.args.letter c.args.half t _ c.most_arguments-most.ensures c.if-most-eq0.false c.if-most-half.false in
    λ before. rw (passed ∙ final_Z _ _ _ _ t c.value-what.ensures c.in-90.is)
    (told_silent _ _ _ _ _ _ (c.quiet-step-in-90.ensures t.page ∙ ap (λ (s : State). tells (goes_to s t)) c.tab_back.ensures) refl)

pub returns-in-87 : goal.returns-in-87
returns-in-87 c =
    let t : Terminal = record { state = c.args.state; page = page_of c.args.characters.now c.args.marks.now } in
    let passed = not_too_many c.args.letter c.args.half t _ c.most_arguments-most.ensures c.if-most-eq0.false c.if-most-half.false in
    λ before. rw (passed ∙ final_W _ _ _ _ t c.value-what.ensures c.in-87.is)
    (told_silent _ _ _ _ _ _ (c.tab_control-step.ensures t.page) (tab_silent _ _ t))

pub returns-in-74 : goal.returns-in-74
returns-in-74 c =
    let t : Terminal = record { state = c.args.state; page = page_of c.args.characters.now c.args.marks.now } in
    let passed = not_too_many c.args.letter c.args.half t _ c.most_arguments-most.ensures c.if-most-eq0.false c.if-most-half.false in
    λ before. rw (passed ∙ final_J _ _ _ _ t c.value-what.ensures c.in-74.is)
    (told_silent _ _ _ _ _ _ c.erase_part-step.ensures (erase_silent _ _ _ _ t))

pub returns-in-75 : goal.returns-in-75
returns-in-75 c =
    let t : Terminal = record { state = c.args.state; page = page_of c.args.characters.now c.args.marks.now } in
    let passed = not_too_many c.args.letter c.args.half t _ c.most_arguments-most.ensures c.if-most-eq0.false c.if-most-half.false in
    λ before. rw (passed ∙ final_K _ _ _ _ t c.value-what.ensures c.in-75.is)
    (told_silent _ _ _ _ _ _ c.erase_row-step.ensures (erase_silent _ _ _ _ t))

pub returns-in_default : goal.returns-in_default
unfolding is_light
returns-in_default c =
    let t : Terminal = record { state = c.args.state; page = page_of c.args.characters.now c.args.marks.now } in
    let passed = not_too_many c.args.letter c.args.half t _ c.most_arguments-most.ensures c.if-most-eq0.false c.if-most-half.false in
    let rest = c.in_default.in_default-own.rest in
    let asked = c.requires.at_in_bounds in
    let move = no_move_left c.args.letter asked.1 rest.0.0.0.0.1 rest.0.0.0.1 in
    let setting = no_setting_left c.args.letter asked.1 in
    λ before. rw
    (passed ∙ final_n _ _ _ _ t c.value-what.ensures move rest.0.0.1 rest.0.1 rest.1 setting.0 setting.1 setting.2 setting.3)
    (c.status_report.ensures before t.page)
