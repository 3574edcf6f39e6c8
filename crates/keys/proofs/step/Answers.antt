use mathlib.Core.Path.{sym, ◌∙◌}
use native.Mathlib.Omega.{arith}
use Rattle.page.specs.Page.{page_of}
use Rattle.steps.specs.Steps.{Terminal}
use Rattle.keys.proofs.Silent.{typing_range, key_told, typing_told, sending_told}
use Rattle.keys.proofs.step.Goals as goal

pub overflow_cast-key : goal.overflow_cast-key
overflow_cast-key c =
    let range = typing_range _ (sym c.is_typing.ensures ∙ c.if-is_typing.true) in
    omega arith

pub returns-then-is_typing : goal.returns-then-is_typing
returns-then-is_typing c =
    let t : Terminal = record { state = c.args.state; page = page_of c.args.characters.now c.args.marks.now } in
    typing_told c.args.key t c.args.out.now c.requires.marks_value c.requires.marks_value_2 (sym c.is_typing.ensures ∙ c.if-is_typing.true) c.type_character.ensures

pub returns-then-key-eq266 : goal.returns-then-key-eq266
returns-then-key-eq266 c =
    let t : Terminal = record { state = c.args.state; page = page_of c.args.characters.now c.args.marks.now } in
    sending_told c.args.key t c.args.out.now c.requires.marks_value c.requires.marks_value_2 c.if-key-eq266.true (c.send_block.ensures _)

pub act-requires : goal.act-requires
act-requires c = record { valid = c.requires.valid; key_value = (sym c.is_typing.ensures ∙ c.if-is_typing.false, c.if-key-eq266.false) }

pub returns : goal.returns
returns c =
    let t : Terminal = record { state = c.args.state; page = page_of c.args.characters.now c.args.marks.now } in
    key_told c.args.key t c.args.out.now c.requires.marks_value c.requires.marks_value_2 c.if-key-eq266.false c.act.ensures
