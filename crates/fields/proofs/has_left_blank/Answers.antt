use mathlib.Core.Path.{sym, ap, ◌∙◌}
use Prim.Native.Nat.{ℕ}
use Rattle.words.specs.Lists.{some}
use Rattle.words.proofs.Choosing.{first_decides, first_fails}
use Rattle.page.specs.Marks.{unprotected}
use Rattle.page.specs.Page.{page_of}
use Rattle.fields.specs.Fields.{fields_of}
use Rattle.fields.specs.Required.{is_left_blank, some_left_blank}
use Rattle.fields.proofs.Blank.{required_somewhere}
use Rattle.fields.proofs.has_left_blank.Goals as goal

pub returns-then-some_have : goal.returns-then-some_have
unfolding some_left_blank
returns-then-some_have c =
    let page = page_of c.args.characters.now c.args.marks.now in
    let required = sym (required_somewhere _) ∙ sym c.some_have.ensures ∙ c.if-some_have.true in
    c.seek_left_blank.ensures
    ∙ ap (λ (all : ℕ). some (is_left_blank page) (fields_of (unprotected page.marks) all)) (sym c.requires)
    ∙ sym (first_decides _ _ required)

pub returns-else-some_have : goal.returns-else-some_have
unfolding some_left_blank
returns-else-some_have c =
    let not-required = sym (required_somewhere _) ∙ sym c.some_have.ensures ∙ c.if-some_have.false in
    c.if-some_have.false ∙ sym (first_fails _ _ not-required)
