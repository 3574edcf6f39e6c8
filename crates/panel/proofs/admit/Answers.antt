use mathlib.Core.Path.{sym, ap, ◌∙◌}
use mathlib.Core.List.{List}
use Prim.Native.Nat.{ℕ}
use native.Mathlib.Omega.{arith}
use lib.ListN.{length}
use Rattle.std.proofs.lemmas.Result.{err_from_is_err_and}
use Rattle.page.specs.Page.{page_of}
use Rattle.record.specs.Bytes.{number_at, read_each}
use Rattle.panel.specs.Panel.{lent_of, wrong_content}
use Rattle.panel.proofs.Marks.{said_there}
use Rattle.panel.proofs.Laws.{right_lengths, untouched_call, refused_call}
use Rattle.panel.proofs.admit.Goals as goal

pub returns-in_err-wrong_length : goal.returns-in_err-wrong_length
returns-in_err-wrong_length c =
    let refused = err_from_is_err_and c.from_residual.result c.from_residual.ensures.1 in
    let told = c.in_err-wrong_length.ensures in
    rw (refused.1, refused.2)
    (λ output call. untouched_call (lent_of c.args.packed.now c.args.characters.now c.args.marks.now output c.args.res.now) _ told.told call (omega (arith, told.some, told.told)))

pub read_numbers-requires : goal.read_numbers-requires
read_numbers-requires c =
    omega (arith, c.requires, said_there (length c.args.characters.now) (length c.args.marks.now))

pub tell-requires : goal.tell-requires
tell-requires c = (right_lengths c.args.packed.now c.args.res.now (omega (arith, c.in_ok-wrong_length.ensures))).1

pub returns-in-Err : goal.returns-in-Err
returns-in-Err c =
    let packed = c.args.packed.now in
    let characters = c.args.characters.now in
    let marks = c.args.marks.now in
    let own = c.read_numbers.ensures ∙ ap (read_each (number_at 2 marks) 2 0) c.requires in
    let told = c.in-Err.ensures in
    λ output call.
    refused_call (lent_of packed characters marks output c.args.res.now) 0 (sym c.in_ok-wrong_length.ensures) call (omega arith) _
    (told.told ∙ ap (λ (l : List ℕ). wrong_content packed (page_of characters l)) own)
    (omega (arith, told.some, told.told)) (rw c.number_of.ensures at c.tell.ensures)
