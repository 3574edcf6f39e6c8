use mathlib.Core.Path.{sym, ap, ◌∙◌}
use mathlib.Core.List.{List, []}
use Prim.Native.Nat.{ℕ}
use native.Mathlib.Omega.{arith}
use lib.ListN.{length}
use Rattle.page.specs.Page.{page_of}
use Rattle.state.specs.declared.Size.{Size}
use Rattle.terminal.specs.Calls.{start_call}
use Rattle.record.specs.Bytes.{number_at, read_each}
use Rattle.panel.specs.Panel.{lent_of}
use Rattle.panel.proofs.Marks.{own_fit, own_length, said_there}
use Rattle.panel.proofs.Laws.{right_lengths, handed_on, start_untouched, start_done}
use Rattle.panel.proofs.panel_start.Goals as goal

pub returns-in-Err : goal.returns-in-Err
returns-in-Err c =
    let lent = lent_of c.args.packed.now c.args.characters.now c.args.marks.now [] c.args.res.now in
    let told = c.in-Err.ensures in
    rw c.number_of.ensures (start_untouched lent _ told.told c.args.rows c.args.columns (omega (arith, told.some, told.told)))

pub slice_bounds-room-end : goal.slice_bounds-room-end
slice_bounds-room-end c = own_fit _ _ _ c.marks_said-cells.ensures

pub slice_bounds-own-end : goal.slice_bounds-own-end
slice_bounds-own-end c = sym (own_length _ _ _ c.marks_said-cells.ensures)

pub read_numbers-requires : goal.read_numbers-requires
read_numbers-requires c =
    let said = c.marks_said-cells.ensures in
    omega (arith, own_length _ _ _ said, said, said_there (length c.args.characters.now) (length c.args.marks.now))

pub hand_on-requires-clause-packed_len : goal.hand_on-requires-clause-packed_len
hand_on-requires-clause-packed_len c = (right_lengths c.args.packed.now c.args.res.now (omega (arith, c.in_default.ensures))).0

pub hand_on-requires-clause-res_len : goal.hand_on-requires-clause-res_len
hand_on-requires-clause-res_len c = (right_lengths c.args.packed.now c.args.res.now (omega (arith, c.in_default.ensures))).1

pub pack_marks-requires : goal.pack_marks-requires
pack_marks-requires c =
    let said = c.marks_said-cells.ensures in
    omega (arith, own_length _ _ _ said, said, said_there (length c.args.characters.now) (length c.args.marks.now), c.start-reply.auto, c.read_numbers.auto)

pub returns : goal.returns
returns c =
    let size : Size = record { rows = c.args.rows; columns = c.args.columns } in
    let marks = c.args.marks.now in
    let lent = lent_of c.args.packed.now c.args.characters.now marks [] c.args.res.now in
    let said = c.marks_said-cells.ensures in
    let own = c.read_numbers.ensures ∙ ap (read_each (number_at 2 marks) 2 0) (own_length _ _ _ said ∙ said) in
    let told = c.hand_on.ensures in
    handed_on lent c.start-reply.result _ _ told.value told.packed_after c.pack_marks.ensures told.res_after
    ∙ start_done lent 0 (sym c.in_default.ensures) c.args.rows c.args.columns (omega arith) _
    (c.start-reply.ensures ∙ ap (λ (l : List ℕ). start_call size (page_of c.args.characters.now l)) own)
