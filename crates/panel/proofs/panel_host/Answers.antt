use mathlib.Core.Path.{sym, ap, ◌∙◌}
use native.Mathlib.Omega.{arith}
use lib.ListN.{length}
use Rattle.state.specs.declared.State.{State}
use Rattle.steps.specs.Steps.{Terminal, terminal_of}
use Rattle.terminal.specs.Calls.{host_call}
use Rattle.panel.specs.Panel.{lent_of, panel_host}
use Rattle.panel.proofs.Marks.{own_fit, own_length, read_there}
use Rattle.panel.proofs.Laws.{right_lengths, admitted_call}
use Rattle.panel.proofs.panel_host.Goals as goal

pub slice_bounds-room-end : goal.slice_bounds-room-end
slice_bounds-room-end c = own_fit _ _ _ c.marks_said-cells.ensures

pub slice_bounds-own-end : goal.slice_bounds-own-end
slice_bounds-own-end c = sym (own_length _ _ _ c.marks_said-cells.ensures)

pub admit-requires : goal.admit-requires
admit-requires c = let said = c.marks_said-cells.ensures in own_length _ _ _ said ∙ said

pub returns-in-Err : goal.returns-in-Err
unfolding panel_host
returns-in-Err c = rw c.number_of.ensures (c.in-Err.ensures c.args.out.now (λ (t : Terminal). host_call t c.args.bytes.now c.args.out.now))

pub hand_on-requires-clause-packed_len : goal.hand_on-requires-clause-packed_len
hand_on-requires-clause-packed_len c =
    (right_lengths c.args.packed.now c.args.res.now (omega (arith, c.in_default.ensures.0.right_lengths))).0

pub hand_on-requires-clause-res_len : goal.hand_on-requires-clause-res_len
hand_on-requires-clause-res_len c =
    rw c.in_default.ensures.1 (right_lengths c.args.packed.now c.args.res.now (omega (arith, c.in_default.ensures.0.right_lengths))).1

pub pack_marks-requires : goal.pack_marks-requires
pack_marks-requires c =
    omega (arith, read_there (length c.args.characters.now) c.args.marks.now c.in_default.ensures.0.marks_read, c.host-reply.auto)

pub returns : goal.returns
unfolding panel_host
returns c =
    let lent = lent_of c.args.packed.now c.args.characters.now c.args.marks.now c.args.out.now c.args.res.now in
    let call = λ (t : Terminal). host_call t c.args.bytes.now c.args.out.now in
    let told = c.hand_on.ensures in
    admitted_call lent c.in_default.ensures.0 call c.host-reply.result _ _
    (c.host-reply.ensures ∙ ap (λ (s : State). call (terminal_of s c.args.characters.now c.admit.new.own)) c.state_in.ensures)
    told.value told.packed_after c.pack_marks.ensures told.res_after
