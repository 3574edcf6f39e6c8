use mathlib.Core.Path.{sym, ap, ◌∙◌, subst}
use mathlib.Core.List.{List}
use Prim.Native.Nat.{ℕ, ◌+◌, ◌-◌, ◌≤◌}
use native.Mathlib.Omega.{arith}
use lib.Dec.{eqb}
use lib.ListN.{length, take, drop, length-take, length-drop}
use lib.Seq.{length-take-le}
use Rattle.terminal.specs.Answers.{Outcome}
use Rattle.terminal.specs.Calls.{host_call}
use Rattle.frames.specs.Sessions.{output, hosted}
use Rattle.frames.specs.Held.{lent}
use Rattle.frames.proofs.Calling.{Alike, host_alike, host_within}
use Rattle.frames.proofs.Lending.{part_of_line}
use Rattle.frames.proofs.Answering.{none_in, did_as, host_uncalled, host_called, terminal_in, goes_on, told_on, answered}
use Rattle.frames.proofs.host_call.Goals as goal

pub returns-in_default : goal.returns-in_default
returns-in_default c =
    let characters = c.args.characters.now in
    let marks = c.args.marks.now in
    did_as (host_uncalled (none_in characters marks c.in_default.is) _)
    (c.no_call.ensures characters marks c.args.out.now c.requires.enough.characters c.requires.enough.marks)

pub print-end-requires : goal.print-end-requires
print-end-requires c =
    let before = lent c.args.characters.now c.args.marks.now c.args.out.now c.args.text.now in
    let within = host_within (terminal_in c.in-Some.going c.min-cells.result before) c.args.out.now c.requires.enough.out (take (c.min-last.result - c.min-first.result) (drop c.min-first.result c.args.line.now)) in
    let sent = ap (λ (o : Outcome). o.sent) c.host-reply.ensures in
    (omega (arith, sent, within.sent, c.host-reply.auto.out, c.requires.enough.out), omega (arith, sent, within.sent), c.requires.enough.text)

pub overflow_add-on : goal.overflow_add-on
overflow_add-on c =
    let before = lent c.args.characters.now c.args.marks.now c.args.out.now c.args.text.now in
    let first = c.min-first.result in
    let last = c.min-last.result in
    let part = take (last - first) (drop first c.args.line.now) in
    let within = host_within (terminal_in c.in-Some.going c.min-cells.result before) c.args.out.now c.requires.enough.out part in
    let taken = ap (λ (o : Outcome). o.taken) c.host-reply.ensures in
    let short : length part ≤ 512 = simp (length-take, length-drop) (omega (arith, c.requires.line_len.0)) in
    omega (arith, taken, within.taken, c.requires.line_len.1)

pub returns : goal.returns
unfolding hosted
returns c =
    let line = c.args.line.now in
    let cells = c.min-cells.result in
    let before = lent c.args.characters.now c.args.marks.now c.args.out.now c.args.text.now in
    let t = terminal_in c.in-Some.going cells before in
    let bytes : List ℕ = drop c.args.from (take c.args.to line) in
    let part = part_of_line c.args.from c.args.to _ _ 512 line c.requires.line_len.0 c.min-last.ensures c.min-first.ensures in
    let is = c.host-reply.ensures ∙ ap (λ (l : List ℕ). host_call t l c.args.out.now) part in
    let alike = subst (λ (o : Outcome). Alike (host_call t bytes output) o c.args.out.now) (sym is) (host_alike t c.args.out.now c.requires.enough.out bytes) in
    let number = c.number_of-more.ensures ∙ alike.number in
    let on = ap (λ (n : ℕ). c.args.from + n) alike.taken in
    let rest = c.then_some.ensures ∙ told_on (ap (λ (n : ℕ). eqb n 3) number) on in
    let session-is = goes_on c.in-Some.going cells before c.requires.enough c.in-Some.is c.min-cells.ensures in
    let room : cells ≤ length c.args.characters.now = omega (arith, c.min-cells.ensures, c.requires.enough.characters) in
    let marks-room : cells ≤ length c.args.marks.now = omega (arith, c.min-cells.ensures, c.requires.enough.marks) in
    did_as (host_called session-is bytes)
    (answered (host_call t bytes output) c.host-reply.result _ _ _ _ cells c.args.from c.print-end.result before alike
    (c.host-reply.auto.characters ∙ length-take-le cells c.args.characters.now room) (c.host-reply.auto.marks ∙ length-take-le cells c.args.marks.now marks-room) (c.print-end.ensures _)
    _ _ _ _ on rest)
