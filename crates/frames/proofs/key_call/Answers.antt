use mathlib.Core.Path.{refl, sym, ap, ◌∙◌, subst}
use Prim.Native.Nat.{ℕ, ◌≤◌}
use native.Mathlib.Omega.{arith}
use lib.ListN.{length}
use lib.Seq.{length-take-le}
use Rattle.words.specs.Choice.{If◌then◌else◌}
use Rattle.terminal.specs.Answers.{Outcome}
use Rattle.terminal.specs.Calls.{key_call}
use Rattle.frames.specs.Sessions.{output, keyed}
use Rattle.frames.specs.Held.{lent}
use Rattle.frames.proofs.Calling.{Alike, key_alike, key_within}
use Rattle.frames.proofs.Answering.{none_in, did_as, key_uncalled, key_called, terminal_in, goes_on, answered}
use Rattle.frames.proofs.key_call.Goals as goal

pub returns-in_default : goal.returns-in_default
returns-in_default c =
    let characters = c.args.characters.now in
    let marks = c.args.marks.now in
    did_as (key_uncalled (none_in characters marks c.in_default.is) _)
    (c.no_call.ensures characters marks c.args.out.now c.requires.characters c.requires.marks)

pub print-end-requires : goal.print-end-requires
print-end-requires c =
    let before = lent c.args.characters.now c.args.marks.now c.args.out.now c.args.text.now in
    let within = key_within (terminal_in c.in-Some.going c.min-cells.result before) c.args.out.now c.requires.out c.from.result in
    let sent = ap (λ (o : Outcome). o.sent) c.key-reply.ensures in
    (omega (arith, sent, within.sent, c.key-reply.auto.out, c.requires.out), omega (arith, sent, within.sent), c.requires.text)

pub returns : goal.returns
unfolding keyed If◌then◌else◌
returns c =
    let cells = c.min-cells.result in
    let number = c.args.number in
    let before = lent c.args.characters.now c.args.marks.now c.args.out.now c.args.text.now in
    let t = terminal_in c.in-Some.going cells before in
    let is = c.key-reply.ensures ∙ ap (λ (n : ℕ). key_call t n c.args.out.now) c.from.ensures in
    let alike = subst (λ (o : Outcome). Alike (key_call t number output) o c.args.out.now) (sym is) (key_alike t c.args.out.now c.requires.out number) in
    let session-is = goes_on c.in-Some.going cells before c.requires c.in-Some.is c.min-cells.ensures in
    let room : cells ≤ length c.args.characters.now = omega (arith, c.min-cells.ensures, c.requires.characters) in
    let marks-room : cells ≤ length c.args.marks.now = omega (arith, c.min-cells.ensures, c.requires.marks) in
    did_as (key_called session-is number)
    (answered (key_call t number output) c.key-reply.result _ _ _ _ cells c.args.from c.print-end.result before alike
    (c.key-reply.auto.characters ∙ length-take-le cells c.args.characters.now room) (c.key-reply.auto.marks ∙ length-take-le cells c.args.marks.now marks-room) (c.print-end.ensures _)
    _ _ _ _ (omega arith) refl)
