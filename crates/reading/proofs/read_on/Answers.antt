use mathlib.Core.Path.{◌≡◌, sym, ap, ◌∙◌}
use mathlib.Core.List.{List}
use Prim.Native.Nat.{ℕ, ◌+◌, ◌-◌, ◌<◌}
use native.Mathlib.Omega.{arith}
use lib.ListN.{length}
use Rattle.sequence.proofs.Keeping.{advance_keeps}
use Rattle.sequence.specs.declared.Advanced.{Advanced}
use Rattle.reading.specs.Ahead.{is_nothing}
use Rattle.reading.proofs.Laws.{reads_on_lem, reads_to, reads_last}
use Rattle.reading.proofs.read_on.Goals as goal

pub returns-then-not-is_nothing : goal.returns-then-not-is_nothing
returns-then-not-is_nothing c =
    let bytes : List ℕ = c.args.bytes.now in
    let advanced = c.advance-event.ensures in
    let here : c.loop-at.at < length bytes = omega arith in
    let something = sym (ap (λ (a : Advanced). is_nothing a.event) advanced) ∙ sym c.is_nothing.ensures ∙ c.if-not-is_nothing.true in
    sym (c.loop-at.invariant.1 ∙ reads_to _ bytes _ here something ∙ sym (ap (λ (a : Advanced). record { before = c.loop-at.before; after = a.half; event = a.event; end = c.loop-at.at + 1 }) advanced))

pub loop-at-preserved : goal.loop-at-preserved
loop-at-preserved c =
    let bytes : List ℕ = c.args.bytes.now in
    let advanced = c.advance-event.ensures in
    let more : c.loop-at.at + 1 < length bytes = omega (arith, c.loop-at-test.true) in
    let nothing = sym (ap (λ (a : Advanced). is_nothing a.event) advanced) ∙ sym c.is_nothing.ensures ∙ c.if-not-is_nothing.false in
    (rw advanced (advance_keeps _ _ c.loop-at.invariant.0), c.loop-at.invariant.1 ∙ reads_on_lem _ bytes _ more nothing ∙ rw advanced)

pub returns : goal.returns
returns c =
    let bytes : List ℕ = c.args.bytes.now in
    let advanced = c.advance-event-2.ensures in
    let at : c.loop-at.at ≡ length bytes - 1 = omega arith in
    let last : c.loop-at.at + 1 ≡ length bytes = omega arith in
    sym (c.loop-at.invariant.1 ∙ reads_last _ bytes _ last ∙ rw at (sym (ap (λ (a : Advanced). record { before = c.loop-at.before; after = a.half; event = a.event; end = length bytes - 1 + 1 }) advanced)))
