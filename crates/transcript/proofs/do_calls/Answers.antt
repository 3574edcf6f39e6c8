use mathlib.Core.Path.{sym, ◌∙◌}
use borrow.Author.Rules.{rules}
use Rattle.frames.specs.Held.{line_in}
use Rattle.frames.proofs.Lending.{wrote_inside}
use Rattle.frames.proofs.Running.{after_same, all_to_come, carries_on, ends, none_to_come}
use Rattle.transcript.proofs.do_calls.Goals as goal

pub shared_ref_as_front-print : goal.shared_ref_as_front-print
shared_ref_as_front-print g c = let fits = wrote_inside c.call-printed.ensures.call_made.text in search rules

pub returns-in_default-clause-done : goal.returns-in_default-clause-done
returns-in_default-clause-done g c =
    let frame = c.frame-kind in
    let last = ends frame.result c.loop.rooms.line c.loop.counter _ c.loop-test.true c.call-printed.ensures.call_made c.in_default.is in
    let all = all_to_come (line_in c.args.rooms.now.line c.args.digits) c.args.rooms.now.line frame.ensures.0 frame.ensures.1 _ in
    sym (after_same last) ∙ c.loop.invariant.2 ∙ after_same all

pub loop-preserved : goal.loop-preserved
loop-preserved g c =
    let frame = c.frame-kind in
    let more = carries_on frame.result c.loop.rooms.line c.loop.counter _ c.loop-test.true c.call-printed.ensures.call_made c.in-Some.is in
    (rw c.in-Some.is at c.call-printed.ensures.rest_bound, c.loop.invariant.1, sym (after_same more) ∙ c.loop.invariant.2)

pub returns-clause-done : goal.returns-clause-done
returns-clause-done g c =
    let frame = c.frame-kind in
    let none = none_to_come frame.result c.loop.rooms.line c.loop.counter c.loop.from _ c.loop-test.false in
    let all = all_to_come (line_in c.args.rooms.now.line c.args.digits) c.args.rooms.now.line frame.ensures.0 frame.ensures.1 _ in
    sym (after_same none) ∙ c.loop.invariant.2 ∙ after_same all
