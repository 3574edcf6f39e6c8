use mathlib.Core.Path.{◌≡◌, sym, ◌∙◌}
use borrow.Author.Rules.{rules}
use lib.ListN.{length-append}
use Rattle.std.specs.Iterator.Adapters.{zip_first, zip_second}
use Rattle.std.specs.Slice.Iter.{iter_rest}
use Rattle.std.proofs.lemmas.Slice.Zip.{zip_turn, zip_end}
use Rattle.copy.proofs.Finding.{differ_here, same_to_f, same_so_far, either_ended}
use Rattle.copy.proofs.same_head.Goals as goal

pub returns-then-a-b : goal.returns-then-a-b
returns-then-a-b c =
    let walk = c.into_iter-a-iterator.result in
    let first : iter_rest (zip_first walk) ≡ c.args.one.now = search rules in
    let second : iter_rest (zip_second walk) ≡ c.args.other.now = search rules in
    let now = zip_turn c.args.one.now c.args.other.now c.loop-a.yielded walk c.loop-a.a-iterator c.next.new.self c.next.result first second c.loop-a.yielded_by _ c.in-Some.is c.next.ensures.steps in
    sym (c.loop-a.invariant ∙ differ_here _ _ _ _ now.0 now.1 (λ e. c.if-a-b.true (now.2 0 ∙ e ∙ sym (now.3 0))))

pub returns-then-a-eq102 : goal.returns-then-a-eq102
returns-then-a-eq102 c =
    let walk = c.into_iter-a-iterator.result in
    let first : iter_rest (zip_first walk) ≡ c.args.one.now = search rules in
    let second : iter_rest (zip_second walk) ≡ c.args.other.now = search rules in
    let now = zip_turn c.args.one.now c.args.other.now c.loop-a.yielded walk c.loop-a.a-iterator c.next.new.self c.next.result first second c.loop-a.yielded_by _ c.in-Some.is c.next.ensures.steps in
    sym (c.loop-a.invariant ∙ same_to_f _ _ _ _ now.0 now.1 (sym (now.2 0) ∙ c.if-a-b.false ∙ now.3 0) (sym (now.2 0) ∙ c.if-a-eq102.true))

pub loop-a-preserved : goal.loop-a-preserved
loop-a-preserved c =
    let walk = c.into_iter-a-iterator.result in
    let first : iter_rest (zip_first walk) ≡ c.args.one.now = search rules in
    let second : iter_rest (zip_second walk) ≡ c.args.other.now = search rules in
    let now = zip_turn c.args.one.now c.args.other.now c.loop-a.yielded walk c.loop-a.a-iterator c.next.new.self c.next.result first second c.loop-a.yielded_by _ c.in-Some.is c.next.ensures.steps in
    rw (length-append c.loop-a.yielded _)
    (c.loop-a.invariant ∙ same_so_far _ _ _ _ now.0 now.1 (sym (now.2 0) ∙ c.if-a-b.false ∙ now.3 0) (λ e. c.if-a-eq102.false (now.2 0 ∙ e)))

pub returns : goal.returns
returns c =
    let walk = c.into_iter-a-iterator.result in
    let first : iter_rest (zip_first walk) ≡ c.args.one.now = search rules in
    let second : iter_rest (zip_second walk) ≡ c.args.other.now = search rules in
    let end = zip_end c.args.one.now c.args.other.now c.loop-a.yielded walk c.loop-a.a-iterator c.next.new.self c.next.result first second c.loop-a.yielded_by c.in-None.is c.next.ensures.steps in
    sym (c.loop-a.invariant ∙ either_ended _ _ _ end)
