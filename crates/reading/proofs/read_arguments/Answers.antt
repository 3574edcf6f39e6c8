use mathlib.Core.Path.{refl, sym, ◌∙◌}
use mathlib.Core.List.{List}
use Prim.Native.Nat.{ℕ, ◌<◌}
use native.Mathlib.Omega.{arith}
use lib.ListN.{length, length-set}
use Rattle.words.proofs.Choosing.{range_is}
use Rattle.reading.specs.Ahead.{is_nothing}
use Rattle.reading.proofs.Laws.{over_digit, over_semicolon, to_final}
use Rattle.reading.proofs.read_arguments.Goals as goal
use Rattle.reading.proofs.read_arguments.Goals.{in-59+else-last-ge7, in-48-to-57+else-value-gt9999}

pub with_digit-value-requires : goal.with_digit-value-requires
with_digit-value-requires c = range_is _ _ _ (omega arith) (omega arith)

pub returns-in-64-to-126 : goal.returns-in-64-to-126
unfolding is_nothing
returns-in-64-to-126 c =
    let bytes : List ℕ = c.args.bytes.now in
    let here : c.loop-at.at < length bytes = c.loop-at-test.true in
    record { something = refl; here = omega arith; same = sym (c.loop-at.invariant.2 here ∙ to_final bytes _ _ _ here (range_is _ _ _ (omega arith) (omega arith))) }

pub loop-at-preserved : goal.loop-at-preserved
loop-at-preserved c =
    let bytes : List ℕ = c.args.bytes.now in
    let here : c.loop-at.at < length bytes = c.loop-at-test.true in
    elim c.match-byte.branch [
      | in-59+else-last-ge7 w ↦ (
        omega arith,
        rw w.arguments-is c.loop-at.invariant.1,
        λ more. rw (w.arguments-is, w.last-is) (c.loop-at.invariant.2 here ∙ over_semicolon bytes _ _ _ more w.in-59.is w.if-last-ge7.false),
      )
      | in-48-to-57+else-value-gt9999 w ↦ (
        omega arith,
        rw w.arguments-is (length-set c.loop-at.arguments c.loop-at.last w.with_digit-value.result ∙ c.loop-at.invariant.1),
        λ more.
            let digit = range_is _ 0x30 0x39 (omega arith) (omega arith) in
            rw (w.arguments-is, w.last-is) (c.loop-at.invariant.2 here ∙ over_digit bytes _ _ _ more digit _ w.with_digit-value.ensures w.if-value-gt9999.false),
      )
    ]
