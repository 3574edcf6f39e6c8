use mathlib.Core.Path.{◌≡◌, sym, ◌∙◌}
use Prim.Native.Nat.{◌+◌, ◌*◌, ◌<◌}
use native.Mathlib.Omega.{arith}
use borrow.Author.Rules.{rules}
use lib.ListN.{length}
use Rattle.words.proofs.Writing.{next_put, all_written}
use Rattle.record.specs.Bytes.{number_at, read_each}
use Rattle.record.proofs.Reading.{length-each, each_there}
use Rattle.record.proofs.numbers.read_numbers.Goals as goal

pub loop-i-preserved : goal.loop-i-preserved
loop-i-preserved c =
    let bytes = c.args.bytes.now in
    let count = length c.args.numbers.now in
    let here : c.loop-i.i < count = omega (arith, c.loop-i-test.true, c.loop-i.invariant.1) in
    let all = length-each (number_at 2 bytes) 2 0 count in
    let place : 0 + c.loop-i.i * 2 ≡ c.loop-i.i * 2 = omega arith in (
      omega (arith, here),
      search rules,
      next_put 0 (read_each (number_at 2 bytes) 2 0 count) _ _ _ c.loop-i.invariant.2 _ (omega (arith, here, all)) here
          (c.number_there.ensures ∙ sym (rw place at (each_there (number_at 2 bytes) 2 0 0 count c.loop-i.i here))),
    )

pub returns : goal.returns
returns c =
    let bytes = c.args.bytes.now in
    let numbers = c.args.numbers.now in
    c.loop-i.invariant.2
    ∙ all_written (read_each (number_at 2 bytes) 2 0 (length numbers)) numbers c.loop-i.i (length-each (number_at 2 bytes) 2 0 (length numbers)) (omega (arith, c.loop-i-test.false, c.loop-i.invariant.1))
