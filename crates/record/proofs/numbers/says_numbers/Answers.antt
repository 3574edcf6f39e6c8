use mathlib.Core.Path.{◌≡◌, refl, sym, ap, ◌∙◌}
use mathlib.Core.Bool.{◌&&◌}
use Prim.Native.Nat.{ℕ, ◌+◌, ◌*◌, ◌<◌, ◌≤◌}
use native.Mathlib.Omega.{arith}
use borrow.Author.Rules.{rules}
use lib.Dec.{eqb}
use lib.ListN.{length, drop, get_or}
use Rattle.words.specs.Choice.{◌and◌}
use Rattle.record.specs.Bytes.{number_at, read_each, same_bytes}
use Rattle.record.proofs.Comparing.{next_compared, all_compared}
use Rattle.record.proofs.Reading.{length-each, each_there}
use Rattle.record.proofs.numbers.says_numbers.Goals as goal

pub loop-i-init : goal.loop-i-init
unfolding ◌and◌
loop-i-init c = (search rules, refl)

pub loop-i-preserved : goal.loop-i-preserved
loop-i-preserved c =
    let bytes = c.args.bytes.now in
    let numbers = c.args.numbers.now in
    let here : c.loop-i.i < length numbers = c.loop-i-test.true in
    let said = read_each (number_at 2 bytes) 2 0 (length numbers) in
    let in-said : c.loop-i.i < length said = omega (arith, here, length-each (number_at 2 bytes) 2 0 (length numbers)) in
    let place : 0 + c.loop-i.i * 2 ≡ c.loop-i.i * 2 = omega arith in
    let number : c.number_there.result ≡ get_or said c.loop-i.i 0 =
    c.number_there.ensures ∙ sym (rw place at (each_there (number_at 2 bytes) 2 0 0 (length numbers) c.loop-i.i here)) in (
      search rules,
      c.loop-i.invariant.1 ∙ next_compared said numbers c.loop-i.i in-said here c.loop-i.all
          ∙ ap (λ (n : ℕ). (c.loop-i.all && eqb n (get_or numbers c.loop-i.i 0)) and same_bytes (drop (c.loop-i.i + 1) said) (drop (c.loop-i.i + 1) numbers)) (sym number),
    )

pub returns : goal.returns
returns c =
    let bytes = c.args.bytes.now in
    let numbers = c.args.numbers.now in
    let done : length (read_each (number_at 2 bytes) 2 0 (length numbers)) ≤ c.loop-i.i = omega (arith, c.loop-i-test.false, length-each (number_at 2 bytes) 2 0 (length numbers)) in
    sym (c.loop-i.invariant.1 ∙ all_compared _ _ _ _ done c.loop-i-test.false)
