use Prim.Native.Nat.{◌≤◌}
use native.Mathlib.Omega.{arith}
use lib.ListN.{length}
use Rattle.words.proofs.Output.{wrote_then}
use Rattle.drawing.specs.Drawing.{half_line}
use Rattle.drawing.proofs.Lengths.{all_arguments_length}
use Rattle.drawing.proofs.put_half.Goals as goal

pub put_byte-requires : goal.put_byte-requires
put_byte-requires c = omega (arith, all_arguments_length c.args.half.arguments)

pub returns : goal.returns
unfolding half_line
returns c =
    let room : c.args.at ≤ length c.args.text.now = omega arith in
    let kind = rw c.from.ensures at c.put_number-spoilt.ensures in
    let spoilt = c.put_flag-count.ensures in
    let count = rw c.from-2.ensures at c.put_number-word.ensures in
    let word = c.put_all-each.ensures in
    let arguments = c.put_arguments-end.ensures in
    wrote_then room (wrote_then room (wrote_then room (wrote_then room (wrote_then room kind spoilt) count) word) arguments) c.put_byte.ensures
