use Prim.Native.Nat.{◌≤◌}
use native.Mathlib.Omega.{arith}
use lib.ListN.{length}
use Rattle.words.proofs.Output.{wrote_then}
use Rattle.drawing.specs.Drawing.{locks_line}
use Rattle.drawing.proofs.put_locks.Goals as goal

pub returns : goal.returns
unfolding locks_line
returns c =
    let room : c.args.at ≤ length c.args.text.now = omega arith in
    let locks = wrote_then room c.put_flag-soft.ensures c.put_flag-message.ensures in
    let message = wrote_then room locks (rw c.from.ensures at c.put_number-word.ensures) in
    let word = wrote_then room message c.put_all-byte.ensures in
    wrote_then room (wrote_then room word c.put_hex_byte-end.ensures) c.put_byte.ensures
