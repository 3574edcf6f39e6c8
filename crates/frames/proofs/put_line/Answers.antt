use Prim.Native.Nat.{◌≤◌}
use native.Mathlib.Omega.{arith}
use lib.ListN.{length}
use Rattle.words.proofs.Output.{wrote_then}
use Rattle.frames.specs.Printing.{line_of}
use Rattle.numerals.proofs.Digits.{hex_length, hex_append}
use Rattle.frames.proofs.put_line.Goals as goal

pub put_hex-end-requires : goal.put_hex-end-requires
put_hex-end-requires c =
    omega (arith, c.put_hex-middle.ensures.next_is, hex_length c.args.head.now, c.requires)

pub put_byte-requires : goal.put_byte-requires
put_byte-requires c =
    omega (arith, c.put_hex-middle.ensures.next_is, c.put_hex-end.ensures.next_is, hex_length c.args.head.now, hex_length c.args.sent.now, c.requires)

pub returns : goal.returns
unfolding line_of
returns c =
    let room : 0 ≤ length c.args.text.now = omega arith in
    rw (hex_append c.args.head.now c.args.sent.now)
    (wrote_then room (wrote_then room c.put_hex-middle.ensures c.put_hex-end.ensures) c.put_byte.ensures)
