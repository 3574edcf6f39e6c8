use mathlib.Core.List.{[], ◌∷◌}
use Prim.Native.Nat.{◌≤◌}
use native.Mathlib.Omega.{arith}
use lib.ListN.{length}
use Rattle.words.proofs.Output.{wrote_then}
use Rattle.numerals.proofs.Digits.{hex_length}
use Rattle.frames.specs.Printing.{line_of}
use Rattle.frames.proofs.print_refusal.Goals as goal

pub put_byte-requires : goal.put_byte-requires
put_byte-requires c = omega (arith, c.put_hex-end.ensures.next_is, hex_length (0xFF ∷ []), c.requires)

pub returns : goal.returns
unfolding line_of
returns c =
    let room : 0 ≤ length c.args.text.now = omega arith in
    wrote_then room c.put_hex-end.ensures c.put_byte.ensures
