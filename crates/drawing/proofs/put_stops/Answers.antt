use Prim.Native.Nat.{◌≤◌}
use native.Mathlib.Omega.{arith}
use lib.ListN.{length}
use Rattle.words.proofs.Output.{wrote_then}
use Rattle.drawing.specs.Drawing.{stops_line}
use Rattle.drawing.proofs.Lengths.{all_stops_length}
use Rattle.drawing.proofs.put_stops.Goals as goal

pub put_byte-requires : goal.put_byte-requires
put_byte-requires c = omega (arith, all_stops_length c.args.stops)

pub returns : goal.returns
unfolding stops_line
returns c =
    let room : c.args.at ≤ length c.args.text.now = omega arith in
    wrote_then room (wrote_then room c.put_all-each.ensures c.put_each_stop-end.ensures) c.put_byte.ensures
