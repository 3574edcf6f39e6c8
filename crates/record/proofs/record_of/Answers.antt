use mathlib.Core.List.{List}
use Prim.Native.Nat.{ℕ, ◌≤◌}
use native.Mathlib.Omega.{arith}
use lib.ListN.{length, replicate}
use Rattle.words.proofs.Output.{wrote_then}
use Rattle.record.specs.Record.{record_of}
use Rattle.record.proofs.Lengths.{first_length, arguments_length, record_length_lem, whole_written}
use Rattle.record.proofs.record_of.Goals as goal

pub put_arguments-last-requires : goal.put_arguments-last-requires
put_arguments-last-requires c = omega (arith, first_length c.args.state, c.put_first_bytes-next.ensures.next_is)

pub put_stops-requires : goal.put_stops-requires
put_stops-requires c =
    omega (arith, first_length c.args.state, arguments_length c.args.state.half.arguments, c.put_arguments-last.ensures.next_is, c.put_first_bytes-next.ensures.next_is)

pub returns : goal.returns
unfolding record_of
returns c =
    let s = c.args.state in
    let zeros : List ℕ = replicate 195 0 in
    let room : 0 ≤ length zeros = omega arith in
    let all = wrote_then room (wrote_then room c.put_first_bytes-next.ensures c.put_arguments-last.ensures) c.put_stops.ensures in
    whole_written zeros (record_length_lem s) all
