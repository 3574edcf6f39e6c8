use Prim.Native.Nat.{◌≤◌}
use native.Mathlib.Omega.{arith}
use lib.ListN.{length}
use Rattle.words.proofs.Output.{wrote_then}
use Rattle.drawing.specs.Drawing.{state_lines}
use Rattle.drawing.proofs.Lengths.{pen_length, locks_length, stops_length}
use Rattle.drawing.proofs.put_state.Goals as goal

pub put_locks-tabs-requires : goal.put_locks-tabs-requires
put_locks-tabs-requires c = let state = c.args.state in omega (arith, pen_length state.modes)

pub put_stops-half-requires : goal.put_stops-half-requires
put_stops-half-requires c =
    let state = c.args.state in omega (arith, pen_length state.modes, locks_length state.locks)

pub put_half-requires : goal.put_half-requires
put_half-requires c =
    let state = c.args.state in
    omega (arith, pen_length state.modes, locks_length state.locks, stops_length state.stops)

pub returns : goal.returns
unfolding state_lines
returns c =
    let room : c.args.at ≤ length c.args.text.now = omega arith in
    let size = c.put_pair-cursor.ensures in
    let cursor = c.put_pair-modes.ensures in
    let modes = c.put_modes-locks.ensures in
    let locks = c.put_locks-tabs.ensures in
    let stops = c.put_stops-half.ensures in
    wrote_then room (wrote_then room (wrote_then room (wrote_then room (wrote_then room size cursor) modes) locks) stops) c.put_half.ensures
