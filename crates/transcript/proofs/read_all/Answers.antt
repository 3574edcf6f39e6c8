use mathlib.Core.List.{[], ◌++◌}
use lib.ListN.{take}
use borrow.Author.Rules.{rules}
use Rattle.frames.specs.Transcript.{none_so_far, after_bytes}
use Rattle.frames.proofs.Reading.{nothing_held, read_in_parts}
use Rattle.transcript.proofs.read_all.Goals as goal

pub loop-init : goal.loop-init
unfolding after_bytes
loop-init g c = ([], nothing_held _ _ _ (search rules))

pub loop-preserved : goal.loop-preserved
loop-preserved g c =
    let part = take c.in_ok-count.count c.read.new.buf in
    let same = c.loop.invariant in
    (same.0 ++ part, rw (read_in_parts same.0 part none_so_far) (c.take_bytes.ensures _ same.1))
