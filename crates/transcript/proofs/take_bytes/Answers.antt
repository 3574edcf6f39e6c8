use lib.Seq.{take_all}
use Rattle.frames.specs.Transcript.{after_bytes}
use Rattle.frames.proofs.Reading.{next_byte}
use Rattle.transcript.proofs.take_bytes.Goals as goal

pub loop-byte-init : goal.loop-byte-init
unfolding after_bytes
loop-byte-init g c = λ read holds. holds

pub loop-byte-preserved : goal.loop-byte-preserved
loop-byte-preserved g c = λ read holds.
    rw (next_byte c.args.bytes.now c.loop-byte.byte-index read c.loop-byte-test.true) (c.take_byte.ensures _ (c.loop-byte.invariant read holds))

pub returns : goal.returns
returns g c = λ read holds.
    rw (take_all c.loop-byte.byte-index c.args.bytes.now c.loop-byte-test.false) at (c.loop-byte.invariant read holds)
