use Rattle.frames.proofs.Reading.{byte_held, line_held}
use Rattle.transcript.proofs.take_byte.Goals as goal

pub returns-then-byte-ne-NEW_LINE : goal.returns-then-byte-ne-NEW_LINE
returns-then-byte-ne-NEW_LINE g c = λ read holds.
    let collect = c.collect-reading in
    rw (collect.ensures.0, collect.ensures.1) (byte_held holds _ c.if-byte-ne-NEW_LINE.true)

pub returns : goal.returns
returns g c = λ read holds.
    let line = c.do_line-reading in
    line_held holds c.if-byte-ne-NEW_LINE.false line.ensures.line_len line.ensures.done
