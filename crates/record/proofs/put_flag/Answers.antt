use Rattle.record.proofs.RoundTrip.{flag_is}
use Rattle.record.proofs.put_flag.Goals as goal

pub returns : goal.returns
returns c = rw (c.from.ensures, flag_is) at c.put_byte.ensures
