use Rattle.record.specs.Bytes.{number_bytes}
use Rattle.record.proofs.numbers.put_number.Goals as goal

pub returns : goal.returns
unfolding number_bytes
returns c = rw (← c.to_le_bytes.ensures) c.put_all.ensures
