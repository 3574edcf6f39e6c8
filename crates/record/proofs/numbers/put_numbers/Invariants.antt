use Rattle.record.specs.Bytes.{number_bytes}
use Rattle.record.proofs.Lengths.{number_length}
use Rattle.record.proofs.numbers.put_numbers.Given as goal

abbrev pub ghost-put_each : goal.ghost-put_each
ghost-put_each a = record { bytes = number_bytes 2; width = 2; long = number_length }
