use mathlib.Core.Path.{refl}
use Rattle.record.specs.Bytes.{flag_bytes}
use Rattle.record.proofs.put_stops.Given as goal

abbrev pub ghost-put_each : goal.ghost-put_each
ghost-put_each a = record { bytes = flag_bytes; width = 1; long = λ flag. refl }
