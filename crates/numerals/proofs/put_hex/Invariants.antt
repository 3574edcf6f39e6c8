use mathlib.Core.Path.{refl}
use Rattle.numerals.specs.Hexadecimal.{hex_byte}
use Rattle.numerals.proofs.put_hex.Given as goal

abbrev pub ghost-put_each : goal.ghost-put_each
ghost-put_each a = record { bytes = hex_byte; width = 2; long = λ item. refl }
