use mathlib.Core.Path.{refl}
use Rattle.numerals.specs.Hexadecimal.{hex_pair}
use Rattle.numerals.proofs.put_hex_pairs.Given as goal

abbrev pub ghost-put_each : goal.ghost-put_each
ghost-put_each a = record { bytes = hex_pair; width = 4; long = λ item. refl }
