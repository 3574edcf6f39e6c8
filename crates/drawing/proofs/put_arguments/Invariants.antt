use mathlib.Core.Path.{refl}
use Rattle.drawing.specs.Drawing.{spaced}
use Rattle.drawing.proofs.put_arguments.Given as goal

abbrev pub ghost-put_each : goal.ghost-put_each
ghost-put_each a = record { bytes = spaced; width = 6; long = λ argument. refl }
