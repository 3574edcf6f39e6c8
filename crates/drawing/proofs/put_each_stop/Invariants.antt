use mathlib.Core.Path.{refl}
use Rattle.drawing.specs.Drawing.{stop_of}
use Rattle.drawing.proofs.put_each_stop.Given as goal

abbrev pub ghost-put_each : goal.ghost-put_each
ghost-put_each a = record { bytes = stop_of; width = 1; long = λ stop. refl }
