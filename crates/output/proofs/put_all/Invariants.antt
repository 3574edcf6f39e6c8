use mathlib.Core.Path.{refl}
use mathlib.Core.List.{[], ◌∷◌}
use Rattle.output.proofs.put_all.Given as goal

abbrev pub ghost-put_each : goal.ghost-put_each
ghost-put_each a = record { bytes = λ byte. byte ∷ []; width = 1; long = λ byte. refl }
