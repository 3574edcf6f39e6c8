use mathlib.Core.Path.{◌≡◌}
use lib.ListN.{drop}
use Rattle.words.specs.Lists.{every}
use Rattle.table.specs.Settings.{is_visual, pen_after_all}
use Rattle.table.proofs.settings.pen_after_all.Given as goal

-- what all values make of the pen is what those from this one on make of it now, if they are all listed
abbrev pub invariant-loop-value : goal.invariant-loop-value
invariant-loop-value l =
    (every is_visual l.values ≡ every is_visual (drop l.value-index l.values)) × (pen_after_all l.values l.pen ≡ pen_after_all (drop l.value-index l.values) l.here)
