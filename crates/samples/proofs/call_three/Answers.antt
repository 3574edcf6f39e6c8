use native.Mathlib.Omega.{arith}
use Rattle.samples.proofs.Copying.{three_calls}
use Rattle.samples.proofs.call_three.Goals as goal

pub shape_of-characters : goal.shape_of-characters
shape_of-characters c =
    omega (arith, c.characters-1.given, c.characters-2-1.given, c.characters-3-1.given)

pub shape_of-marks : goal.shape_of-marks
shape_of-marks c =
    omega (arith, c.marks-1.given, c.marks-2-1.given, c.marks-3-1.given)

pub shape_of-full : goal.shape_of-full
shape_of-full c = omega (arith, c.full-1.given)

pub returns : goal.returns
returns c =
    three_calls _ _ _ _ _ c.host-first.ensures c.key-second.ensures c.key-third.ensures
