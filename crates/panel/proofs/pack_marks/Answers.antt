use mathlib.Core.Path.{sym, ◌∙◌}
use native.Mathlib.Omega.{arith}
use Rattle.record.specs.Bytes.{AreBytes}
use Rattle.record.proofs.Comparing.{same_is_equal}
use Rattle.panel.proofs.Marks.{said_already}
use Rattle.panel.proofs.pack_marks.Goals as goal

pub returns-else-not-says_numbers : goal.returns-else-not-says_numbers
returns-else-not-says_numbers c =
    let are : AreBytes c.args.marks.now = λ place. omega (arith, c.slice_known-1.given place) in
    said_already _ _ are c.requires (same_is_equal _ _ (sym c.says_numbers.ensures ∙ c.if-not-says_numbers.false))
