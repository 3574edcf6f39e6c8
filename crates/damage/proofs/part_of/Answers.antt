use native.Mathlib.Omega.{arith}
use Rattle.words.proofs.Choosing.{tests}
use Rattle.damage.specs.Parts.{part_of}
use Rattle.damage.proofs.Flags.{flag_is}
use Rattle.damage.proofs.part_of.Goals as goal

pub returns-in-0-to-11 : goal.returns-in-0-to-11
unfolding part_of
returns-in-0-to-11 c = rw c.first_parts.ensures (search (arith, tests))

pub returns-in-12-to-19 : goal.returns-in-12-to-19
unfolding part_of
returns-in-12-to-19 c = rw c.from-in-12-to-19.ensures (search (arith, tests))

pub returns-in-20-to-179 : goal.returns-in-20-to-179
unfolding part_of
returns-in-20-to-179 c = rw (c.from-in-20-to-179.ensures, flag_is) (search (arith, tests))

pub returns-in-180 : goal.returns-in-180
unfolding part_of
returns-in-180 c = rw c.from.ensures (search (arith, tests))

pub returns-in-181 : goal.returns-in-181
unfolding part_of
returns-in-181 c = rw (c.from-in-181.ensures, flag_is) (search (arith, tests))

pub returns-in_default : goal.returns-in_default
unfolding part_of
returns-in_default c = search (arith, tests)
