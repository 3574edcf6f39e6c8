use Rattle.damage.specs.Parts.{first_parts}
use Rattle.damage.proofs.Flags.{flag_is}
use Rattle.damage.proofs.first_parts.Goals as goal

pub returns : goal.returns
unfolding first_parts
returns c =
    rw (c.from-8.ensures, c.from-7.ensures, c.from-6.ensures, c.from-5.ensures, c.from-4.ensures, c.from-3.ensures, c.from-2.ensures, c.from.ensures)
    (simp flag_is)
