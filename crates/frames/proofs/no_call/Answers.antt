use mathlib.Core.Path.{refl, sym, ap, ◌∙◌}
use native.Mathlib.Omega.{arith}
use Rattle.std.specs.Prelude.{Option}
use Rattle.words.specs.Choice.{If◌then◌else◌}
use Rattle.words.proofs.Output.{wrote_none}
use Rattle.frames.specs.declared.Held.{Held}
use Rattle.frames.specs.Sessions.{uncalled}
use Rattle.frames.specs.Held.{session_in}
use Rattle.frames.proofs.Lending.{characters_stand, marks_stand, held_still}
use Rattle.frames.proofs.no_call.Goals as goal

pub returns : goal.returns
unfolding uncalled If◌then◌else◌
returns c characters marks out long as_long =
    record {
      held = c.settled.ensures characters marks long;
      characters = characters_stand _ characters marks;
      marks = marks_stand _ characters marks;
      out = (wrote_none 0 out).left;
      text = c.print_refusal-end.ensures;
      from_on = omega arith;
      rest = refl;
      going = ap (λ (held : Option Held). session_in held characters marks) (c.settled.ensures characters marks long) ∙ held_still _ characters marks (long ∙ sym as_long);
    }
