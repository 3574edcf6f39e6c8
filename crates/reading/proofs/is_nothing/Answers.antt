use mathlib.Core.Path.{◌≡◌, refl}
use mathlib.Core.Bool.{false}
use Rattle.sequence.specs.declared.Event.{Event}
use Rattle.sequence.specs.declared.Event.TheVariants.{Nothing}
use Rattle.reading.specs.Ahead.{is_nothing}
use Rattle.reading.proofs.is_nothing.Goals as goal

other_event : (event : Event) → (event ≡ Nothing → ⊥) → false ≡ is_nothing event
unfolding is_nothing
other_event Nothing other = absurd (other refl)
other_event _ other = refl

pub returns-in-Nothing : goal.returns-in-Nothing
unfolding is_nothing
returns-in-Nothing c = rw c.in-Nothing.is

pub returns-in_default : goal.returns-in_default
returns-in_default c = other_event _ c.in_default.not-Nothing
