-- A light step: the cursor moves, pen or mode is set, or a command is refused.
use Rattle.state.specs.State.{with_cursor, with_modes}
use Rattle.steps.specs.declared.Light.{Light}
use Rattle.steps.specs.declared.Light.TheVariants.{Cursor, Modes, Refused}
use Rattle.steps.specs.Steps.{Terminal, Stepped, goes_to, refusing}

-- The step that the code tells by what it changes.
unfoldable pub light_step : Light → Terminal → Stepped
light_step (Cursor cursor) t = goes_to (with_cursor t.state cursor) t
light_step (Modes modes) t = goes_to (with_modes t.state modes) t
light_step (Refused reason byte) t = refusing reason byte t
