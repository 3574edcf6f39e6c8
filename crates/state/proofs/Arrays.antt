-- The arrays' lengths, 160 and 8: every state of the code has them, and what changes a state keeps them.
use mathlib.Core.Path.{◌≡◌, refl, ◌∙◌}
use mathlib.Core.Bool.{Bool, true, false}
use mathlib.Core.List.{List}
use denote.Laws.{Is}
use denote.Struct.Declared.{row}
use lib.ListN.{length, length-set}
use mir.Val.{Val}
use Prim.Native.Nat.{◌-◌}
use Rattle.sequence.specs.declared.HalfRead.{HalfRead}
use Rattle.state.specs.declared.Size.{Size}
use Rattle.state.specs.declared.Cursor.{Cursor}
use Rattle.state.specs.declared.Modes.{Modes}
use Rattle.state.specs.declared.Locks.{Locks}
use Rattle.state.specs.declared.State.{State}
use Rattle.state.specs.State.{Arrays, with_cursor, with_modes, with_locks, with_stops, with_half, fresh_state, zero_state}
use Rattle.state.specs.Tabs.{stop_set, stop_cleared, stops_cleared}
use Rattle.state.specs.contracts.State as state

-- The checker knows of a state of the code how the machine has it:
-- of a parameter (`c.good`), of a result (`c.callee.ok`).
pub code_arrays : (s : State) (values : List Val) → Is (row state.the_type) s values → Arrays s
code_arrays s values is = record {
  stops = is.1.1.1.1.1.1.0.1.0.1;
  arguments = is.1.1.1.1.1.1.1.0.1.1.1.0.1.0.1;
}

pub fresh_arrays : (size : Size) → Arrays (fresh_state size)
fresh_arrays size = record { stops = refl; arguments = refl }

pub zero_arrays : Arrays zero_state
zero_arrays = record { stops = refl; arguments = refl }

-- Each move, pen, mode and lock replaces another part, and so keeps both arrays.
module _ (s : State) (has : Arrays s) where
  pub cursor_keeps_arrays : (cursor : Cursor) → Arrays (with_cursor s cursor)
  cursor_keeps_arrays cursor = record { stops = has.stops; arguments = has.arguments }

  pub modes_keep_arrays : (modes : Modes) → Arrays (with_modes s modes)
  modes_keep_arrays modes = record { stops = has.stops; arguments = has.arguments }

  pub locks_keep_arrays : (locks : Locks) → Arrays (with_locks s locks)
  locks_keep_arrays locks = record { stops = has.stops; arguments = has.arguments }

  pub half_keeps_arrays : (half : HalfRead) → length half.arguments ≡ 8 → Arrays (with_half s half)
  half_keeps_arrays half eight = record { stops = has.stops; arguments = eight }

  stops_keep_arrays : (stops : List Bool) → length stops ≡ 160 → Arrays (with_stops s stops)
  stops_keep_arrays stops all = record { stops = all; arguments = has.arguments }

  pub stop_set_keeps_arrays : Arrays (stop_set s)
  unfolding stop_set
  stop_set_keeps_arrays = stops_keep_arrays _ (length-set s.stops (s.cursor.column - 1) true ∙ has.stops)

  pub stop_cleared_keeps_arrays : Arrays (stop_cleared s)
  unfolding stop_cleared
  stop_cleared_keeps_arrays = stops_keep_arrays _ (length-set s.stops (s.cursor.column - 1) false ∙ has.stops)

  pub stops_cleared_keep_arrays : Arrays (stops_cleared s)
  unfolding stops_cleared
  stops_cleared_keep_arrays = stops_keep_arrays _ refl
