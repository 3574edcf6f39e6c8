-- How long each line is, and the whole drawing.
use mathlib.Core.Path.{◌≡◌, refl, sym, ap, ◌∙◌}
use mathlib.Core.Bool.{Bool, false}
use mathlib.Core.List.{List, ◌++◌, flat_map}
use Prim.Native.Nat.{ℕ, zero, suc, ◌+◌, ◌*◌}
use native.Mathlib.Nat.{zero-mul, suc-mul}
use native.Mathlib.Omega.{arith}
use lib.ListN.{length, take, drop, length-append, length-drop}
use lib.Seq.{length-take-le}
use Rattle.sequence.specs.declared.HalfRead.{HalfRead}
use Rattle.state.specs.declared.Modes.{Modes}
use Rattle.state.specs.declared.Locks.{Locks}
use Rattle.state.specs.declared.State.{State}
use Rattle.numerals.specs.Hexadecimal.{hex_pairs}
use Rattle.words.specs.Text.{bytes}
use Rattle.words.specs.Lists.{exactly}
use Rattle.words.proofs.Elements.{exactly-length}
use Rattle.words.proofs.Pieces.{flat_length}
use Rattle.numerals.proofs.Digits.{pairs_length}
use Rattle.drawing.specs.Drawing.{line_end, stop_of, spaced, pen_line, locks_line, all_stops, stops_line, all_arguments, half_line, state_lines, rows_of, character_line, mark_line, row_lines, drawn}

pub pen_length : (modes : Modes) → length (pen_line modes) ≡ 26
unfolding pen_line
pen_length modes = refl

pub locks_length : (locks : Locks) → length (locks_line locks) ≡ 38
unfolding locks_line
locks_length locks = refl

pub all_stops_length : (stops : List Bool) → length (all_stops stops) ≡ 160
all_stops_length stops = flat_length stop_of 1 (λ _. refl) (exactly 160 false stops) ∙ ap (λ (n : ℕ). n * 1) (exactly-length 160 false stops)

pub stops_length : (stops : List Bool) → length (stops_line stops) ≡ 167
unfolding stops_line
stops_length stops = simp (length-append, all_stops_length stops)

pub all_arguments_length : (arguments : List ℕ) → length (all_arguments arguments) ≡ 48
all_arguments_length arguments = flat_length spaced 6 (λ _. refl) (exactly 8 0 arguments) ∙ ap (λ (n : ℕ). n * 6) (exactly-length 8 0 arguments)

pub half_length : (half : HalfRead) → length (half_line half) ≡ 90
unfolding half_line
half_length half = simp (length-append, all_arguments_length half.arguments)

pub state_length : (state : State) → length (state_lines state) ≡ 357
unfolding state_lines
state_length state = simp (length-append, pen_length state.modes, locks_length state.locks, stops_length state.stops, half_length state.half)

module _ (row : List ℕ) where
  pub mark_line_length : length (mark_line row) ≡ 4 * length row + 2
  mark_line_length = rw (length-append (bytes ":" ++ hex_pairs row) line_end, pairs_length row) (omega arith)

  pub character_line_length : length (character_line row) ≡ length row + 3
  character_line_length = rw (length-append (bytes "|" ++ row) (bytes "|\n")) (omega arith)

-- Rows of one width have lines of one width.
rows_length : (line : List ℕ → List ℕ) (columns width : ℕ) → ((row : List ℕ) → length row ≡ columns → length (line row) ≡ width) → (rows : ℕ) (cells : List ℕ) → length cells ≡ rows * columns → length (row_lines line rows columns cells) ≡ rows * width
unfolding flat_map rows_of
rows_length line columns width each zero cells all = sym (zero-mul width)
rows_length line columns width each (suc rows) cells all =
    let more : suc rows * columns ≡ rows * columns + columns = suc-mul rows columns in
    let row : length (take columns cells) ≡ columns = length-take-le columns cells (omega arith) in
    let rest : length (drop columns cells) ≡ rows * columns = length-drop columns cells ∙ (omega arith) in
    rw (length-append (line (take columns cells)) (row_lines line rows columns (drop columns cells)), each (take columns cells) row, rows_length line columns width each rows (drop columns cells) rest, suc-mul rows width) (omega arith)

module _ (state : State) (characters marks : List ℕ) where
  pub parts_length : length (drawn state characters marks) ≡ length (state_lines state) + length (row_lines character_line state.size.rows state.size.columns characters) + length (row_lines mark_line state.size.rows state.size.columns marks)
  unfolding drawn
  parts_length = simp length-append

  -- For a caller's room.
  pub drawn-length : length characters ≡ state.size.rows * state.size.columns → length marks ≡ state.size.rows * state.size.columns → length (drawn state characters marks) ≡ 357 + state.size.rows * (state.size.columns + 3) + state.size.rows * (4 * state.size.columns + 2)
  drawn-length c m =
      let columns = state.size.columns in
      let shown = rows_length character_line columns (columns + 3) (λ row h. rw h at (character_line_length row)) state.size.rows characters c in
      let hexed = rows_length mark_line columns (4 * columns + 2) (λ row h. rw h at (mark_line_length row)) state.size.rows marks m in
      rw (parts_length, state_length state, shown, hexed)
