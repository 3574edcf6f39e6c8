-- Document 01, "Numbers a call gives back", as tests that run: the refusals of each call in one ordered list, of which
-- the first that holds decides. Lines.antt has the same lines in the table's words.
use Rattle.std.specs.Prelude.{◌≡◌, Bool, true, false, not, List, [], ◌∷◌, ◌++◌, ℕ, ltb, length}
use Rattle.words.specs.Choice.{If◌then◌else◌, ◌and◌}
use Rattle.page.specs.Page.{Page, valid_page}
use Rattle.state.specs.declared.Size.{Size}
use Rattle.state.specs.Tests.{size_fits, valid_state}
use Rattle.steps.specs.Steps.{Terminal, Stepped, Valid}
use Rattle.keys.specs.Keys.{is_known, is_locked_out, lacks_cell, is_not_taken, is_held_back, key_step}
use Rattle.terminal.specs.declared.Answer.{Answer}
use Rattle.terminal.specs.declared.Answer.TheVariants.{Done, WrongSize, WrongState, NoRoom}
use Rattle.terminal.specs.declared.Answer.TheVariants.{UnknownKey, Locked, TooLong, NoCell, NotTaken}
use Rattle.terminal.specs.declared.Answer.TheVariants.{RequiredBlank}
use Rattle.terminal.specs.Runs.{steps_of, fitting}

-- A line's test, and the answer that it gives.
pub record LineTest : Type 0 where
  pub holds : Bool
  pub answer : Answer

infix 68 ◌answers◌
abbrev pub ◌answers◌ : Bool → Answer → LineTest
test answers answer = record { holds = test; answer = answer }

unfoldable pub first_of : List LineTest → Answer
first_of [] = Done
first_of (line ∷ later) =
    let further = first_of later in
    If line.holds then line.answer
    else further

-- A step is left out, since its transmission exceeds the room left.
unfoldable pub exceeds_room : ℕ → List Stepped → Bool
exceeds_room room steps = ltb (length (fitting room steps)) (length steps)

-- Line 2 is not given; line 1 is tested before.
unfoldable pub passes_line2 : Terminal → Bool
passes_line2 t = valid_state t.state and valid_page t.page

unfoldable pub start_lines : Size → Page → List LineTest
start_lines size page = not (size_fits size page) answers WrongSize ∷ []

-- The lines that are tested before the steps are looked at; each leaves all unchanged.
unfoldable pub host_refusals : Terminal → List ℕ → List LineTest
host_refusals t bytes =
    not (size_fits t.state.size t.page) answers WrongSize
    ∷ not (passes_line2 t) answers WrongState
    ∷ ltb 65536 (length bytes) answers TooLong
    ∷ []

unfoldable pub key_refusals : Terminal → ℕ → List LineTest
key_refusals t key =
    not (size_fits t.state.size t.page) answers WrongSize
    ∷ not (passes_line2 t) answers WrongState
    ∷ not (is_known key) answers UnknownKey
    ∷ is_locked_out key t.state answers Locked
    ∷ lacks_cell key t answers NoCell
    ∷ is_not_taken key t answers NotTaken
    ∷ is_held_back key t answers RequiredBlank
    ∷ []

-- What lets a key pass them.
pub record Passes (t : Terminal) (key : ℕ) : Type 0 where
  pub valid : Valid t
  pub known : is_known key ≡ true
  pub not_locked_out : is_locked_out key t.state ≡ false
  pub has_cell : lacks_cell key t ≡ false
  pub taken : is_not_taken key t ≡ false
  pub not_held_back : is_held_back key t ≡ false

-- Line 3 is the last.
unfoldable pub host_lines : Terminal → List ℕ → List ℕ → List LineTest
host_lines t bytes output =
    host_refusals t bytes ++ (exceeds_room (length output) (steps_of t bytes) answers NoRoom ∷ [])

unfoldable pub key_lines : Terminal → ℕ → List ℕ → List LineTest
key_lines t key output =
    key_refusals t key ++ (exceeds_room (length output) (key_step key t ∷ []) answers NoRoom ∷ [])
