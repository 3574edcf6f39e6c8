-- What is claimed of a call: its number, that it changed nothing, that it did some steps, that two results are the
-- same.
use Rattle.std.specs.Prelude.{true, false, List, [], ◌↔◌, ◌≡◌, ℕ, ◌*◌, ◌<◌, length, replicate}
use Rattle.words.specs.Output.{placed}
use Rattle.page.specs.Page.{Page}
use Rattle.state.specs.declared.Size.{Size}
use Rattle.state.specs.State.{fresh_state}
use Rattle.steps.specs.Steps.{Terminal, Stepped}
use Rattle.terminal.specs.declared.Reply.{Reply}
use Rattle.terminal.specs.Runs.{after, bytes_sent_by, cells_stored_by, refused_by, protection_by}
use Rattle.terminal.specs.Answers.{Outcome}
use Rattle.terminal.specs.Lines.{Line3, TableLine, Decides}

-- It is given n exactly when n's line holds and none before it does.
abbrev pub NumberedBy : List TableLine → Outcome → Type 1
NumberedBy table outcome = (n : ℕ) → (outcome.number ≡ n) ↔ Decides table n

abbrev pub Refused : Outcome → Type 0
Refused outcome = outcome.number ≡ 0 → ⊥

-- What a refusal leaves: nothing changed, counts 0.
pub record Leaves (t : Terminal) (lent : List ℕ) (outcome : Outcome) : Type 0 where
  pub taken : outcome.taken ≡ 0
  pub sent : outcome.sent ≡ 0
  pub stored : outcome.stored ≡ 0
  pub refused : outcome.refused ≡ 0
  pub protection : outcome.protection ≡ false
  pub terminal : outcome.terminal ≡ t
  pub output : outcome.output ≡ lent

-- What a call that did steps gives and leaves: the bytes taken, the steps' bytes, cells and
-- refusals, and where they led.
pub record Did (taken : ℕ) (t : Terminal) (lent : List ℕ) (steps : List Stepped) (outcome : Outcome) : Type 0 where
  pub bytes_taken : outcome.taken ≡ taken
  pub sent : outcome.sent ≡ length (bytes_sent_by steps)
  pub stored : outcome.stored ≡ length (cells_stored_by steps)
  pub refused : outcome.refused ≡ refused_by steps
  pub protection : outcome.protection ≡ protection_by steps
  pub terminal : outcome.terminal ≡ after t steps
  pub output : outcome.output ≡ placed 0 (bytes_sent_by steps) lent

-- What a host call given 3 leaves: it did the steps before the one whose transmission exceeds the room left, and took
-- their bytes only.
abbrev pub StopsShort : Terminal → List ℕ → List Stepped → Outcome → Type 0
StopsShort t lent steps outcome =
    (line : Line3 (length lent) steps) × Did (length line.before) t lent line.before outcome

-- What a start that is done leaves: a fresh page and a fresh state, of the size asked for. Every cell counts as stored.
pub record Started (size : Size) (outcome : Outcome) : Type 0 where
  pub taken : outcome.taken ≡ 0
  pub sent : outcome.sent ≡ 0
  pub stored : outcome.stored ≡ size.rows * size.columns
  pub refused : outcome.refused ≡ 0
  pub protection : outcome.protection ≡ true
  pub state : outcome.terminal.state ≡ fresh_state size
  pub characters : outcome.terminal.page.characters ≡ replicate (size.rows * size.columns) 0x20
  pub marks : outcome.terminal.page.marks ≡ replicate (size.rows * size.columns) 0
  pub output : outcome.output ≡ []

-- Four bytes can tell the counts.
pub record CountsFit (outcome : Outcome) : Type 0 where
  pub taken : outcome.taken < 4294967296
  pub sent : outcome.sent < 4294967296
  pub stored : outcome.stored < 4294967296

-- Two results with what they left are the same.
pub record SameResult (one other : Reply) (page other_page : Page) (output other_output : List ℕ) : Type 0 where
  pub replies : one ≡ other
  pub pages : page ≡ other_page
  pub outputs : output ≡ other_output
