-- Document 02, M-100: what is promised of the three functions that C calls, and of the record in which the state
-- travels. `panel_kept` (proofs/Theorems.antt) is that ours keep it all, `only_our_panel` that no others do.
use Rattle.std.specs.Prelude.{◌≡◌, Bool, true, List, [], ◌∷◌, ◌↔◌, ◌⊎◌, ℕ, ◌*◌, length, get_or, replicate}
use Rattle.words.specs.Output.{placed}
use Rattle.state.specs.declared.Size.{Size}
use Rattle.state.specs.declared.State.{State}
use Rattle.state.specs.State.{Arrays, zero_state}
use Rattle.state.specs.Lines.{Line2}
use Rattle.state.specs.Tests.{listed_size, valid_state}
use Rattle.steps.specs.Steps.{Terminal, Stepped, Valid}
use Rattle.terminal.specs.Answers.{Outcome}
use Rattle.terminal.specs.Lines.{TableLine, ◌when◌, Decides, Line3, Line4, Line5, Line6, Line7, Line8, Line9}
use Rattle.record.specs.Bytes.{number_at, AreBytes}
use Rattle.record.specs.Record.{record_length, record_of, state_in, Good, is_good}
use Rattle.panel.specs.Panel.{Lent, Left, lent_of, result_length, result_bytes, mark_bytes, page_in, terminal_in}
use Rattle.panel.specs.Panel.{panel_start, panel_host, panel_key}
use Rattle.promises.specs.Rules.{Rules, byte_steps}
use Rattle.promises.specs.Entries.{Entries, Call, read, key_press, outcomes}

-- What C calls, whoever wrote it.
pub record Panel : Type 0 where
  pub start : ℕ → ℕ → Lent → Left
  pub host : Lent → List ℕ → Left
  pub key : Lent → ℕ → Left

-- Ours: what the contracts of `panel_start`, `panel_host` and `panel_key` name (PanelStartAllows and the others).
abbrev pub our_panel : Panel
our_panel = record { start = panel_start; host = panel_host; key = panel_key }

-- How a state stands in bytes: written, read, and which bytes are taken for a record.
pub record Coding : Type 0 where
  pub write : State → List ℕ
  pub read : List ℕ → State
  pub takes : List ℕ → Bool

-- Ours: what the contracts of `record_of`, `state_in` and `is_good` name.
abbrev pub our_coding : Coding
our_coding = record { write = record_of; read = state_in; takes = is_good }

-- A state that lines 1 and 2 let pass, with the arrays of the code.
pub record ValidState (s : State) : Type 0 where
  pub listed : listed_size s.size ≡ true
  pub valid : valid_state s ≡ true
  pub arrays : Arrays s

-- One record for each valid state, and its state back. A record has 195 bytes, that of the all-zero state all zeros.
pub record OneRecord (coding : Coding) : Type 0 where
  pub fixed_length : (s : State) → length (coding.write s) ≡ record_length
  pub taken : (s : State) → ValidState s → coding.takes (coding.write s) ≡ true
  pub back : (s : State) → ValidState s → coding.read (coding.write s) ≡ s
  pub one : (bytes other : List ℕ) → coding.takes bytes ≡ true → coding.takes other ≡ true →
      coding.read bytes ≡ coding.read other → bytes ≡ other
  pub all_zeros : coding.write zero_state ≡ replicate record_length 0

-- The lines of the table for C. M-100's own come first; bad content gives 2 before document 01's 2, after its 1.
abbrev pub ResultOtherLength : Lent → Type 0
ResultOtherLength lent = length lent.result ≡ result_length → ⊥

abbrev pub RecordOtherLength : Lent → Type 0
RecordOtherLength lent = length lent.packed ≡ record_length → ⊥

-- Document 01's line 1, of what C lends: the size is none of the nine, or a page slice has another length than the size
-- says. The marks' slice has two bytes a cell.
pub data PanelLine1 (size : Size) (lent : Lent) : Type 0 where
  rows_not_listed : (size.rows ≡ 24 → ⊥) → (size.rows ≡ 27 → ⊥) → (size.rows ≡ 48 → ⊥) → PanelLine1 size lent
  columns_not_listed : (size.columns ≡ 80 → ⊥) → (size.columns ≡ 132 → ⊥) → (size.columns ≡ 160 → ⊥) →
      PanelLine1 size lent
  characters_not_as_long : (length lent.characters ≡ size.rows * size.columns → ⊥) → PanelLine1 size lent
  marks_not_twice_as_long : (length lent.marks ≡ size.rows * size.columns * 2 → ⊥) → PanelLine1 size lent

abbrev pub BadContent : Lent → Type 0
BadContent lent = Good lent.packed → ⊥

abbrev pub panel_start_table : Size → Lent → List TableLine
panel_start_table size lent =
    1 when ResultOtherLength lent
    ∷ 2 when RecordOtherLength lent
    ∷ 1 when PanelLine1 size lent
    ∷ []

abbrev pub panel_host_table : Lent → List ℕ → List Stepped → List TableLine
panel_host_table lent bytes steps =
    1 when ResultOtherLength lent
    ∷ 2 when RecordOtherLength lent
    ∷ 1 when PanelLine1 (state_in lent.packed).size lent
    ∷ 2 when BadContent lent
    ∷ 2 when Line2 (state_in lent.packed) (page_in lent)
    ∷ 6 when Line6 bytes
    ∷ 3 when Line3 (length lent.output) steps
    ∷ []

abbrev pub panel_key_table : Lent → ℕ → Stepped → List TableLine
panel_key_table lent key step =
    1 when ResultOtherLength lent
    ∷ 2 when RecordOtherLength lent
    ∷ 1 when PanelLine1 (state_in lent.packed).size lent
    ∷ 2 when BadContent lent
    ∷ 2 when Line2 (state_in lent.packed) (page_in lent)
    ∷ 4 when Line4 key
    ∷ 5 when Line5 key (state_in lent.packed)
    ∷ 7 when Line7 key (terminal_in lent)
    ∷ 8 when Line8 key (terminal_in lent)
    ∷ 9 when Line9 key (terminal_in lent)
    ∷ 3 when Line3 (length lent.output) (step ∷ [])
    ∷ []

-- A call is given n exactly when n's line holds and none before it does; no other number is ever given.
pub record PanelNumbers (rules : Rules) (panel : Panel) : Type 1 where
  pub of_start : (size : Size) (lent : Lent) (n : ℕ) →
      ((panel.start size.rows size.columns lent).number ≡ n) ↔ Decides (panel_start_table size lent) n
  pub of_host : (lent : Lent) (bytes : List ℕ) (n : ℕ) →
      ((panel.host lent bytes).number ≡ n)
      ↔ Decides (panel_host_table lent bytes (byte_steps rules (terminal_in lent) bytes)) n
  pub of_key : (lent : Lent) (key n : ℕ) →
      ((panel.key lent key).number ≡ n) ↔ Decides (panel_key_table lent key (rules.on_key key (terminal_in lent))) n

-- A slice of another length: M-100's own refusals, which leave every slice as it was.
abbrev pub OtherLength : Lent → Type 0
OtherLength lent = ResultOtherLength lent ⊎ RecordOtherLength lent

-- Document 01's refusals write the number and zeros into the result slice, and leave the rest. (Of a slice of C's every
-- element is below 256; a list says so of its marks by `AreBytes`, where they are written again as they were read.)
pub record ToldAlone (number : ℕ) (lent left : Lent) : Type 0 where
  pub packed : left.packed ≡ lent.packed
  pub characters : left.characters ≡ lent.characters
  pub marks : left.marks ≡ lent.marks
  pub output : left.output ≡ lent.output
  pub result : left.result ≡ number ∷ replicate 12 0

-- But a start that is refused so leaves a record of zeros. (It is lent no output.)
pub record ToldZeros (number : ℕ) (lent left : Lent) : Type 0 where
  pub packed : left.packed ≡ replicate record_length 0
  pub characters : left.characters ≡ lent.characters
  pub marks : left.marks ≡ lent.marks
  pub output : left.output ≡ lent.output
  pub result : left.result ≡ number ∷ replicate 12 0

-- Neither slice has another length, and the call is refused all the same.
abbrev pub RefusedLater : Lent → Left → Type 0
RefusedLater lent left = (OtherLength lent → ⊥) × (left.number ≡ 0 → ⊥)

pub record PanelRefusals (panel : Panel) : Type 0 where
  pub own_start : (rows columns : ℕ) (lent : Lent) → OtherLength lent → (panel.start rows columns lent).lent ≡ lent
  pub own_host : (lent : Lent) (bytes : List ℕ) → OtherLength lent → (panel.host lent bytes).lent ≡ lent
  pub own_key : (lent : Lent) (key : ℕ) → OtherLength lent → (panel.key lent key).lent ≡ lent
  pub of_start : (rows columns : ℕ) (lent : Lent) → lent.output ≡ [] → AreBytes lent.marks →
      RefusedLater lent (panel.start rows columns lent) →
      ToldZeros (panel.start rows columns lent).number lent (panel.start rows columns lent).lent
  pub of_host : (lent : Lent) (bytes : List ℕ) → AreBytes lent.marks →
      RefusedLater lent (panel.host lent bytes) → ((panel.host lent bytes).number ≡ 3 → ⊥) →
      ToldAlone (panel.host lent bytes).number lent (panel.host lent bytes).lent
  pub of_key : (lent : Lent) (key : ℕ) → AreBytes lent.marks → RefusedLater lent (panel.key lent key) →
      ToldAlone (panel.key lent key).number lent (panel.key lent key).lent

-- What an entry gave and left, as C sees it: the number, the record of the state handed back, the page (its marks in
-- place of those lent), the output, and in the result slice the number and the three counts; page, number and counts as
-- they are read there.
pub record Shown (marks_lent : List ℕ) (outcome : Outcome) (left : Left) : Type 0 where
  pub number : left.number ≡ outcome.number
  pub packed : left.lent.packed ≡ record_of outcome.terminal.state
  pub characters : left.lent.characters ≡ outcome.terminal.page.characters
  pub marks : left.lent.marks ≡ placed 0 (mark_bytes outcome.terminal.page.marks) marks_lent
  pub output : left.lent.output ≡ outcome.output
  pub result : left.lent.result ≡ result_bytes outcome.number outcome.taken outcome.sent outcome.stored
  pub page_there : page_in left.lent ≡ outcome.terminal.page
  pub number_there : get_or left.lent.result 0 0 ≡ outcome.number
  pub taken_there : number_at 4 left.lent.result 1 ≡ outcome.taken
  pub sent_there : number_at 4 left.lent.result 5 ≡ outcome.sent
  pub stored_there : number_at 4 left.lent.result 9 ≡ outcome.stored

-- A terminal lent by C, with an output and a result slice.
abbrev pub lent_for : Terminal → List ℕ → List ℕ → Lent
lent_for t output result =
    lent_of (record_of t.state) t.page.characters (mark_bytes t.page.marks) output result

-- As called: with the record of a valid state an exported function gives what the entry gives, and leaves the record of
-- the state that the entry hands back.
pub record AsCalled (entries : Entries) (panel : Panel) : Type 0 where
  pub of_start : (size : Size) (lent : Lent) → (OtherLength lent → ⊥) → lent.output ≡ [] → AreBytes lent.marks →
      Shown lent.marks (entries.start size (page_in lent)) (panel.start size.rows size.columns lent)
  pub of_host : (t : Terminal) → Valid t → Arrays t.state → (bytes output result : List ℕ) →
      length result ≡ result_length →
      Shown (mark_bytes t.page.marks) (entries.host t bytes output) (panel.host (lent_for t output result) bytes)
  pub of_key : (t : Terminal) → Valid t → Arrays t.state → (key : ℕ) (output result : List ℕ) →
      length result ≡ result_length →
      Shown (mark_bytes t.page.marks) (entries.key t key output) (panel.key (lent_for t output result) key)

-- Calls of C one after another, each on the record, the page and the result slice that the one before left.
abbrev pub with_output : List ℕ → Lent → Lent
with_output output lent = lent_of lent.packed lent.characters lent.marks output lent.result

unfoldable pub left_of : Panel → Call → Lent → Left
left_of panel (read bytes output) lent = panel.host (with_output output lent) bytes
left_of panel (key_press key output) lent = panel.key (with_output output lent) key

unfoldable pub left_all : Panel → Lent → List Call → List Left
left_all panel lent [] = []
left_all panel lent (call ∷ later) = let left = left_of panel call lent in left ∷ left_all panel left.lent later

pub data AllShown : List ℕ → List Outcome → List Left → Type 0 where
  no_more : (marks : List ℕ) → AllShown marks [] []
  next_shown : (marks : List ℕ) (outcome : Outcome) (left : Left) (later : List Outcome) (further : List Left) →
      Shown marks outcome left → AllShown left.lent.marks later further →
      AllShown marks (outcome ∷ later) (left ∷ further)

-- So it goes on: what C sees of any calls, from a valid terminal on, is what the entries give, of which all the demands
-- hold.
abbrev pub AsCalledOn : Entries → Panel → Type 0
AsCalledOn entries panel =
    (t : Terminal) → Valid t → Arrays t.state → (calls : List Call) (output result : List ℕ) →
    length result ≡ result_length →
    AllShown (mark_bytes t.page.marks)
    (outcomes entries t calls) (left_all panel (lent_for t output result) calls)

-- The record that a call given 0 or 3 leaves is that of a valid state, beside a valid page.
pub record HoldsValid (lent : Lent) : Type 0 where
  pub state : State
  pub is_its_record : lent.packed ≡ record_of state
  pub arrays : Arrays state
  pub valid : Valid (record { state = state; page = page_in lent })

pub record LeavesValid (panel : Panel) : Type 0 where
  pub of_start : (rows columns : ℕ) (lent : Lent) → (panel.start rows columns lent).number ≡ 0 →
      HoldsValid (panel.start rows columns lent).lent
  pub of_host : (lent : Lent) (bytes : List ℕ) →
      ((panel.host lent bytes).number ≡ 0) ⊎ ((panel.host lent bytes).number ≡ 3) →
      HoldsValid (panel.host lent bytes).lent
  pub of_key : (lent : Lent) (key : ℕ) → (panel.key lent key).number ≡ 0 → HoldsValid (panel.key lent key).lent

-- One panel: what keeps numbers, refusals and `AsCalled` is the same on every input. (A start is lent no output.)
pub record SamePanels (one other : Panel) : Type 0 where
  pub of_start : (rows columns : ℕ) (lent : Lent) → lent.output ≡ [] → AreBytes lent.marks →
      one.start rows columns lent ≡ other.start rows columns lent
  pub of_host : (lent : Lent) (bytes : List ℕ) → AreBytes lent.marks → one.host lent bytes ≡ other.host lent bytes
  pub of_key : (lent : Lent) (key : ℕ) → AreBytes lent.marks → one.key lent key ≡ other.key lent key

-- All of it.
pub record PanelKept (rules : Rules) (entries : Entries) (panel : Panel) : Type 1 where
  pub numbers : PanelNumbers rules panel
  pub refusals : PanelRefusals panel
  pub as_called : AsCalled entries panel
  pub as_called_on : AsCalledOn entries panel
  pub leaves_valid : LeavesValid panel
