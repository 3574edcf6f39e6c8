-- Document 02, M-100: what the three functions that C calls give back and leave.
use Rattle.std.specs.Prelude.{◌≡◌, not, ℕ, ◌*◌, ◌<◌, eqb, leb, ltb, length}
use mathlib.Core.List.{List, [], ◌∷◌, ◌++◌, flat_map}
use Rattle.words.specs.Choice.{If◌then◌else◌, ◌and◌}
use Rattle.words.specs.Output.{placed}
use Rattle.page.specs.Page.{Page, page_of}
use Rattle.state.specs.Tests.{size_fits}
use Rattle.steps.specs.Steps.{Terminal}
use Rattle.terminal.specs.declared.Answer.{Answer}
use Rattle.terminal.specs.Answers.{Outcome, number_of}
use Rattle.terminal.specs.Calls.{start_call, host_call, key_call}
use Rattle.record.specs.Bytes.{number_bytes, number_at, read_each}
use Rattle.record.specs.Record.{record_length, record_of, state_in, is_good}

-- What is lent to a call, each slice by its bytes: the state's record (packed), characters, marks (M-103: two bytes a
-- cell), output, results.
pub record Lent : Type 0 where
  pub packed : List ℕ
  pub characters : List ℕ
  pub marks : List ℕ
  pub output : List ℕ
  pub result : List ℕ

abbrev pub lent_of : List ℕ → List ℕ → List ℕ → List ℕ → List ℕ → Lent
lent_of packed characters marks output result =
    record { packed = packed; characters = characters; marks = marks; output = output; result = result }

-- The number that a call gives back, and what it leaves in what was lent.
pub record Left : Type 0 where
  pub number : ℕ
  pub lent : Lent

-- The result slice has 13 bytes: 0 the number, 1 bytes taken, 5 bytes sent, 9 cells stored.
abbrev pub result_length : ℕ
result_length = 13

unfoldable pub result_bytes : ℕ → ℕ → ℕ → ℕ → List ℕ
result_bytes number taken sent stored =
    (number ∷ []) ++ number_bytes 4 taken ++ number_bytes 4 sent ++ number_bytes 4 stored

-- The most cells that a page has, 48 x 160.
abbrev pub most_cells : ℕ
most_cells = 7680

-- How many marks so many bytes say for a page of so many cells: one for each cell, where the bytes are two for each.
-- Else none, and then line 1 is given: no listed size has no cells.
unfoldable pub marks_said : ℕ → ℕ → ℕ
marks_said cells bytes =
    If leb cells most_cells and eqb bytes (cells * 2) then cells
    else 0

-- The marks that bytes say for a page of so many cells, each the low byte first; and the bytes of marks.
abbrev pub marks_in : ℕ → List ℕ → List ℕ
marks_in cells bytes = read_each (number_at 2 bytes) 2 0 (marks_said cells (length bytes))

abbrev pub mark_bytes : List ℕ → List ℕ
mark_bytes marks = flat_map (number_bytes 2) marks

-- The page that is lent, and the terminal that the record and the page say.
abbrev pub page_in : Lent → Page
page_in lent = page_of lent.characters (marks_in (length lent.characters) lent.marks)

abbrev pub terminal_in : Lent → Terminal
terminal_in lent = record { state = state_in lent.packed; page = page_in lent }

-- M-100's own refusals write nothing.
abbrev pub untouched : ℕ → Lent → Left
untouched number lent = record { number = number; lent = lent }

-- Document 01's write the number and zeros into the result slice, and nothing else.
abbrev pub refused_with : ℕ → Lent → Left
refused_with number lent =
    let left = lent_of lent.packed lent.characters lent.marks lent.output (result_bytes number 0 0 0) in
    record { number = number; lent = left }

-- What an entry gave and left. (A marks slice that is not two bytes a cell stays as it was: no marks are written.)
abbrev pub left_by : Lent → Outcome → Left
left_by lent outcome =
    record {
      number = outcome.number;
      lent =
          record {
            packed = record_of outcome.terminal.state;
            characters = outcome.terminal.page.characters;
            marks = placed 0 (mark_bytes outcome.terminal.page.marks) lent.marks;
            output = outcome.output;
            result = result_bytes outcome.number outcome.taken outcome.sent outcome.stored;
          };
    }

-- Before document 01's refusals: 1, the result slice has another length; 2, the record has. 0 is neither.
unfoldable pub wrong_length : List ℕ → List ℕ → ℕ
wrong_length packed result =
    If not (eqb (length result) result_length) then 1
    else If not (eqb (length packed) record_length) then 2
    else 0

-- Bad content gives 2 in its place: after document 01's 1, which looks at the size and the page slices alone.
unfoldable pub wrong_content : List ℕ → Page → ℕ
wrong_content packed page =
    If not (size_fits (state_in packed).size page) then 1
    else If not (is_good packed) then 2
    else 0

-- A start takes no notice of what the record held; it is lent no output.
unfoldable pub panel_start : ℕ → ℕ → Lent → Left
panel_start rows columns lent =
    let wrong = wrong_length lent.packed lent.result in
    If ltb 0 wrong then untouched wrong lent
    else left_by lent (start_call (record { rows = rows; columns = columns }) (page_in lent))

-- A call on the terminal that the record and the page say.
unfoldable pub on_terminal : (Terminal → Outcome) → Lent → Left
on_terminal call lent =
    let wrong = wrong_length lent.packed lent.result in
    let bad = wrong_content lent.packed (page_in lent) in
    If ltb 0 wrong then untouched wrong lent
    else If ltb 0 bad then refused_with bad lent
    else left_by lent (call (terminal_in lent))

unfoldable pub panel_host : Lent → List ℕ → Left
panel_host lent bytes = on_terminal (λ t. host_call t bytes lent.output) lent

unfoldable pub panel_key : Lent → ℕ → Left
panel_key lent key = on_terminal (λ t. key_call t key lent.output) lent

-- What the contract of an exported function allows: the number that it gives back, with what it leaves.
abbrev pub handed_back : ℕ → Lent → Left
handed_back number lent = record { number = number; lent = lent }

abbrev pub PanelStartAllows : ℕ → ℕ → Lent → ℕ → Lent → Type 0
PanelStartAllows rows columns lent number left = handed_back number left ≡ panel_start rows columns lent

abbrev pub PanelHostAllows : Lent → List ℕ → ℕ → Lent → Type 0
PanelHostAllows lent bytes number left = handed_back number left ≡ panel_host lent bytes

abbrev pub PanelKeyAllows : Lent → ℕ → ℕ → Lent → Type 0
PanelKeyAllows lent key number left = handed_back number left ≡ panel_key lent key

-- What the parts of the code tell one another. A refusal has a number, which is not 0.
pub record RefusedBy (refusal : Answer) (number : ℕ) : Type 0 where
  pub some : 0 < number
  pub told : number_of refusal ≡ number

-- Nothing that is lent to a call on a terminal is wrong, and these are its marks.
pub record Admitted (packed characters marks result own : List ℕ) : Type 0 where
  pub right_lengths : wrong_length packed result ≡ 0
  pub good_content : wrong_content packed (page_of characters own) ≡ 0
  pub marks_read : own ≡ marks_in (length characters) marks

-- Something is: whatever the call was, this is all that it gives and leaves.
abbrev pub Turned : List ℕ → List ℕ → List ℕ → List ℕ → Answer → List ℕ → Type 0
Turned packed characters marks result refusal told =
    (output : List ℕ) (call : Terminal → Outcome) →
    handed_back (number_of refusal) (lent_of packed characters marks output told)
    ≡ on_terminal call (lent_of packed characters marks output result)
