-- What the commands that send tell, where there is room and where there is none.
use mathlib.Core.Path.{◌≡◌, sym, ap, ◌∙◌}
use mathlib.Core.Bool.{Bool, false}
use mathlib.Core.List.{List}
use Prim.Native.Nat.{ℕ, ◌-◌}
use lib.Dec.{leb}
use lib.ListN.{length}
use Rattle.std.specs.Prelude.{Result, Ok, Err}
use Rattle.words.proofs.Choosing.{either_way, then_case, else_case}
use Rattle.page.specs.Page.{Page, page_of}
use Rattle.output.specs.declared.NoRoom.{NoRoom}
use Rattle.blocks.specs.Blocks.{block, BlockWritten, writing_block}
use Rattle.state.specs.declared.State.{State}
use Rattle.steps.specs.declared.Step.{Step}
use Rattle.steps.specs.Told.{told_or, Written, written}
use Rattle.sending.specs.Sending.{send_block}
use Rattle.steps.proofs.Writing.{block-bytes}

-- What the code makes of a block's answer.
abbrev pub step_of : State → Result ℕ NoRoom → Result Step NoRoom
step_of state (Ok bytes) = Ok (record { state = state; stored = 0; sent = bytes; refused = false; protection = false })
step_of state (Err no_room) = Err no_room

abbrev written_of : State → State → List ℕ → BlockWritten → Written
written_of state before characters s =
    record { told = told_or (step_of state s.answer) before (page_of characters s.marks); output = s.output }

-- That is the step that sends a block.
sends-block : (full : Bool) (state before : State) (page : Page) (at : ℕ) (output : List ℕ) → written_of state before page.characters (writing_block full state.size.columns page at output) ≡ written at output (record { state = before; page = page }) (send_block full (record { state = state; page = page }))
unfolding writing_block send_block written
sends-block full state before page at output =
    rw (block-bytes full (block full state.size.columns page))
    (either_way (leb (length (block full state.size.columns page)) (length output - at))
    (λ fits. rw (then_case _ _ _ fits) (sym (then_case _ _ _ fits)))
    (λ not. rw (else_case _ _ _ not) (sym (else_case _ _ _ not))))

pub block_told : (full : Bool) (state before : State) (page : Page) (at : ℕ) (output : List ℕ) (answer : Result ℕ NoRoom) (marks out : List ℕ) → record { answer = answer; marks = marks; output = out } ≡ writing_block full state.size.columns page at output → record { told = told_or (step_of state answer) before (page_of page.characters marks); output = out } ≡ written at output (record { state = before; page = page }) (send_block full (record { state = state; page = page }))
block_told full state before page at output answer marks out did = ap (written_of state before page.characters) did ∙ sends-block full state before page at output
