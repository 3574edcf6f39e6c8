-- Terminals that don't take their own blocks back are caught by demand 2, feeding back.
use mathlib.Core.Path.{refl, ap}
use mathlib.Core.List.{List, [], ◌∷◌}
use Prim.Native.Nat.{ℕ}
use Prim.Native.Char.{code}
use borrow.Author.Tests.{eqb-false}
use lib.ListN.{replicate}
use Rattle.steps.specs.Steps.{Terminal, full_block}
use Rattle.promises.specs.Rules.{our_rules, press}
use Rattle.promises.specs.Entries.{Entries, Read}
use Rattle.promises.specs.FeedingBack.{Receives, FedBack}
use Rattle.promises.specs.Demands.{FeedingBack}
use Rattle.wrong.specs.Entries.{stores_no_text, fixed_answer, refuses_long_reads}
use Rattle.promises.proofs.Calling.{first_done}
use Rattle.promises.proofs.Sheets.{sheet, at}
use Rattle.promises.proofs.Worked.{no_tag, start, in_full, start_valid, full_bytes, full_no_tag}
use Rattle.wrong.proofs.WrongModes.{in_full_valid}
use Rattle.promises.proofs.Computing.{validity, key_steps, calls, streams}

-- The sender has AB and CD, with a protected cell between them; the receiver has the same form, empty.
abbrev receiver : Terminal
receiver = at 1 (sheet (replicate 5 0x20) no_tag)

receives : Receives (in_full start) receiver
unfolding validity
receives = record { valid = record { size = refl; state = refl; page = refl }; size = refl; protection = λ cell. refl; nothing_half_read = refl; unprotected_pen = refl }

-- What 266 sends at the sender, where it sends all, is fed in one read with no room.
abbrev sent : List ℕ
sent = full_bytes "A" "C"

abbrev one_read : List Read
one_read = record { bytes = sent; output = [] } ∷ []

fed : (entries : Entries) → FeedingBack our_rules entries → FedBack our_rules entries (in_full start) receiver sent one_read
unfolding streams key_steps
fed entries kept = kept (in_full start) receiver (press 266) sent one_read (in_full_valid start_valid) (ap full_block (full_no_tag "A" "C")) receives refl

-- Then the first cell has the sender's A, and not the receiver's 20.
pub stores_no_text_breaks_feeding_back : FeedingBack our_rules stores_no_text → ⊥
unfolding streams key_steps
stores_no_text_breaks_feeding_back kept =
    eqb-false (code " ") (code "A") refl ((fed stores_no_text kept).characters 0 refl)

pub fixed_answer_breaks_feeding_back : FeedingBack our_rules fixed_answer → ⊥
unfolding streams calls key_steps
fixed_answer_breaks_feeding_back kept =
    eqb-false (code " ") (code "A") refl ((fed fixed_answer kept).characters 0 refl)

-- And the read is given 0, and not 6.
pub refuses_long_reads_breaks_feeding_back : FeedingBack our_rules refuses_long_reads → ⊥
unfolding streams calls
refuses_long_reads_breaks_feeding_back kept = eqb-false 6 0 refl (first_done (fed refuses_long_reads kept).answered)
