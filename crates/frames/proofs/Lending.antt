-- Laws of what stands in lent slices.
use mathlib.Core.Path.{◌≡◌, refl, sym, ap, ◌∙◌}
use Rattle.std.specs.Prelude.{Option, Some, None}
use mathlib.Core.List.{List, [], ◌∷◌, ◌++◌, append-nil}
use Prim.Native.Nat.{ℕ, zero, suc, ◌+◌, ◌-◌, ◌≤◌, min}
use native.Mathlib.Omega.{arith}
use lib.ListN.{length, take, drop, length-append, length-take, take-append-drop, drop_of_length-le}
use lib.Seq.{take-nil, length-take-le, take_all}
use Rattle.words.specs.Output.{placed, Wrote}
use Rattle.words.proofs.Choosing.{less_or_not}
use Rattle.words.proofs.Output.{placed_before, wrote_none}
use Rattle.frames.specs.declared.Held.{Held}
use Rattle.page.specs.Page.{page_of}
use Rattle.steps.specs.Steps.{Terminal}
use Rattle.frames.specs.Sessions.{session}
use Rattle.frames.specs.Held.{kept, characters_of, marks_of, session_in, Lent, Enough}

-- A front before the rest of a list is a front written over it.
pub placed_front : (front list : List ℕ) (n : ℕ) → length front ≡ n → front ++ drop n list ≡ placed 0 front list
unfolding placed
placed_front front list n long = let size : n ≡ 0 + length front = omega arith in ap (λ (k : ℕ). front ++ drop k list) size

-- A part of no more than the list is the same part.
pub take_least : (n most : ℕ) (list : List ℕ) → length list ≡ most → take (min n most) list ≡ take n list
take_least n most list long =
    less_or_not n most
    (λ less. let small : min n most ≡ n = omega arith in rw small)
    (λ all. let big : min n most ≡ most = omega arith in rw big (take_all most list (omega arith) ∙ sym (take_all n list (omega arith))))

-- The page stands first in the lent slices.
pub placed_own : (n : ℕ) (list : List ℕ) → list ≡ placed 0 (take n list) list
unfolding placed
placed_own n list =
    less_or_not n (length list)
    (λ short. let size : 0 + length (take n list) ≡ n = omega (arith, length-take-le n list (omega arith)) in sym (rw size (take-append-drop n list)))
    (λ all.
    let end : length list ≤ 0 + length (take n list) = omega (arith, ap (length {A = ℕ}) (take_all n list all)) in
    sym (rw (drop_of_length-le list end) (append-nil (take n list) ∙ take_all n list all)))

pub characters_stand : (held : Option Held) (characters marks : List ℕ) → characters ≡ placed 0 (characters_of (session_in held characters marks)) characters
unfolding session_in characters_of
characters_stand None characters marks = (wrote_none 0 characters).left
characters_stand (Some held) characters marks = placed_own held.cells characters

pub marks_stand : (held : Option Held) (characters marks : List ℕ) → marks ≡ placed 0 (marks_of (session_in held characters marks)) marks
unfolding session_in marks_of
marks_stand None characters marks = (wrote_none 0 marks).left
marks_stand (Some held) characters marks = placed_own held.cells marks

-- The part of a line between two places, however far they lie.
drop-take : (from n : ℕ) (list : List ℕ) → drop from (take (from + n) list) ≡ take n (drop from list)
drop-take zero n list = let same : 0 + n ≡ n = omega arith in rw same
drop-take (suc from) n [] = ap (drop (suc from)) (take-nil (suc from + n)) ∙ sym (take-nil n)
drop-take (suc from) n (x ∷ rest) = let next : suc from + n ≡ suc (from + n) = omega arith in rw next (drop-take from n rest)

pub part_of_line : (from to first last most : ℕ) (line : List ℕ) → length line ≡ most → last ≡ min to most → first ≡ min from last → take (last - first) (drop first line) ≡ drop from (take to line)
part_of_line from to first last most line long last-is first-is =
    less_or_not last from
    (λ past.
    let none : last - first ≡ 0 = omega arith in
    let short : length (take last line) ≤ from = omega (arith, length-take-le last line (omega arith)) in
    rw none (sym (drop_of_length-le (take last line) short)) ∙ ap (drop from) to_last)
    (λ inside.
    let start : first ≡ from = omega arith in
    let end : from + (last - from) ≡ last = omega arith in
    rw start (sym (drop-take from (last - from) line) ∙ rw end) ∙ ap (drop from) to_last)
  where
    to_last : take last line ≡ take to line
    to_last = rw last-is (take_least to most line long)

-- Where the line printed ends, the room for it has not.
pub wrote_inside : {bytes before after : List ℕ} {end : ℕ} → Wrote 0 bytes before end after → end ≤ length after
unfolding placed
wrote_inside {bytes} {before} wrote =
    let long = ap (length {A = ℕ}) wrote.left ∙ length-append bytes (drop (0 + length bytes) before) in
    omega (arith, wrote.next_is)

-- A session that is held is the one that was kept, if its page has as many marks as characters.
pub held_again : (t : Terminal) (characters marks : List ℕ) → length t.page.marks ≡ length t.page.characters → session_in (kept (session t)) (placed 0 t.page.characters characters) (placed 0 t.page.marks marks) ≡ session t
unfolding session_in kept
held_again t characters marks same =
    λ i. session (record { state = t.state; page = page_of (placed_before t.page.characters characters i) ((ap (λ (n : ℕ). take n (placed 0 t.page.marks marks)) (sym same) ∙ placed_before t.page.marks marks) i) })

-- And one that stays is itself.
module _ (held : Held) (characters marks : List ℕ) (same : length characters ≡ length marks) where
  abbrev here : Terminal
  here = record { state = held.state; page = page_of (take held.cells characters) (take held.cells marks) }

  as_many : length here.page.marks ≡ length here.page.characters
  as_many = length-take held.cells marks ∙ sym (length-take held.cells characters ∙ ap (min held.cells) same)

  still : session_in (kept (session here)) characters marks ≡ session here
  still = (λ i. session_in (kept (session here)) (placed_own held.cells characters i) (placed_own held.cells marks i)) ∙ held_again here characters marks as_many

pub held_still : (held : Option Held) (characters marks : List ℕ) → length characters ≡ length marks → session_in (kept (session_in held characters marks)) characters marks ≡ session_in held characters marks
unfolding session_in kept
held_still None characters marks same = refl
held_still (Some held) characters marks same = still held characters marks same

-- Lent slices that stay as long as they were are still enough.
pub still_enough : {before after : Lent} → Enough before → length after.characters ≡ length before.characters → length after.marks ≡ length before.marks → length after.out ≡ length before.out → length after.text ≡ length before.text → Enough after
still_enough enough characters marks out text =
    record { characters = characters ∙ enough.characters; marks = marks ∙ enough.marks; out = out ∙ enough.out; text = omega (arith, text, enough.text) }
