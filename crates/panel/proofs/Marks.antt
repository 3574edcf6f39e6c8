-- A page's marks as bytes, two a cell: how many bytes say, marks that were read written again, and the other way.
use mathlib.Core.Path.{◌≡◌, refl, sym, ap, ◌∙◌}
use mathlib.Core.Bool.{true}
use mathlib.Core.List.Memᴰ
use mathlib.Core.List.{List, [], ◌∷◌, append-nil, Memᴰ}
use mathlib.Core.Logic.{⊎_elim}
use Prim.Native.Nat.{ℕ, ◌+◌, ◌*◌, ◌<◌, ◌≤◌}
use native.Mathlib.Omega.{arith}
use borrow.Author.Tests.{leb-true, le-leb, eqb-true, eq-eqb}
use lib.ListN.{length, take, drop, replicate, take-append-drop, drop_of_length-le, length-append, length-drop}
use lib.Seq.{length-take-le}
use Rattle.words.specs.Lists.{every}
use Rattle.words.specs.Output.{placed}
use Rattle.words.proofs.Choosing.{both, both_hold, then_case, either_line}
use Rattle.words.proofs.Pieces.{flat_length}
use Rattle.page.specs.Marks.{valid_mark}
use Rattle.page.proofs.Valid.{valid_mark_lem}
use Rattle.record.specs.Bytes.{number_bytes, number_at, AreBytes, read_each}
use Rattle.record.proofs.Reading.{length-each, first_read}
use Rattle.record.proofs.RoundTrip.{many, number_back, each_back, numbers_again, all_again}
use Rattle.panel.specs.Panel.{marks_said, marks_in, mark_bytes}

-- No more than there are bytes for, and than the largest page has: so many of our own can be lent.
pub said_there : (cells bytes : ℕ) → marks_said cells bytes * 2 ≤ bytes
unfolding marks_said
said_there cells bytes =
    either_line (λ (n : ℕ). n * 2 ≤ bytes) _ _ _ (λ said. omega (arith, eqb-true bytes (cells * 2) (both said).1)) (λ _. omega arith)

-- So many bytes there are for marks that were read.
pub read_there : (cells : ℕ) (bytes : List ℕ) {own : List ℕ} → own ≡ marks_in cells bytes → length own * 2 ≤ length bytes
read_there cells bytes is =
    omega (arith, ap length is ∙ length-each (number_at 2 bytes) 2 0 (marks_said cells (length bytes)), said_there cells (length bytes))

said_most : (cells bytes : ℕ) → marks_said cells bytes ≤ 7680
unfolding marks_said
said_most cells bytes =
    either_line (λ (n : ℕ). n ≤ 7680) _ _ _ (λ said. leb-true cells 7680 (both said).0) (λ _. omega arith)

module _ (n cells bytes : ℕ) (said : n ≡ marks_said cells bytes) where
  pub own_fit : n ≤ 7680
  own_fit = omega (arith, said, said_most cells bytes)

  pub own_length : length {A = ℕ} (take n (replicate 7680 0)) ≡ n
  own_length = let zeros : List ℕ = replicate 7680 0 in length-take-le n zeros own_fit

-- Bytes that say these marks already are left as they are by writing them.
pub said_already : (bytes marks : List ℕ) → AreBytes bytes → length marks * 2 ≤ length bytes → read_each (number_at 2 bytes) 2 0 (length marks) ≡ marks → bytes ≡ placed 0 (mark_bytes marks) bytes
unfolding placed
said_already bytes marks are fits said =
    let count = length marks * 2 in
    let same : mark_bytes marks ≡ take count bytes = sym (ap mark_bytes said) ∙ numbers_again bytes are 2 0 (length marks) ∙ first_read bytes count fits in
    let past : 0 + length (take count bytes) ≡ count = omega (arith, length-take-le count bytes fits) in
    rw (same, past) (sym (take-append-drop count bytes))

-- Where the bytes are two a cell, there is a mark for each cell; and only there, where there is any.
pub all_said : (cells bytes : ℕ) → cells ≤ 7680 → bytes ≡ cells * 2 → marks_said cells bytes ≡ cells
unfolding marks_said
all_said cells bytes most two = then_case {A = ℕ} _ _ _ (both_hold _ _ (le-leb cells 7680 most) (eq-eqb bytes (cells * 2) two))

pub some_said : (cells bytes : ℕ) → 0 < marks_said cells bytes → (marks_said cells bytes ≡ cells) × (bytes ≡ cells * 2)
unfolding marks_said
some_said cells bytes =
    either_line (λ (n : ℕ). 0 < n → (n ≡ cells) × (bytes ≡ cells * 2)) _ _ _
    (λ said _. (refl, eqb-true bytes (cells * 2) (both said).1))
    (λ _ some. absurd (omega arith))

pub mark_bytes-length : (marks : List ℕ) → length (mark_bytes marks) ≡ length marks * 2
unfolding number_bytes
mark_bytes-length = flat_length (number_bytes 2) 2 (λ _. refl)

-- Marks that were read from two bytes a cell are written again as they were.
pub marks_again : (cells : ℕ) (bytes : List ℕ) → AreBytes bytes → cells ≤ 7680 → length bytes ≡ cells * 2 → mark_bytes (marks_in cells bytes) ≡ bytes
marks_again cells bytes are most two =
    rw (all_said cells (length bytes) most two) (all_again bytes are 2 cells two)

-- So a call that changes none leaves the bytes as they were, however many there are.
pub marks_unchanged : (cells : ℕ) (bytes : List ℕ) → AreBytes bytes → placed 0 (mark_bytes (marks_in cells bytes)) bytes ≡ bytes
marks_unchanged cells bytes are =
    let count = marks_said cells (length bytes) in
    let as_many = length-each (number_at 2 bytes) 2 0 count in
    sym (said_already bytes (marks_in cells bytes) are (rw as_many (said_there cells (length bytes))) (ap (read_each (number_at 2 bytes) 2 0) as_many))

-- Marks that are in range are read back.
marks_fit : (marks : List ℕ) → every valid_mark marks ≡ true → (mark : ℕ) → Memᴰ mark marks → mark < many 2
unfolding every many
marks_fit [] valid mark among = absurd (Memᴰ.not-nil among)
marks_fit (first ∷ later) valid mark among =
    let here = (valid_mark_lem first (both valid).0).0 in
    ⊎_elim (λ is. omega arith) (λ after. marks_fit later (both valid).1 mark after) (Memᴰ.cases_cons among)

pub marks_back : (cells : ℕ) (marks : List ℕ) → every valid_mark marks ≡ true → cells ≤ 7680 → length marks ≡ cells → marks_in cells (mark_bytes marks) ≡ marks
unfolding number_bytes
marks_back cells marks valid most all =
    let bytes = mark_bytes marks in
    let two : length bytes ≡ cells * 2 = mark_bytes-length marks ∙ ap (λ (n : ℕ). n * 2) all in
    rw (all_said cells (length bytes) most two)
    (rw (append-nil bytes, all) at (each_back (number_bytes 2) (number_at 2) 2 (λ _. refl) (λ n. n < many 2) (λ n fits before after. number_back 2 n fits before after) marks (marks_fit marks valid) [] []))

-- What is written and is as long as what is there then is all that is there.
pub placed_whole : (written before : List ℕ) → length (placed 0 written before) ≡ length written → placed 0 written before ≡ written
unfolding placed
placed_whole written before all =
    let rest = drop (0 + length written) before in
    let long : length before ≤ 0 + length written = omega (arith, length-append written rest, length-drop (0 + length written) before, all) in
    rw (drop_of_length-le before long) (append-nil written)
