-- The two passes over the copy: what is laid is counted, then written.
use mathlib.Core.Path.{◌≡◌, refl, sym, ap, ◌∙◌, subst}
use mathlib.Core.List.{List, [], ◌∷◌, ◌++◌, append_assoc}
use Prim.Native.Nat.{ℕ, ◌+◌, ◌<◌, ◌≤◌}
use native.Mathlib.Nat.{zero-add}
use native.Mathlib.Omega.{arith}
use borrow.Author.Tests.{lt-ltb, le-ltb, le-leb, lt-leb}
use lib.Dec.{ltb, leb}
use lib.ListN.{length, length-append}
use Rattle.words.specs.Output.{Wrote}
use Rattle.words.proofs.Choosing.{less_or_not}
use Rattle.words.proofs.Output.{wrote_none, wrote_then}
use Rattle.blocks.specs.Lay.{lay}

-- What is laid, counted down: at the end 03 needs one byte.
pub all_counted : (all room left end : ℕ) → end ≡ 1 → all + left ≡ room + end → ltb 0 left ≡ leb all room
all_counted all room left end one counted =
    less_or_not 0 left
    (λ some. lt-ltb 0 left some ∙ sym (le-leb all room (omega arith)))
    (λ none. le-ltb 0 left none ∙ sym (lt-leb all room (omega arith)))

-- What is written so far, with what is laid for the rest of the copy, is all that is laid.
pub record Writing (block copy before : List ℕ) (next : ℕ) (rest now : List ℕ) : Type 0 where
  pub bytes : List ℕ
  pub wrote : Wrote 0 bytes before next now
  pub whole : bytes ++ lay block rest ≡ lay block copy

pub writing_starts : (block copy before : List ℕ) → Writing block copy before 0 copy before
writing_starts block copy before = record { bytes = []; wrote = wrote_none 0 before; whole = refl }

module _ {block copy before : List ℕ} {next : ℕ} {here now : List ℕ} (writing : Writing block copy before next here now) where
  lengths : length writing.bytes + length (lay block here) ≡ length (lay block copy)
  lengths = sym (length-append writing.bytes _) ∙ ap (length {A = ℕ}) writing.whole

  -- The next part fits, and then there is more written;
  module _ (bytes rest : List ℕ) (laid : lay block here ≡ bytes ++ lay block rest) where
    pub part_fits : length (lay block copy) ≤ length before → length now ≡ length before → next + length bytes ≤ length now
    part_fits fits same = omega (arith, lengths, ap (length {A = ℕ}) laid ∙ length-append bytes _, writing.wrote.next_is)

    pub part_written : {end : ℕ} {after : List ℕ} → Wrote next bytes now end after → Writing block copy before end rest after
    part_written wrote =
        record {
          bytes = writing.bytes ++ bytes;
          wrote = wrote_then (omega arith) writing.wrote wrote;
          whole = append_assoc writing.bytes bytes _ ∙ ap (λ (list : List ℕ). writing.bytes ++ list) (sym laid) ∙ writing.whole;
        }

  -- at the end 03 does, and then all is.
  module _ (end_laid : lay block here ≡ 0x03 ∷ []) where
    all_but_end : writing.bytes ++ (0x03 ∷ []) ≡ lay block copy
    all_but_end = ap (λ (list : List ℕ). writing.bytes ++ list) (sym end_laid) ∙ writing.whole

    pub end_fits : length (lay block copy) ≤ length before → length now ≡ length before → next < length now
    end_fits fits same = omega (arith, sym (length-append writing.bytes (0x03 ∷ [])) ∙ ap (length {A = ℕ}) all_but_end, writing.wrote.next_is)

    pub all_written : {end : ℕ} {after : List ℕ} → Wrote next (0x03 ∷ []) now end after → Wrote 0 (lay block copy) before end after
    all_written {end} {after} wrote = subst (λ (bytes : List ℕ). Wrote 0 bytes before end after) all_but_end (wrote_then (omega arith) writing.wrote wrote)

-- What is written from the start on ends as far in as it is long.
pub from_start : {bytes before after : List ℕ} {end : ℕ} → Wrote 0 bytes before end after → end ≡ length bytes
from_start {bytes} wrote = wrote.next_is ∙ zero-add (length bytes)
