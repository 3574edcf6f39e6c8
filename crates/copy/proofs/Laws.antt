-- Laying a block over a copy, entry by entry.
use mathlib.Core.Path.{◌≡◌, refl, sym, ap, ◌∙◌, subst}
use mathlib.Core.Bool.{true, false}
use mathlib.Core.List.{List, [], ◌∷◌, ◌++◌, append-nil}
use Prim.Native.Nat.{ℕ, ◌+◌, ◌<◌, ◌≤◌}
use native.Mathlib.Omega.{arith}
use lib.ListN.{length, take, drop, get_or, length-append}
use lib.Seq.{take_at, drop_at}
use Rattle.words.specs.Choice.{If◌then◌else◌}
use Rattle.words.specs.Lists.{every}
use Rattle.words.proofs.Choosing.{then_case, else_case, both}
use Rattle.output.specs.Decimal.{place_bytes}
use Rattle.blocks.specs.Blocks.{Entry, entry_bytes, encode}
use Rattle.blocks.specs.Decode.{decode, valid_entry}
use Rattle.blocks.specs.Lay.{same_place, laid_on, lay}
use Rattle.blocks.proofs.Decoding.{run_of, entry_is, plain_run, valid}
use Rattle.blocks.proofs.Theorems.{entries_read_back}
use Rattle.copy.specs.Copy.{IsBlock, plain_length, entry_end, same_head, FirstEntry}
use Rattle.copy.proofs.Finding.{plain_then, same_head_is}

-- What is written for valid entries is a block.
pub is_block : (entries : List Entry) → every valid_entry entries ≡ true → IsBlock (encode entries)
is_block entries all_valid =
    let back = entries_read_back entries all_valid in
    record { valid = ap (every valid_entry) back ∙ all_valid; same = ap encode back }

-- A block begins with an entry, or is 03 alone.
record Begins (bytes : List ℕ) : Type 0 where
  entry : Entry
  later : List Entry
  are : bytes ≡ encode (entry ∷ later)
  read : decode bytes ≡ entry ∷ later
  entry_valid : valid_entry entry ≡ true
  later_valid : every valid_entry later ≡ true

data Shape (bytes : List ℕ) : Type 0 where
  begins : Begins bytes → Shape bytes
  ends : bytes ≡ 0x03 ∷ [] → decode bytes ≡ [] → Shape bytes

shape : (bytes : List ℕ) → IsBlock bytes → Shape bytes
unfolding encode every
shape bytes block = go (decode bytes) refl
  where
    go : (entries : List Entry) → decode bytes ≡ entries → Shape bytes
    go [] read = ends (sym block.same ∙ ap encode read) read
    go (entry ∷ later) read =
        let all_valid = both (sym (ap (every valid_entry) read) ∙ block.valid) in
        begins (record { entry = entry; later = later; are = sym block.same ∙ ap encode read; read = read; entry_valid = all_valid.0; later_valid = all_valid.1 })

-- An ESC starts an entry, and no ESC is the end.
module _ (bytes : List ℕ) (block : IsBlock bytes) where
  pub some : 0 < length bytes
  unfolding encode entry_bytes place_bytes
  some = go (shape bytes block)
    where
      go : Shape bytes → 0 < length bytes
      go (begins first) = omega (arith, ap (length {A = ℕ}) first.are)
      go (ends is nothing) = omega (arith, ap (length {A = ℕ}) is)

  starts : get_or bytes 0 0 ≡ 0x1B → Begins bytes
  starts escape = go (shape bytes block)
    where
      go : Shape bytes → Begins bytes
      go (begins first) = first
      go (ends is nothing) = absurd (omega (arith, escape, ap (λ (list : List ℕ). get_or list 0 0) is))

  pub none_left : (get_or bytes 0 0 ≡ 0x1B → ⊥) → decode bytes ≡ []
  unfolding encode entry_bytes place_bytes
  none_left no-escape = go (shape bytes block)
    where
      go : Shape bytes → decode bytes ≡ []
      go (begins first) = absurd (no-escape (ap (λ (list : List ℕ). get_or list 0 0) first.are))
      go (ends is nothing) = nothing

-- After an entry comes an ESC or 03.
not_plain : (entries : List Entry) → plain_length (encode entries) ≡ 0
unfolding encode entry_bytes place_bytes plain_length If◌then◌else◌
not_plain [] = refl
not_plain (entry ∷ later) = refl

-- Where the first entry ends, and what comes after it.
pub record Ends (bytes : List ℕ) : Type 0 where
  pub past : 0 < entry_end bytes
  pub within : entry_end bytes ≤ length bytes
  pub first : FirstEntry bytes (take (entry_end bytes) bytes) (drop (entry_end bytes) bytes)
  pub rest_block : IsBlock (drop (entry_end bytes) bytes)

module _ (bytes : List ℕ) (first : Begins bytes) where
  end_is : entry_end bytes ≡ length (entry_bytes first.entry)
  unfolding entry_end encode
  end_is =
      let run = run_of first.entry in
      let after = encode first.later in
      let split = first.are ∙ ap (λ (list : List ℕ). list ++ after) (entry_is first.entry) in
      let plain-bytes = ap plain_length (ap (drop 1) split) ∙ plain_then run after (plain_run first.entry (valid first.entry first.entry_valid).characters) in
      let whole = ap (length {A = ℕ}) (entry_is first.entry) in
      omega (arith, plain-bytes, not_plain first.later, whole)

  entry_ends : Ends bytes
  unfolding encode
  entry_ends =
      let entry = entry_bytes first.entry in
      let after = encode first.later in
      let rest = ap (λ (k : ℕ). drop k bytes) end_is ∙ ap (drop (length entry)) first.are ∙ drop_at entry after (length entry) refl in
      let lengths = ap (length {A = ℕ}) first.are ∙ length-append entry after in
      let one = ap (length {A = ℕ}) (entry_is first.entry) in
      record {
        past = omega (arith, end_is, one);
        within = omega (arith, end_is, lengths);
        first = record {
          entry = first.entry;
          entry_valid = first.entry_valid;
          read = first.read ∙ ap (λ (later : List Entry). first.entry ∷ later) (sym (ap decode rest ∙ entries_read_back first.later first.later_valid));
          bytes = ap (λ (k : ℕ). take k bytes) end_is ∙ ap (take (length entry)) first.are ∙ take_at entry after (length entry) refl;
        };
        rest_block = subst IsBlock (sym rest) (is_block first.later first.later_valid);
      }

pub first_ends : (bytes : List ℕ) → IsBlock bytes → get_or bytes 0 0 ≡ 0x1B → Ends bytes
first_ends bytes block escape = entry_ends bytes (starts bytes block escape)

-- What is laid from an entry of the copy on, and at the copy's end.
module _ (block : List ℕ) where
  pub lay_next : {copy own rest laid : List ℕ} → FirstEntry copy own rest → ((entry : Entry) → valid_entry entry ≡ true → own ≡ entry_bytes entry → laid ≡ entry_bytes (laid_on (decode block) entry)) → lay block copy ≡ laid ++ lay block rest
  unfolding lay encode
  lay_next first is = rw (first.read, is first.entry first.entry_valid first.bytes)

  pub next_length : {copy own rest laid : List ℕ} → FirstEntry copy own rest → ((entry : Entry) → valid_entry entry ≡ true → own ≡ entry_bytes entry → laid ≡ entry_bytes (laid_on (decode block) entry)) → length (lay block copy) ≡ length laid + length (lay block rest)
  next_length first is = ap (length {A = ℕ}) (lay_next first is) ∙ length-append _ _

  pub lay_end : (copy : List ℕ) → decode copy ≡ [] → lay block copy ≡ 0x03 ∷ []
  unfolding lay encode
  lay_end copy none = rw none

-- The search in the block: its first entry is of the place of the copy's,
module _ {sent given rest own : List ℕ} (first : FirstEntry sent given rest) (entry : Entry) (entry_valid : valid_entry entry ≡ true) (is : own ≡ entry_bytes entry) where
  places : same_head given own ≡ same_place first.entry entry
  places =
      let one = first.bytes ∙ sym (append-nil _) in
      let other = is ∙ sym (append-nil _) in
      rw (one, other) (same_head_is first.entry entry [] [] first.entry_valid entry_valid)

  pub found_here : same_head given own ≡ true → given ≡ entry_bytes (laid_on (decode sent) entry)
  unfolding laid_on
  found_here same = first.bytes ∙ sym (ap entry_bytes (ap (λ (entries : List Entry). laid_on entries entry) first.read ∙ then_case _ _ _ (sym places ∙ same)))

  -- or is passed by.
  pub passed_by : same_head given own ≡ false → laid_on (decode sent) entry ≡ laid_on (decode rest) entry
  unfolding laid_on
  passed_by differ = ap (λ (entries : List Entry). laid_on entries entry) first.read ∙ else_case _ _ _ (sym places ∙ differ)

-- Where no entry is left, the copy's own stands.
pub found_nowhere : (sent : List ℕ) → decode sent ≡ [] → (entry : Entry) → laid_on (decode sent) entry ≡ entry
unfolding laid_on
found_nowhere sent none entry = ap (λ (entries : List Entry). laid_on entries entry) none
