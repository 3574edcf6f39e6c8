-- Document 01, "Reading host bytes", first paragraph, and document 02, M-106: a half-read record that is out of range,
-- a constructor for each clause.
use Rattle.std.specs.Prelude.{◌≡◌, true, ℕ, ◌<◌, ◌≤◌, get_or}
use Rattle.sequence.specs.declared.HalfRead.{HalfRead}

-- Argument i of the record, the first numbered 0.
abbrev pub argument_of : HalfRead → ℕ → ℕ
argument_of half i = get_or half.arguments i 0

pub data HalfReadOutOfRange (half : HalfRead) : Type 0 where
  -- none, after ESC, after ESC and an intermediate: kinds 0 to 2; after ESC [: 3 to 5
  no_such_kind : 5 < half.kind → HalfReadOutOfRange half
  -- the first three kinds have no arguments: parts the kind doesn't use are 0
  count_unused : half.kind < 3 → (half.count ≡ 0 → ⊥) → HalfReadOutOfRange half
  argument_unused : half.kind < 3 → (i : ℕ) → (argument_of half i ≡ 0 → ⊥) → HalfReadOutOfRange half
  -- after ESC [ there are 1 to 8 arguments
  no_argument : 3 ≤ half.kind → half.count < 1 → HalfReadOutOfRange half
  more_than_eight : half.kind ≡ 3 → 8 < half.count → HalfReadOutOfRange half
  -- with nothing after it yet, or with > right after it, one; and nothing came yet of the former's
  more_than_one : 4 ≤ half.kind → 1 < half.count → HalfReadOutOfRange half
  argument_not_begun : half.kind ≡ 4 → (i : ℕ) → (argument_of half i ≡ 0 → ⊥) → HalfReadOutOfRange half
  -- of 0 to 9,999, and those not reached are 0
  argument_above_9999 : (i : ℕ) → 9999 < argument_of half i → HalfReadOutOfRange half
  argument_not_reached : (i : ℕ) → half.count ≤ i → (argument_of half i ≡ 0 → ⊥) → HalfReadOutOfRange half
  -- a spoilt record is after ESC [ and more, and has one argument, and that is 0
  spoilt_unused : (half.kind ≡ 3 → ⊥) → half.spoilt ≡ true → HalfReadOutOfRange half
  spoilt_not_one : half.spoilt ≡ true → (half.count ≡ 1 → ⊥) → HalfReadOutOfRange half
  spoilt_not_0 : half.spoilt ≡ true → (i : ℕ) → (argument_of half i ≡ 0 → ⊥) → HalfReadOutOfRange half
