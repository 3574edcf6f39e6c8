-- Laws of frames: the table of a line's bytes, line by line.
use mathlib.Core.Bool.{false}
use mathlib.Core.Path.{◌≡◌, refl, ap, ◌∙◌}
use mathlib.Core.List.{List, [], ◌∷◌}
use Prim.Native.Nat.{ℕ, ◌+◌, ◌*◌, ◌<◌, ◌≤◌}
use native.Mathlib.Omega.{arith}
use borrow.Author.Tests.{le-leb, lt-leb, ne_eqb}
use lib.Dec.{eqb}
use lib.ListN.{length, drop, get_or, length-drop}
use lib.Seq.{get_or-drop}
use Rattle.words.specs.Choice.{If◌then◌else◌, ◌and◌}
use Rattle.words.proofs.Choosing.{else_case, first_fails, second_fails}
use Rattle.words.proofs.Walking.{next_element}
use Rattle.std.specs.Prelude.{Some, None}
use Rattle.frames.specs.declared.Kind.TheVariants.{Start, Host, Key}
use Rattle.frames.specs.Held.{kind_of}
use Rattle.frames.specs.Frames.{start, host, key, no_frame, frame_in}

-- A line of neither start nor key length, and no host frame.
wrong_table : (first : ℕ) (rest : List ℕ) → eqb first 1 ≡ false → eqb (length rest) 2 ≡ false → frame_in (first ∷ rest) ≡ no_frame
unfolding frame_in
wrong_table first rest other wrong =
    else_case _ _ _ (second_fails _ _ wrong) ∙ else_case _ _ _ (first_fails _ _ other) ∙ else_case _ _ _ (second_fails _ _ wrong)

module _ (bytes : List ℕ) (some : 0 < length bytes) where
  rest_length : length (drop 1 bytes) + 1 ≡ length bytes
  rest_length = omega (arith, length-drop 1 bytes)

  frame_first : frame_in bytes ≡ frame_in (get_or bytes 0 0 ∷ drop 1 bytes)
  frame_first = ap frame_in (next_element bytes 0 0 some)

  module _ (first : get_or bytes 0 0 ≡ 1) where
    pub is_host : length bytes ≤ 256 → frame_in bytes ≡ host (drop 1 bytes)
    unfolding frame_in If◌then◌else◌ ◌and◌
    is_host short = frame_first ∙ rw (first, le-leb (length (drop 1 bytes)) 255 (omega (arith, rest_length)))

    pub host_too_long : 256 < length bytes → frame_in bytes ≡ no_frame
    unfolding frame_in If◌then◌else◌ ◌and◌
    host_too_long long = frame_first ∙ rw (first, lt-leb (length (drop 1 bytes)) 255 (omega (arith, rest_length)))

  pub wrong_length : (get_or bytes 0 0 ≡ 1 → ⊥) → (length bytes ≡ 3 → ⊥) → frame_in bytes ≡ no_frame
  unfolding frame_in
  wrong_length other wrong =
      let not-two : length (drop 1 bytes) ≡ 2 → ⊥ = λ two. wrong (omega (arith, rest_length)) in
      frame_first ∙ wrong_table (get_or bytes 0 0) (drop 1 bytes) (ne_eqb _ _ other) (ne_eqb _ _ not-two)

  module _ (three : length bytes ≡ 3) where
    two : length (drop 1 bytes) ≡ 2
    two = omega (arith, rest_length)

    pub is_start : get_or bytes 0 0 ≡ 0 → frame_in bytes ≡ start (get_or bytes 1 0) (get_or bytes 2 0)
    unfolding frame_in If◌then◌else◌ ◌and◌
    is_start first = frame_first ∙ rw (first, two, get_or-drop 1 bytes 0 0, get_or-drop 1 bytes 1 0)

    pub is_key : get_or bytes 0 0 ≡ 2 → frame_in bytes ≡ key (get_or bytes 1 0 * 256 + get_or bytes 2 0)
    unfolding frame_in If◌then◌else◌ ◌and◌
    is_key first = frame_first ∙ rw (first, two, get_or-drop 1 bytes 0 0, get_or-drop 1 bytes 1 0)

  pub wrong_first : (get_or bytes 0 0 ≡ 0 → ⊥) → (get_or bytes 0 0 ≡ 1 → ⊥) → (get_or bytes 0 0 ≡ 2 → ⊥) → frame_in bytes ≡ no_frame
  unfolding frame_in If◌then◌else◌ ◌and◌
  wrong_first no_start no-host no_key = frame_first ∙ rw (ne_eqb _ _ no_start, ne_eqb _ _ no-host, ne_eqb _ _ no_key)

pub no_bytes : (bytes : List ℕ) → length bytes ≡ 0 → frame_in bytes ≡ no_frame
unfolding frame_in
no_bytes [] none = refl
no_bytes (byte ∷ later) none = absurd (omega arith)

pub too_many_bytes : (bytes : List ℕ) → 256 < length bytes → frame_in bytes ≡ no_frame
unfolding frame_in
too_many_bytes [] many = absurd (omega arith)
too_many_bytes (first ∷ rest) many =
    let not-two = ne_eqb (length rest) 2 (λ two. omega (arith, many, two)) in
    let long = lt-leb (length rest) 255 (omega (arith, many)) in
    else_case _ _ _ (second_fails _ _ not-two) ∙ else_case _ _ _ (second_fails _ _ long) ∙ else_case _ _ _ (second_fails _ _ not-two)

-- The kind of a line's bytes, as the code finds it.
module _ (bytes : List ℕ) where
  pub kind_start : length bytes ≡ 3 → get_or bytes 0 0 ≡ 0 → kind_of (frame_in bytes) ≡ Some (Start (get_or bytes 1 0) (get_or bytes 2 0))
  unfolding kind_of
  kind_start three first = ap kind_of (is_start bytes (omega arith) three first)

  pub kind_key : length bytes ≡ 3 → get_or bytes 0 0 ≡ 2 → kind_of (frame_in bytes) ≡ Some (Key (get_or bytes 1 0 * 256 + get_or bytes 2 0))
  unfolding kind_of
  kind_key three first = ap kind_of (is_key bytes (omega arith) three first)

  pub kind_host : 0 < length bytes → length bytes ≤ 256 → get_or bytes 0 0 ≡ 1 → kind_of (frame_in bytes) ≡ Some (Host (length bytes))
  unfolding kind_of
  kind_host some few first =
      let count : length (drop 1 bytes) + 1 ≡ length bytes = omega (arith, length-drop 1 bytes) in
      ap kind_of (is_host bytes some first few) ∙ ap (λ (n : ℕ). Some (Host n)) count

  pub none_empty : length bytes ≡ 0 → kind_of (frame_in bytes) ≡ None
  unfolding kind_of
  none_empty none = ap kind_of (no_bytes bytes none)

  pub none_long : 256 < length bytes → kind_of (frame_in bytes) ≡ None
  unfolding kind_of
  none_long long = ap kind_of (too_many_bytes bytes long)

  pub none_of_length : 0 < length bytes → (get_or bytes 0 0 ≡ 1 → ⊥) → (length bytes ≡ 3 → ⊥) → kind_of (frame_in bytes) ≡ None
  unfolding kind_of
  none_of_length some other wrong = ap kind_of (wrong_length bytes some other wrong)

  pub none_of_first : 0 < length bytes → (get_or bytes 0 0 ≡ 0 → ⊥) → (get_or bytes 0 0 ≡ 1 → ⊥) → (get_or bytes 0 0 ≡ 2 → ⊥) → kind_of (frame_in bytes) ≡ None
  unfolding kind_of
  none_of_first some no_start no-host no_key = ap kind_of (wrong_first bytes some no_start no-host no_key)

pub ruleset kinds = (kind_start, kind_key, kind_host, none_empty, none_long, none_of_length, none_of_first)
