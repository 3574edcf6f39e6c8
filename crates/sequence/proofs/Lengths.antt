-- `advance` keeps eight arguments, whatever the half-read record. The proofs follow the lines of the definitions.
use mathlib.Core.Path.{◌≡◌, refl, ◌∙◌}
use Prim.Native.Nat.{ℕ, ◌*◌, ◌+◌, ◌-◌}
use lib.ListN.{length, length-set}
use Rattle.words.proofs.Choosing.{either_line}
use Rattle.sequence.specs.declared.HalfRead.{HalfRead}
use Rattle.sequence.specs.declared.Advanced.{Advanced}
use Rattle.sequence.specs.Record.{argument_read, last_argument, with_digit, with_next_argument}
use Rattle.sequence.specs.Reading.{outside_sequence, after_esc, after_intermediate, after_bracket, right_after_bracket, after_private_mark, sequence_read_on, inside_sequence, advance_of}

abbrev Eight : HalfRead → Type 0
Eight half = length half.arguments ≡ 8

abbrev LeavesEight : Advanced → Type 0
LeavesEight advanced = Eight advanced.half

outside_keeps : (byte : ℕ) → LeavesEight (outside_sequence byte)
unfolding outside_sequence
outside_keeps byte =
    either_line LeavesEight _ _ _ (λ _. refl)
    (λ _. either_line LeavesEight _ _ _ (λ _. refl)
    (λ _. either_line LeavesEight _ _ _ (λ _. refl)
    (λ _. either_line LeavesEight _ _ _ (λ _. refl) (λ _. refl))))

module _ (half : HalfRead) (eight : length half.arguments ≡ 8) where
  digit_keeps : (digit : ℕ) → Eight (with_digit half digit)
  unfolding with_digit
  digit_keeps digit =
      either_line Eight _ _ _ (λ _. eight)
      (λ _. either_line Eight _ _ _ (λ _. refl)
      (λ _. length-set half.arguments (half.count - 1) (last_argument half * 10 + digit) ∙ eight))

  next_keeps : Eight (with_next_argument half)
  unfolding with_next_argument
  next_keeps = either_line Eight _ _ _ (λ _. eight) (λ _. either_line Eight _ _ _ (λ _. refl) (λ _. eight))

  bracket_keeps : (byte : ℕ) → LeavesEight (after_bracket half byte)
  unfolding after_bracket
  bracket_keeps byte =
      either_line LeavesEight _ _ _ (λ _. digit_keeps (byte - 0x30))
      (λ _. either_line LeavesEight _ _ _ (λ _. next_keeps)
      (λ _. either_line LeavesEight _ _ _ (λ _. refl)
      (λ _. either_line LeavesEight _ _ _ (λ _. refl) (λ _. refl))))

  private_keeps : (byte : ℕ) → LeavesEight (after_private_mark half byte)
  unfolding after_private_mark
  private_keeps byte =
      either_line LeavesEight _ _ _ (λ _. digit_keeps (byte - 0x30))
      (λ _. either_line LeavesEight _ _ _ (λ _. refl) (λ _. refl))

right_keeps : (byte : ℕ) → LeavesEight (right_after_bracket byte)
unfolding right_after_bracket
right_keeps byte = either_line LeavesEight _ _ _ (λ _. refl) (λ _. bracket_keeps argument_read refl byte)

module _ (half : HalfRead) (eight : length half.arguments ≡ 8) where
  inside_keeps : (byte : ℕ) → LeavesEight (inside_sequence half byte)
  unfolding inside_sequence sequence_read_on after_esc after_intermediate
  inside_keeps byte =
      either_line LeavesEight _ _ _ (λ _. refl)
      (λ _. either_line LeavesEight _ _ _ (λ _. refl)
      (λ _. either_line LeavesEight _ _ _
      (λ _. either_line LeavesEight _ _ _ (λ _. either_line LeavesEight _ _ _ (λ _. refl) (λ _. either_line LeavesEight _ _ _ (λ _. refl) (λ _. refl)))
      (λ _. either_line LeavesEight _ _ _ (λ _. either_line LeavesEight _ _ _ (λ _. refl) (λ _. refl))
      (λ _. either_line LeavesEight _ _ _ (λ _. right_keeps byte)
      (λ _. either_line LeavesEight _ _ _ (λ _. private_keeps half eight byte) (λ _. bracket_keeps half eight byte)))))
      (λ _. either_line LeavesEight _ _ _ (λ _. refl) (λ _. refl))))

pub advance_keeps_eight : (half : HalfRead) (byte : ℕ) → length half.arguments ≡ 8 → length (advance_of half byte).half.arguments ≡ 8
unfolding advance_of
advance_keeps_eight half byte eight = either_line LeavesEight _ _ _ (λ _. outside_keeps byte) (λ _. inside_keeps half eight byte)
