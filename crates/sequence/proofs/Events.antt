-- What an event tells of the byte that gave it:
-- text is 20 to 7E, a command after ESC came after ESC, one after ESC [ > after that, a final byte is 40 to 7E; a
-- command's byte, and the byte at which one is refused, is that byte.
use mathlib.Core.Path.{◌≡◌, refl}
use mathlib.Core.Bool.{true}
use Prim.Native.Nat.{ℕ, ◌≤◌}
use borrow.Author.Tests.{eqb-true, ltb-false}
use Rattle.words.specs.Choice.{◌is◌to◌}
use Rattle.words.proofs.Choosing.{either_line, range_holds}
use Rattle.sequence.specs.declared.HalfRead.{HalfRead}
use Rattle.sequence.specs.declared.Event.{Event}
use Rattle.sequence.specs.declared.Event.TheVariants.{Nothing, Text, Control, EscCommand, BracketCommand, PrivateCommand, Refused}
use Rattle.sequence.specs.declared.Advanced.{Advanced}
use Rattle.sequence.specs.Reading.{outside_sequence, after_esc, after_intermediate, after_bracket, right_after_bracket, after_private_mark, sequence_read_on, inside_sequence, advance_of}

unfoldable pub Tells : HalfRead → ℕ → Event → Type 0
Tells half byte Nothing = Unit {0}
Tells half byte (Text character) = (character is 0x20 to 0x7E) ≡ true
Tells half byte (Control control) = Unit {0}
Tells half byte (EscCommand command) = (half.kind ≡ 1) × (byte ≡ command)
Tells half byte (BracketCommand final) = (0x40 ≤ final) × (final ≤ 0x7E) × (byte ≡ final)
Tells half byte (PrivateCommand final) = (half.kind ≡ 5) × (byte ≡ final)
Tells half byte (Refused reason at) = byte ≡ at

module _ (half : HalfRead) (byte : ℕ) where
  abbrev EventTells : Advanced → Type 0
  EventTells advanced = Tells half byte advanced.event

  outside-tells : EventTells (outside_sequence byte)
  unfolding outside_sequence Tells
  outside-tells =
      either_line EventTells _ _ _ (λ t. t)
      (λ _. either_line EventTells _ _ _ (λ _. tt)
      (λ _. either_line EventTells _ _ _ (λ _. tt)
      (λ _. either_line EventTells _ _ _ (λ _. refl) (λ _. tt))))

  after_esc_tells : half.kind ≡ 1 → EventTells (after_esc byte)
  unfolding after_esc Tells
  after_esc_tells esc =
      either_line EventTells _ _ _ (λ _. tt)
      (λ _. either_line EventTells _ _ _ (λ _. tt) (λ _. (esc, refl)))

  after_intermediate_tells : EventTells (after_intermediate byte)
  unfolding after_intermediate Tells
  after_intermediate_tells = either_line EventTells _ _ _ (λ _. tt) (λ _. refl)

  after_bracket_tells : byte ≤ 0x7E → EventTells (after_bracket half byte)
  unfolding after_bracket Tells
  after_bracket_tells high =
      either_line EventTells _ _ _ (λ _. tt)
      (λ _. either_line EventTells _ _ _ (λ _. tt)
      (λ _. either_line EventTells _ _ _ (λ _. tt)
      (λ low. either_line EventTells _ _ _ (λ _. refl) (λ _. (ltb-false _ _ low, high, refl)))))

  private_tells : half.kind ≡ 5 → EventTells (after_private_mark half byte)
  unfolding after_private_mark Tells
  private_tells private =
      either_line EventTells _ _ _ (λ _. tt)
      (λ _. either_line EventTells _ _ _ (λ _. tt) (λ _. (private, refl)))

  right_tells : byte ≤ 0x7E → EventTells (right_after_bracket byte)
  unfolding right_after_bracket after_bracket Tells
  right_tells high =
      either_line EventTells _ _ _ (λ _. tt)
      (λ _. either_line EventTells _ _ _ (λ _. tt)
      (λ _. either_line EventTells _ _ _ (λ _. tt)
      (λ _. either_line EventTells _ _ _ (λ _. tt)
      (λ low. either_line EventTells _ _ _ (λ _. refl) (λ _. (ltb-false _ _ low, high, refl))))))

  inside-tells : EventTells (inside_sequence half byte)
  unfolding inside_sequence sequence_read_on Tells
  inside-tells =
      either_line EventTells _ _ _ (λ _. tt)
      (λ _. either_line EventTells _ _ _ (λ _. tt)
      (λ _. either_line EventTells _ _ _
      (λ printable. either_line EventTells _ _ _ (λ e. after_esc_tells (eqb-true _ _ e))
      (λ _. either_line EventTells _ _ _ (λ _. after_intermediate_tells)
      (λ _. either_line EventTells _ _ _ (λ _. right_tells (range_holds _ _ _ printable).1)
      (λ _. either_line EventTells _ _ _ (λ k. private_tells (eqb-true _ _ k))
      (λ _. after_bracket_tells (range_holds _ _ _ printable).1)))))
      (λ _. either_line EventTells _ _ _ (λ _. refl) (λ _. refl))))

  pub event_tells : Tells half byte (advance_of half byte).event
  unfolding advance_of
  event_tells = either_line EventTells _ _ _ (λ _. outside-tells) (λ _. inside-tells)
