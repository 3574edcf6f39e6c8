-- Laws of reading byte by byte: what the code holds after each byte is what has then been read.
use mathlib.Core.Path.{◌≡◌, refl, ◌∙◌}
use Rattle.std.specs.Prelude.{Option, None}
use mathlib.Core.List.{List, [], ◌∷◌, ◌++◌}
use Prim.Native.Nat.{ℕ, ◌+◌, ◌<◌}
use native.Mathlib.Numerals.{add-one}
use borrow.Author.Tests.{ne_eqb}
use lib.ListN.{length, take, get_or, set}
use lib.Seq.{take-suc}
use Rattle.words.specs.Choice.{If◌then◌else◌}
use Rattle.frames.specs.declared.Held.{Held}
use Rattle.frames.specs.Sessions.{frame_done, line_done}
use Rattle.frames.specs.Transcript.{SoFar, none_so_far, line_ended, after_byte, after_bytes}
use Rattle.frames.specs.Held.{longer, line_in, session_in, Holds}
use Rattle.frames.proofs.Lines.{none_collected, more_collected, frame_found}
use Rattle.frames.proofs.Answering.{none_in}
use Rattle.frames.proofs.Running.{after_same}

-- Bytes read one part after another.
pub read_in_parts : (first second : List ℕ) (read : SoFar) → after_bytes (first ++ second) read ≡ after_bytes second (after_bytes first read)
unfolding after_bytes
read_in_parts [] second read = refl
read_in_parts (byte ∷ first) second read = read_in_parts first second (after_byte byte read)

pub next_byte : (bytes : List ℕ) (i : ℕ) (read : SoFar) → i < length bytes → after_bytes (take (i + 1) bytes) read ≡ after_byte (get_or bytes i 0) (after_bytes (take i bytes) read)
unfolding after_bytes
next_byte bytes i read inside = rw (add-one, take-suc bytes i 0 inside) (read_in_parts (take i bytes) (get_or bytes i 0 ∷ []) read)

pub nothing_held : (line characters marks : List ℕ) → length line ≡ 512 → Holds none_so_far None 0 line characters marks
nothing_held line characters marks room = record { collected = none_collected line room; going = none_in characters marks refl }

module _ {read : SoFar} {held : Option Held} {digits : ℕ} {line characters marks : List ℕ} (holds : Holds read held digits line characters marks) where
  pub byte_held : (byte : ℕ) → (byte ≡ 0x0A → ⊥) → Holds (after_byte byte read) held (longer digits) (set line digits byte) characters marks
  unfolding after_byte If◌then◌else◌
  byte_held byte other = rw (ne_eqb byte 0x0A other) (record { collected = more_collected byte holds.collected; going = holds.going })

  same_line : line_done (line_in line digits) (session_in held characters marks) ≡ line_done read.line read.session
  unfolding line_done
  same_line = λ i. frame_done 256 (frame_found holds.collected i) (holds.going i)

  pub line_held : {byte : ℕ} {left : Option Held} {buffer characters' marks' : List ℕ} → byte ≡ 0x0A → length buffer ≡ 512 → session_in left characters' marks' ≡ (line_done (line_in line digits) (session_in held characters marks)).after → Holds (after_byte byte read) left 0 buffer characters' marks'
  unfolding after_byte line_ended If◌then◌else◌
  line_held {byte} {left} {buffer} end room done = rw end (record { collected = none_collected buffer room; going = done ∙ after_same same_line })
