-- Reading byte by byte prints the transcript.
use mathlib.Core.Path.{◌≡◌, refl, sym, ap, ◌∙◌}
use mathlib.Core.List.{List, [], ◌∷◌, ◌++◌, append_assoc, append-nil}
use Prim.Native.Nat.{ℕ, suc}
use native.Mathlib.Omega.{arith}
use borrow.Author.Tests.{ne_eqb}
use lib.Dec.{eqb}
use lib.ListN.{length}
use Rattle.words.specs.Choice.{If◌then◌else◌}
use Rattle.words.proofs.Choosing.{either_way}
use Rattle.frames.specs.Sessions.{Session, line_done}
use Rattle.frames.specs.Transcript.{with_first, lines_of, lines_done, transcript_of, SoFar, none_so_far, line_ended, after_byte, after_bytes, input_ended}

-- The lines of an input of which these bytes of the first were read before.
with_front : List ℕ → List (List ℕ) → List (List ℕ)
with_front [] lines = lines
with_front (byte ∷ line) lines = with_first byte (with_front line lines)

front_whole : (line : List ℕ) (later : List (List ℕ)) → with_front line ([] ∷ later) ≡ line ∷ later
unfolding with_front with_first
front_whole [] later = refl
front_whole (byte ∷ line) later = ap (with_first byte) (front_whole line later)

front_more : (line : List ℕ) (byte : ℕ) (lines : List (List ℕ)) → with_front (line ++ (byte ∷ [])) lines ≡ with_front line (with_first byte lines)
unfolding with_front
front_more [] byte lines = refl
front_more (first ∷ line) byte lines = ap (with_first first) (front_more line byte lines)

front_last : (byte : ℕ) (line : List ℕ) → with_front (byte ∷ line) [] ≡ (byte ∷ line) ∷ []
unfolding with_front with_first
front_last byte [] = refl
front_last byte (next ∷ line) = ap (with_first byte) (front_last next line)

at_end : (line : List ℕ) (s : Session) (text : List ℕ) → (input_ended (record { line = line; session = s; text = text })).text ≡ text ++ lines_done (with_front line []) s
unfolding input_ended line_ended lines_done with_front If◌then◌else◌
at_end [] s text = sym (append-nil text)
at_end (byte ∷ line) s text =
    let some = ne_eqb (suc (length line)) 0 (λ none. omega arith) in
    rw some (ap (λ (l : List ℕ). text ++ l) (sym (append-nil (line_done (byte ∷ line) s).text) ∙ ap (λ (lines : List (List ℕ)). lines_done lines s) (sym (front_last byte line))))

read_on : (later : List ℕ) (read : SoFar) → (input_ended (after_bytes later read)).text ≡ read.text ++ lines_done (with_front read.line (lines_of later)) read.session
unfolding after_bytes after_byte line_ended with_front lines_of lines_done If◌then◌else◌
read_on [] read = at_end read.line read.session read.text
read_on (byte ∷ later) read =
    either_way (eqb byte 0x0A)
    (λ end.
    let done = line_done read.line read.session in
    rw end
    (read_on later (line_ended read)
    ∙ append_assoc read.text done.text (lines_done (lines_of later) done.after)
    ∙ ap (λ (lines : List (List ℕ)). read.text ++ lines_done lines read.session) (sym (front_whole read.line (lines_of later)))))
    (λ other.
    rw other
    (read_on later (record { line = read.line ++ (byte ∷ []); session = read.session; text = read.text })
    ∙ ap (λ (lines : List (List ℕ)). read.text ++ lines_done lines read.session) (front_more read.line byte (lines_of later))))

pub read_bytewise : (input : List ℕ) → transcript_of input ≡ (input_ended (after_bytes input none_so_far)).text
unfolding transcript_of with_front
read_bytewise input = sym (read_on input none_so_far)
