-- The whole: from the bytes of standard input to those of standard output.
use Rattle.std.specs.Prelude.{List, [], ◌∷◌, ◌++◌, ℕ, eqb, length}
use Rattle.words.specs.Choice.{If◌then◌else◌}
use Rattle.frames.specs.Sessions.{Session, no_session, line_done}

-- A byte before the first of these lines; where there is none yet, it begins one that lacks its 0A.
unfoldable pub with_first : ℕ → List (List ℕ) → List (List ℕ)
with_first byte [] = (byte ∷ []) ∷ []
with_first byte (line ∷ later) = (byte ∷ line) ∷ later

-- The lines, each without its 0A. A last line that lacks it counts.
unfoldable pub lines_of : List ℕ → List (List ℕ)
lines_of [] = []
lines_of (byte ∷ later) =
    let lines = lines_of later in
    If eqb byte 0x0A then [] ∷ lines
    else with_first byte lines

unfoldable pub lines_done : List (List ℕ) → Session → List ℕ
lines_done [] before = []
lines_done (line ∷ later) before = let done = line_done line before in done.text ++ lines_done later done.after

unfoldable pub transcript_of : List ℕ → List ℕ
transcript_of input = lines_done (lines_of input) no_session

-- The same byte by byte (`read_bytewise`, proofs/Theorems.antt): the line so far, the session, and the text printed.
pub record SoFar : Type 0 where
  pub line : List ℕ
  pub session : Session
  pub text : List ℕ

abbrev pub none_so_far : SoFar
none_so_far = record { line = []; session = no_session; text = [] }

unfoldable pub line_ended : SoFar → SoFar
line_ended before =
    let done = line_done before.line before.session in
    record { line = []; session = done.after; text = before.text ++ done.text }

-- 0A ends the line, and its calls are done; another byte is added to it.
unfoldable pub after_byte : ℕ → SoFar → SoFar
after_byte byte before =
    If eqb byte 0x0A then line_ended before
    else record { line = before.line ++ (byte ∷ []); session = before.session; text = before.text }

unfoldable pub after_bytes : List ℕ → SoFar → SoFar
after_bytes [] before = before
after_bytes (byte ∷ later) before = after_bytes later (after_byte byte before)

-- At the end of the input a last line that lacks its 0A counts.
unfoldable pub input_ended : SoFar → SoFar
input_ended before =
    If eqb (length before.line) 0 then before
    else line_ended before
