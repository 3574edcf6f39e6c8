-- How the code holds a line, its frame and the session.
use Rattle.std.specs.Prelude.{◌≡◌, Option, Some, None, List, [], ℕ, ◌+◌, ◌≤◌, min, leb, ltb, length, take, drop}
use Rattle.words.specs.Choice.{If◌then◌else◌}
use Rattle.words.specs.Output.{placed, Wrote}
use Rattle.page.specs.Page.{page_of}
use Rattle.frames.specs.declared.Kind.{Kind}
use Rattle.frames.specs.declared.Kind.TheVariants.{Start, Host, Key}
use Rattle.frames.specs.declared.Held.{Held}
use Rattle.frames.specs.declared.Printed.{Printed}
use Rattle.frames.specs.Frames.{Frame, start, host, key, no_frame}
use Rattle.frames.specs.Sessions.{Session, no_session, session, FrameCall, call_of}
use Rattle.frames.specs.Transcript.{SoFar}

-- The room for a line is 512 bytes. Of a longer line only that it is longer is kept (the length 513), and it is read as
-- an empty one: neither is a frame.
unfoldable pub longer : ℕ → ℕ
longer length =
    If ltb length 512 then length + 1
    else 513

unfoldable pub line_in : List ℕ → ℕ → List ℕ
line_in buffer length =
    If leb length 512 then take length buffer
    else []

-- What the code has of a line of which all bytes so far were collected.
pub record Collected (line buffer : List ℕ) (digits : ℕ) : Type 0 where
  pub room : length buffer ≡ 512
  pub counted : digits ≡ min (length line) 513
  pub stands : length line ≤ 512 → take digits buffer ≡ line

-- A frame's kind, and back. Host bytes stand in the line from place 1 to before `to`; those before `from` were taken.
unfoldable pub kind_of : Frame → Option Kind
kind_of (start rows columns) = Some (Start rows columns)
kind_of (host bytes) = Some (Host (length bytes + 1))
kind_of (key number) = Some (Key number)
kind_of no_frame = None

unfoldable pub frame_at : Option Kind → List ℕ → ℕ → Frame
frame_at (Some (Start rows columns)) line from = start rows columns
frame_at (Some (Host to)) line from = host (drop from (take to line))
frame_at (Some (Key number)) line from = key number
frame_at None line from = no_frame

-- A session's state and number of cells, and its page, which stands first in the two lent slices.
unfoldable pub kept : Session → Option Held
kept no_session = None
kept (session t) = Some (record { cells = length t.page.characters; state = t.state })

unfoldable pub characters_of : Session → List ℕ
characters_of no_session = []
characters_of (session t) = t.page.characters

unfoldable pub marks_of : Session → List ℕ
marks_of no_session = []
marks_of (session t) = t.page.marks

unfoldable pub session_in : Option Held → List ℕ → List ℕ → Session
session_in None characters marks = no_session
session_in (Some held) characters marks =
    session (record { state = held.state; page = page_of (take held.cells characters) (take held.cells marks) })

-- The code holds what has been read: the line so far and the session.
pub record Holds (read : SoFar) (held : Option Held) (digits : ℕ) (line characters marks : List ℕ) : Type 0 where
  pub collected : Collected read.line line digits
  pub going : session_in held characters marks ≡ read.session

-- What is lent to a call: two slices for the page, the output, and the room for the line printed.
pub record Lent : Type 0 where
  pub characters : List ℕ
  pub marks : List ℕ
  pub out : List ℕ
  pub text : List ℕ

abbrev pub lent : List ℕ → List ℕ → List ℕ → List ℕ → Lent
lent characters marks out text = record { characters = characters; marks = marks; out = out; text = text }

-- Room for the largest page, 48 x 160, an output of 65,536 bytes, and its line: 7 bytes before those sent, two digits
-- each, and 0A.
pub record Enough (before : Lent) : Type 0 where
  pub characters : length before.characters ≡ 7680
  pub marks : length before.marks ≡ 7680
  pub out : length before.out ≡ 65536
  pub text : 131087 ≤ length before.text

-- The code did this call.
pub record CallDone (call : FrameCall) (from : ℕ) (before : Lent) (r : Printed) (after : Lent) : Type 0 where
  pub held : r.held ≡ kept call.after
  pub characters : after.characters ≡ placed 0 (characters_of call.after) before.characters
  pub marks : after.marks ≡ placed 0 (marks_of call.after) before.marks
  pub out : after.out ≡ placed 0 call.bytes_sent before.out
  pub text : Wrote 0 call.text before.text r.end after.text
  pub from_on : r.from ≡ from + call.taken
  pub rest : r.rest ≡ (If call.more then Some (from + call.taken) else None)
  pub going : session_in r.held after.characters after.marks ≡ call.after

-- The code made the call of a frame on the session that it held.
abbrev pub CallMade : Frame → Option Held → ℕ → Lent → Printed → Lent → Type 0
CallMade frame held from before r after =
    CallDone (call_of frame (session_in held before.characters before.marks)) from before r after
