-- What a frame does to the session, call by call.
use Rattle.std.specs.Prelude.{Bool, false, List, [], ◌++◌, ℕ, zero, suc, ◌*◌, eqb, replicate}
use Rattle.words.specs.Choice.{If◌then◌else◌}
use Rattle.page.specs.Page.{Page, page_of}
use Rattle.steps.specs.Steps.{Terminal}
use Rattle.terminal.specs.Answers.{Outcome, bytes_sent}
use Rattle.terminal.specs.Calls.{start_call, host_call, key_call}
use Rattle.frames.specs.Frames.{Frame, start, host, key, no_frame, frame_of, rest_of}
use Rattle.frames.specs.Printing.{printed, refusal}

-- None before a good start; then a terminal, with its state and page.
pub data Session : Type 0 where
  no_session : Session
  session : Terminal → Session

-- What is lent to a call: R x C cells, and an output of 65,536 bytes. What they hold does not matter
-- (proofs/Calling.antt, Starting.antt).
abbrev pub lent_page : ℕ → ℕ → Page
lent_page rows columns = page_of (replicate (rows * columns) 0) (replicate (rows * columns) 0)

unfoldable pub output : List ℕ
output = replicate 65536 0

-- One call of a frame: the session after it, the line printed, the bytes sent, the host bytes taken, and whether to
-- carry on.
pub record FrameCall : Type 0 where
  pub after : Session
  pub text : List ℕ
  pub bytes_sent : List ℕ
  pub taken : ℕ
  pub more : Bool

-- A good start begins a session; a refused one ends the session before it.
unfoldable pub started : Outcome → FrameCall
started outcome =
    record {
      after = If eqb outcome.number 0 then session outcome.terminal else no_session;
      text = printed outcome;
      bytes_sent = [];
      taken = 0;
      more = false;
    }

-- On 3 the rest of a host frame is to be carried on with.
unfoldable pub hosted : Outcome → FrameCall
hosted outcome =
    record {
      after = session outcome.terminal;
      text = printed outcome;
      bytes_sent = bytes_sent outcome;
      taken = outcome.taken;
      more = eqb outcome.number 3;
    }

unfoldable pub keyed : Outcome → FrameCall
keyed outcome =
    record {
      after = session outcome.terminal;
      text = printed outcome;
      bytes_sent = bytes_sent outcome;
      taken = 0;
      more = false;
    }

unfoldable pub uncalled : Session → FrameCall
uncalled before = record { after = before; text = refusal; bytes_sent = []; taken = 0; more = false }

unfoldable pub call_of : Frame → Session → FrameCall
call_of (start rows columns) before =
    started (start_call (record { rows = rows; columns = columns }) (lent_page rows columns))
call_of (host bytes) (session t) = hosted (host_call t bytes output)
call_of (host bytes) no_session = uncalled no_session
call_of (key number) (session t) = keyed (key_call t number output)
call_of (key number) no_session = uncalled no_session
call_of no_frame before = uncalled before

-- What a line leaves and prints.
pub record Done : Type 0 where
  pub after : Session
  pub text : List ℕ

-- A frame in so many calls: each carries on with what the one before left, until there is no more.
unfoldable pub frame_done : ℕ → Frame → Session → Done
frame_done zero frame before = record { after = before; text = [] }
frame_done (suc calls) frame before =
    let call = call_of frame before in
    let rest = frame_done calls (rest_of frame call.taken) call.after in
    If call.more then record { after = rest.after; text = call.text ++ rest.text }
    else record { after = call.after; text = call.text }

-- A frame has at most 255 host bytes, and a call given 3 takes one at least, so 256 calls are enough
-- (proofs/Lasting.antt).
unfoldable pub line_done : List ℕ → Session → Done
line_done line before = frame_done 256 (frame_of line) before
