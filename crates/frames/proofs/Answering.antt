-- What the code leaves of a host or key call that was answered is what the definition's call leaves.
use mathlib.Core.Path.{◌≡◌, refl, sym, ap, ◌∙◌, subst}
use mathlib.Core.Bool.{Bool, true, false}
use Rattle.std.specs.Bool.{then_some}
use Rattle.std.specs.Prelude.{Option, Some, None, IfSome}
use Rattle.words.specs.Choice.{If◌then◌else◌}
use mathlib.Core.List.{List, ◌++◌}
use Prim.Native.Nat.{ℕ, ◌+◌, ◌-◌, ◌≤◌, min}
use native.Mathlib.Omega.{arith}
use lib.ListN.{length, take, drop, length-take, length-drop}
use Rattle.words.specs.Output.{placed, Wrote}
use Rattle.page.specs.Page.{page_of}
use Rattle.steps.specs.Steps.{Terminal}
use Rattle.terminal.specs.declared.Reply.{Reply}
use Rattle.terminal.specs.Answers.{Outcome, given, bytes_sent}
use Rattle.terminal.specs.Calls.{host_call, key_call}
use Rattle.frames.specs.declared.Kind.{Kind}
use Rattle.frames.specs.declared.Kind.TheVariants.{Start, Host, Key}
use Rattle.frames.specs.declared.Held.{Held}
use Rattle.frames.specs.declared.Printed.{Printed}
use Rattle.frames.specs.Frames.{host, key}
use Rattle.frames.specs.Printing.{printed}
use Rattle.frames.specs.Sessions.{Session, no_session, session, FrameCall, output, started, hosted, keyed, uncalled, call_of}
use Rattle.frames.specs.Held.{frame_at, kept, characters_of, marks_of, session_in, Lent, lent, Enough, CallDone}
use Rattle.frames.proofs.Calling.{Alike, printed_same, output_long, host_within}
use Rattle.frames.proofs.Lending.{placed_front, take_least, held_again}

-- Which call a frame makes.
pub did_as : {call other : FrameCall} {from : ℕ} {before after : Lent} {r : Printed} → call ≡ other → CallDone other from before r after → CallDone call from before r after
did_as {from = from} {before} {after} {r} is did = subst (λ (c : FrameCall). CallDone c from before r after) (sym is) did

module _ {s : Session} (none : s ≡ no_session) where
  pub host_uncalled : (bytes : List ℕ) → call_of (host bytes) s ≡ uncalled s
  unfolding call_of
  host_uncalled bytes = rw none

  pub key_uncalled : (number : ℕ) → call_of (key number) s ≡ uncalled s
  unfolding call_of
  key_uncalled number = rw none

module _ {s : Session} {t : Terminal} (is : s ≡ session t) where
  pub host_called : (bytes : List ℕ) → call_of (host bytes) s ≡ hosted (host_call t bytes output)
  unfolding call_of
  host_called bytes = rw is

  pub key_called : (number : ℕ) → call_of (key number) s ≡ keyed (key_call t number output)
  unfolding call_of
  key_called number = rw is

-- No session is held, and none is found.
pub none_in : {held : Option Held} (characters marks : List ℕ) → held ≡ None → session_in held characters marks ≡ no_session
unfolding session_in
none_in characters marks none = rw none

-- The terminal of a session that goes on.
abbrev pub terminal_in : Held → ℕ → Lent → Terminal
terminal_in held cells before = record { state = held.state; page = page_of (take cells before.characters) (take cells before.marks) }

pub goes_on : {some : Option Held} (held : Held) (cells : ℕ) (before : Lent) → Enough before → some ≡ Some held → cells ≡ min held.cells 7680 → session_in some before.characters before.marks ≡ session (terminal_in held cells before)
unfolding session_in
goes_on held cells before enough going is =
    let characters = take_least held.cells 7680 before.characters enough.characters in
    let marks = take_least held.cells 7680 before.marks enough.marks in
    ap (λ (some : Option Held). session_in some before.characters before.marks) going
    ∙ (λ i. session (record { state = held.state; page = page_of (sym characters i) (sym marks i) }))
    ∙ (λ i. session (terminal_in held (sym is i) before))

-- Whether to carry on and where, as the code tells it.
pub told_on : {more told : Bool} {on at : ℕ} → told ≡ more → at ≡ on → then_some told at ≡ (If more then Some on else None)
unfolding If◌then◌else◌
told_on {more} {on = on} same-test same-place = (λ i. then_some (same-test i) (same-place i)) ∙ as_if more on
  where
    as_if : (more : Bool) (on : ℕ) → then_some more on ≡ (If more then Some on else None)
    as_if true on = refl
    as_if false on = refl

-- The session after a call, with its line, the bytes it sent and those it took.
abbrev pub called_with : Outcome → ℕ → Bool → FrameCall
called_with one taken more = record { after = session one.terminal; text = printed one; bytes_sent = bytes_sent one; taken = taken; more = more }

module _ (one : Outcome) (reply : Reply) (characters marks out text : List ℕ) (cells from end : ℕ) (before : Lent)
    (alike : Alike one (given reply (page_of characters marks) out) before.out)
    (as_many : length characters ≡ cells) (marks-too : length marks ≡ cells)
    (wrote : Wrote 0 (printed (given reply (page_of characters marks) out)) before.text end text) where
  pub answered : (taken on : ℕ) (more : Bool) (rest : Option ℕ) → on ≡ from + taken → rest ≡ (If more then Some (from + taken) else None) → CallDone (called_with one taken more) from before (record { held = Some (record { cells = cells; state = reply.state }); end = end; from = on; rest = rest }) (lent (characters ++ drop cells before.characters) (marks ++ drop cells before.marks) out text)
  unfolding kept characters_of marks_of
  answered taken on more rest is-on carries-on =
      let cells_are = sym as_many ∙ ap (λ (t : Terminal). length t.page.characters) alike.terminal in
      let held : Some (record { cells = cells; state = reply.state }) ≡ kept (session one.terminal) = λ i. Some (record { cells = cells_are i; state = (alike.terminal i).state }) in
      let all-characters = placed_front characters before.characters cells as_many ∙ (λ i. placed 0 (alike.terminal i).page.characters before.characters) in
      let all-marks = placed_front marks before.marks cells marks-too ∙ (λ i. placed 0 (alike.terminal i).page.marks before.marks) in
      record {
        held = held;
        characters = all-characters;
        marks = all-marks;
        out = alike.output;
        text = subst (λ (bytes : List ℕ). Wrote 0 bytes before.text end text) (printed_same (given reply (page_of characters marks) out) one alike.number (ap (λ (t : Terminal). t.state) alike.terminal) alike.stored alike.sends) wrote;
        from_on = is-on;
        rest = carries-on;
        going =
            (λ i. session_in (held i) (all-characters i) (all-marks i))
            ∙ held_again one.terminal before.characters before.marks (sym (ap (λ (t : Terminal). length t.page.marks) alike.terminal) ∙ marks-too ∙ cells_are);
      }

-- A call never leads past the line.
inside : (kind : Option Kind) (line : List ℕ) (from : ℕ) (s : Session) → length line ≡ 512 → from ≤ 512 → from + (call_of (frame_at kind line from) s).taken ≤ 512
unfolding call_of frame_at started hosted keyed uncalled
inside (Some (Start rows columns)) line from s long here = omega arith
inside (Some (Host to)) line from no_session long here = omega arith
inside (Some (Host to)) line from (session t) long here =
    let bytes : List ℕ = drop from (take to line) in
    let within = host_within t output output_long bytes in
    let short : length bytes ≤ 512 - from = simp (length-drop, length-take) (omega arith) in
    omega (arith, within.taken)
inside (Some (Key number)) line from no_session long here = omega arith
inside (Some (Key number)) line from (session t) long here = omega arith
inside None line from s long here = omega arith

rest_inside : {on : ℕ} (more : Bool) {rest : Option ℕ} → on ≤ 512 → rest ≡ (If more then Some on else None) → IfSome rest (λ rest. rest ≤ 512)
unfolding If◌then◌else◌
rest_inside true fits is = rw is fits
rest_inside false fits is = rw is tt

-- The call of a kind of frame that was told.
pub called : {kind is : Option Kind} (line : List ℕ) (from : ℕ) (s : Session) {before after : Lent} {r : Printed} → length line ≡ 512 → from ≤ 512 → kind ≡ is → CallDone (call_of (frame_at is line from) s) from before r after → CallDone (call_of (frame_at kind line from) s) from before r after × (r.from ≤ 512) × IfSome r.rest (λ rest. rest ≤ 512)
called {is = is} line from s {r = r} long here told did =
    let fits = inside is line from s long here in
    (did_as (ap (λ (kind : Option Kind). call_of (frame_at kind line from) s) told) did, omega (arith, did.from_on, fits), rest_inside _ fits did.rest)
