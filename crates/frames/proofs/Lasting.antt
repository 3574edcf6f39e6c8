-- 256 calls are enough for a frame: no transmission of a host byte exceeds the output, so a call given 3 takes a byte
-- at least.
use mathlib.Core.Path.{◌≡◌, sym, ap, ◌∙◌, subst}
use mathlib.Core.Bool.{true}
use mathlib.Core.List.{List, [], ◌∷◌, ◌++◌}
use Prim.Native.Nat.{ℕ, zero, suc, ◌+◌, ◌<◌, ◌≤◌}
use native.Mathlib.Omega.{arith}
use borrow.Author.Tests.{eqb-true, leb-true}
use lib.ListN.{length, length-drop}
use Rattle.words.proofs.Choosing.{true_is_not_false, then_case, else_case, either_line, either_way, both}
use Rattle.state.specs.Tests.{size_fits}
use Rattle.steps.specs.Steps.{Terminal, Stepped, bytes_of}
use Rattle.commands.specs.Host.{host_step}
use Rattle.commands.proofs.Lengths.{step_short}
use Rattle.terminal.specs.Runs.{steps_of, fitting}
use Rattle.terminal.specs.Answers.{Outcome, number_of, unchanged, after_steps}
use Rattle.terminal.specs.Tests.{exceeds_room}
use Rattle.terminal.specs.Calls.{host_call}
use Rattle.terminal.proofs.Deciding.{fits_on}
use Rattle.terminal.proofs.Exceeding.{line_3, line_3_done}
use Rattle.terminal.proofs.Cases.{HostCase, host_case}
use Rattle.terminal.proofs.Cases as Cases
use Rattle.numerals.specs.Hexadecimal.{bytes_in}
use Rattle.frames.specs.Frames.{Frame, start, host, key, no_frame, frame_in, frame_of, rest_of}
use Rattle.frames.specs.Sessions.{Session, no_session, session, output, started, hosted, keyed, uncalled, call_of, frame_done, line_done}
use Rattle.frames.proofs.Calling.{output_long, host_within}

-- A call given 3 takes a byte at least.
module _ (t : Terminal) (size : size_fits t.state.size t.page ≡ true) where
  takes_one : (bytes : List ℕ) → exceeds_room (length output) (steps_of t bytes) ≡ true → 0 < length (fitting (length output) (steps_of t bytes))
  unfolding exceeds_room steps_of fitting
  takes_one [] exceeds = absurd (true_is_not_false (sym exceeds))
  takes_one (byte ∷ later) exceeds =
      let fits : length (bytes_of (host_step byte t).transmission) ≤ length output = omega (arith, step_short byte t size, output_long) in
      omega (arith, ap (length {A = Stepped}) (fits_on (length output) (host_step byte t) (steps_of (host_step byte t).terminal later) fits))

pub three_takes : (t : Terminal) (bytes : List ℕ) → (host_call t bytes output).number ≡ 3 → 0 < (host_call t bytes output).taken
unfolding unchanged after_steps number_of
three_takes t bytes three = go (host_case t bytes output)
  where
    go : HostCase t bytes output → 0 < (host_call t bytes output).taken
    go (Cases.refused answer a b is) = absurd (b (sym (ap (λ (o : Outcome). o.number) is) ∙ three))
    go (Cases.stopped valid line is) =
        let exceeds = (line_3 (length output) (steps_of t bytes)).1 line in
        let some = takes_one t valid.size bytes exceeds in
        rw is (subst (λ (steps : List Stepped). 0 < length steps) (line_3_done (length output) (steps_of t bytes) line) some)
    go (Cases.done valid fits is) = absurd (omega (arith, sym (ap (λ (o : Outcome). o.number) is) ∙ three))

-- So what is left of a frame has fewer host bytes.
unfoldable host_bytes : Frame → ℕ
host_bytes (host bytes) = length bytes
host_bytes (start rows columns) = 0
host_bytes (key number) = 0
host_bytes no_frame = 0

fewer_left : (frame : Frame) (s : Session) → (call_of frame s).more ≡ true → host_bytes (rest_of frame (call_of frame s).taken) < host_bytes frame
unfolding host_bytes call_of rest_of started hosted keyed uncalled
fewer_left (start rows columns) s more = absurd (true_is_not_false (sym more))
fewer_left (host bytes) no_session more = absurd (true_is_not_false (sym more))
fewer_left (host bytes) (session t) more =
    let taken = three_takes t bytes (eqb-true (host_call t bytes output).number 3 more) in
    let within = host_within t output output_long bytes in
    omega (arith, length-drop (host_call t bytes output).taken bytes, within.taken)
fewer_left (key number) no_session more = absurd (true_is_not_false (sym more))
fewer_left (key number) (session t) more = absurd (true_is_not_false (sym more))
fewer_left no_frame s more = absurd (true_is_not_false (sym more))

lasts : (m n : ℕ) (frame : Frame) (s : Session) → host_bytes frame ≤ m → host_bytes frame ≤ n → frame_done (suc m) frame s ≡ frame_done (suc n) frame s
unfolding frame_done
lasts zero n frame s enough too =
    either_way (call_of frame s).more
    (λ more. absurd (omega (arith, fewer_left frame s more)))
    (λ last. else_case _ _ _ last ∙ sym (else_case _ _ _ last))
lasts (suc m) zero frame s enough too =
    either_way (call_of frame s).more
    (λ more. absurd (omega (arith, fewer_left frame s more)))
    (λ last. else_case _ _ _ last ∙ sym (else_case _ _ _ last))
lasts (suc m) (suc n) frame s enough too =
    either_way (call_of frame s).more
    (λ more.
    let fewer = fewer_left frame s more in
    let later = lasts m n (rest_of frame (call_of frame s).taken) (call_of frame s).after (omega arith) (omega arith) in
    then_case _ _ _ more
    ∙ (λ i. record { after = (later i).after; text = (call_of frame s).text ++ (later i).text })
    ∙ sym (then_case _ _ _ more))
    (λ last. else_case _ _ _ last ∙ sym (else_case _ _ _ last))

few_bytes : (bytes : List ℕ) → host_bytes (frame_in bytes) ≤ 255
unfolding frame_in host_bytes
few_bytes [] = omega arith
few_bytes (first ∷ rest) =
    either_line Few _ _ _ (λ _. omega arith)
    (λ _. either_line Few _ _ _ (λ test. leb-true (length rest) 255 (both test).1)
    (λ _. either_line Few _ _ _ (λ _. omega arith) (λ _. omega arith)))
  where
    Few : Frame → Type 0
    Few frame = host_bytes frame ≤ 255

pub calls_enough : (line : List ℕ) (s : Session) (more : ℕ) → frame_done (256 + more) (frame_of line) s ≡ line_done line s
unfolding line_done frame_of
calls_enough line s more =
    let few = few_bytes (bytes_in line) in
    let next : 256 + more ≡ suc (255 + more) = omega arith in
    rw next (lasts (255 + more) 255 (frame_in (bytes_in line)) s (omega arith) few)
