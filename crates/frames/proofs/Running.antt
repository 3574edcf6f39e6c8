-- A line, run: what each call leaves to those still to come is what the definition says.
use mathlib.Core.Path.{◌≡◌, refl, sym, ap, ◌∙◌}
use mathlib.Core.Bool.{Bool, true, false}
use Rattle.std.specs.Prelude.{Option, Some, None}
use Rattle.words.specs.Choice.{If◌then◌else◌}
use mathlib.Core.List.{List, [], ◌∷◌, ◌++◌}
use Prim.Native.Nat.{ℕ, suc, ◌+◌, ◌-◌, ◌<◌, ◌≤◌}
use native.Mathlib.Numerals.{add-one}
use native.Mathlib.Omega.{arith}
use lib.ListN.{take, drop}
use lib.Seq.{drop-drop}
use Rattle.words.specs.Output.{placed}
use Rattle.words.proofs.Choosing.{then_case, else_case, either_line}
use Rattle.words.proofs.Output.{placed_before}
use Rattle.numerals.specs.Hexadecimal.{bytes_in}
use Rattle.frames.specs.declared.Kind.{Kind}
use Rattle.frames.specs.declared.Kind.TheVariants.{Start, Host, Key}
use Rattle.frames.specs.declared.Printed.{Printed}
use Rattle.frames.specs.Frames.{Frame, host, frame_in, frame_of, rest_of}
use Rattle.frames.specs.Sessions.{Session, FrameCall, Done, call_of, frame_done, line_done}
use Rattle.frames.specs.Held.{kind_of, frame_at, session_in, Lent, CallDone}

-- The place to carry on from leaves the rest of the frame.
rest_at : (kind : Option Kind) (line : List ℕ) (from taken : ℕ) → rest_of (frame_at kind line from) taken ≡ frame_at kind line (from + taken)
unfolding frame_at rest_of
rest_at (Some (Start rows columns)) line from taken = refl
rest_at (Some (Host to)) line from taken = ap host (drop-drop taken from (take to line))
rest_at (Some (Key number)) line from taken = refl
rest_at None line from taken = refl

-- What the calls still to come leave and print, of the 256 that a line may make.
unfoldable pub to_come : Option Kind → List ℕ → ℕ → ℕ → Session → Done
to_come kind line calls from s = frame_done (256 - calls) (frame_at kind line from) s

pub after_same : {one other : Done} → one ≡ other → one.after ≡ other.after
after_same same = ap (λ (d : Done). d.after) same

-- Before the first call all are to come: the bytes that the line says stand in its place.
module _ (line buffer : List ℕ) where
  stands : (bytes : List ℕ) → frame_at (kind_of (frame_in bytes)) (placed 0 bytes buffer) 1 ≡ frame_in bytes
  unfolding frame_in kind_of frame_at
  stands [] = refl
  stands (first ∷ rest) =
      either_line Stands _ _ _ (λ _. refl)
      (λ _. either_line Stands _ _ _ (λ _. ap host (rw add-one (ap (drop 1) (placed_before (first ∷ rest) buffer))))
      (λ _. either_line Stands _ _ _ (λ _. refl) (λ _. refl)))
    where
      Stands : Frame → Type 0
      Stands frame = frame_at (kind_of frame) (placed 0 (first ∷ rest) buffer) 1 ≡ frame

  pub all_to_come : {kind : Option Kind} {said : List ℕ} → kind ≡ kind_of (frame_of line) → said ≡ placed 0 (bytes_in line) buffer → (s : Session) → to_come kind said 0 1 s ≡ line_done line s
  unfolding to_come line_done frame_of
  all_to_come is says s = (λ i. to_come (is i) (says i) 0 1 s) ∙ ap (λ (frame : Frame). frame_done 256 frame s) (stands (bytes_in line))

-- A place to carry on from tells that there is more, and none that there is not.
goes_on : (more : Bool) {from on : ℕ} → (If more then Some from else None) ≡ Some on → (more ≡ true) × (from ≡ on)
unfolding If◌then◌else◌
goes_on true is = (refl, cc)
goes_on false is = absurd cc

stops : (more : Bool) (from : ℕ) → (If more then Some from else None) ≡ None → more ≡ false
unfolding If◌then◌else◌
stops true from is = absurd cc
stops false from is = refl

-- One call, and then there is more or there is not.
module _ (kind : Option Kind) (line : List ℕ) (calls : ℕ) (s : Session) {from : ℕ} {before after : Lent} {r : Printed} (fewer : calls < 256) (did : CallDone (call_of (frame_at kind line from) s) from before r after) where
  abbrev call : FrameCall
  call = call_of (frame_at kind line from) s

  abbrev left : Session
  left = session_in r.held after.characters after.marks

  one_more : 256 - calls ≡ suc (256 - (calls + 1))
  one_more = omega arith

  pub carries_on : {on : ℕ} → r.rest ≡ Some on → let rest = to_come kind line (calls + 1) on left in to_come kind line calls from s ≡ record { after = rest.after; text = call.text ++ rest.text }
  unfolding to_come frame_done
  carries_on more =
      let told = goes_on _ (sym did.rest ∙ more) in
      let frame = rest_at kind line from call.taken ∙ ap (frame_at kind line) told.1 in
      rw one_more
      (then_case _ _ _ told.0
      ∙ (λ i. let rest = frame_done (256 - (calls + 1)) (frame i) (sym did.going i) in record { after = rest.after; text = call.text ++ rest.text }))

  pub ends : r.rest ≡ None → to_come kind line calls from s ≡ record { after = left; text = call.text }
  unfolding to_come frame_done
  ends last = rw one_more (else_case _ _ _ (stops _ _ (sym did.rest ∙ last)) ∙ (λ i. record { after = sym did.going i; text = call.text }))

pub none_to_come : (kind : Option Kind) (line : List ℕ) (calls from : ℕ) (s : Session) → 256 ≤ calls → to_come kind line calls from s ≡ record { after = s; text = [] }
unfolding to_come frame_done
none_to_come kind line calls from s all = let none : 256 - calls ≡ 0 = omega arith in rw none
