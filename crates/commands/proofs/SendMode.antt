-- Document 02, M-106: erasure mode and what 266 sends after a stream, computed on streams worked out by hand, each
-- from a fresh page of 24 by 80.
use mathlib.Core.Path.{◌≡◌, refl}
use mathlib.Core.List.{List, [], ◌∷◌, ◌++◌, map}
use mathlib.Core.Bool.{Bool, true, false}
use Prim.Native.Nat.{ℕ}
use Rattle.commands.proofs.Computing.{host_steps}
use Rattle.commands.proofs.Streams.{esc, run, fresh, streams}

record Example : Type 0 where
  stream : List ℕ
  message : ℕ
  erasure : Bool
  full : Bool

gives : List ℕ → ℕ → Bool → Bool → Example
gives stream message erasure full = record { stream = stream; message = message; erasure = erasure; full = full }

-- The same example, as the definitions have it.
as_run : Example → Example
as_run e =
    let s = (run fresh e.stream).terminal.state in
    gives e.stream s.locks.message s.modes.erasure s.modes.full

examples : List Example
examples =
    -- fresh; reset and set; by value
    gives [] 0 false false
    ∷ gives (esc "[>6l") 0 false true
    ∷ gives (esc "[>6l" ++ esc "[>6h") 0 false false
    ∷ gives (esc "[>06l") 0 false true
    ∷ gives (esc "[>6l" ++ esc "[>0006h") 0 false false
    -- mode 6 without > is erasure, and neither touches the other
    ∷ gives (esc "[6h" ++ esc "[>6l") 0 true true
    ∷ gives (esc "[6h" ++ esc "[>6l" ++ esc "[6l") 0 false true
    ∷ gives (esc "[>6l" ++ esc "[6h" ++ esc "[>6h") 0 true false
    -- another form with > leaves it, and so do a manual lock, pen commands, a send and ESC b
    ∷ gives (esc "[>6l" ++ esc "[>6;h") 3 false true
    ∷ gives (esc "[>6l" ++ esc "[0>6h") 3 false true
    ∷ gives (esc "`" ++ esc "[>6l" ++ esc "V" ++ esc "[0m" ++ esc "S" ++ esc "b") 0 false true
    -- ESC c makes it fresh
    ∷ gives (esc "[6h" ++ esc "[>6l" ++ esc "c") 0 false false
    ∷ []

as_worked_out : map as_run examples ≡ examples
unfolding host_steps streams gives as_run examples
as_worked_out = refl
