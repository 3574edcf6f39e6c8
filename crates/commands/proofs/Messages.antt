-- Document 02, M-102: the message and the byte that a stream leaves, computed on streams worked out by hand, each from
-- a fresh page of 24 by 80.
use mathlib.Core.Path.{◌≡◌, refl}
use mathlib.Core.List.{List, [], ◌∷◌, ◌++◌, map}
use Prim.Native.Nat.{ℕ}
use Prim.Native.Char.{code}
use Rattle.words.specs.Text.{bytes}
use Rattle.commands.proofs.Computing.{host_steps}
use Rattle.commands.proofs.Streams.{esc, run, fresh, streams}

record Example : Type 0 where
  stream : List ℕ
  message : ℕ
  byte : ℕ

gives : List ℕ → ℕ → ℕ → Example
gives stream message byte = record { stream = stream; message = message; byte = byte }

-- The same example, as the definitions have it.
as_run : Example → Example
as_run e = let locks = (run fresh e.stream).terminal.state.locks in gives e.stream locks.message locks.byte

examples : List Example
examples =
    -- after an intermediate; spoilt by ?, whatever the final byte is; the same final byte without it
    gives (esc "(B") 1 (code "B")
    ∷ gives (esc "[?5Q") 3 (code "Q")
    ∷ gives (esc "[5Q") 1 (code "Q")
    -- too many arguments; a value not allowed among others that are
    ∷ gives (esc "[1;1;1H") 2 (code "H")
    ∷ gives (esc "[1;99m") 2 (code "m")
    -- broken off by a NUL, which leaves 0 beside the message; 9B in a spoilt sequence; unknown after ESC
    ∷ gives (esc "[1" ++ (0x00 ∷ [])) 3 0x00
    ∷ gives (esc "[?" ++ (0x9B ∷ [])) 4 0x9B
    ∷ gives (esc "y") 1 (code "y")
    -- unknown, and with nine arguments spoilt; unknown with two is unknown; a control byte and 7F inside
    ∷ gives (esc "[;;;;;;;;Q") 3 (code "Q")
    ∷ gives (esc "[1;1Q") 1 (code "Q")
    ∷ gives (esc "[1" ++ (0x0A ∷ [])) 3 0x0A
    ∷ gives (esc "(" ++ (0x7F ∷ [])) 3 0x7F
    -- 80 outside a sequence, and 7F, which is ignored there
    ∷ gives (0x80 ∷ []) 4 0x80
    ∷ gives (0x7F ∷ []) 0 0
    -- a later refusal in place of one before; what is done after one leaves it; ESC ` too
    ∷ gives (esc "y" ++ esc "[3J") 2 (code "J")
    ∷ gives (esc "[3J" ++ (0x80 ∷ []) ++ bytes "A" ++ esc "[2J") 4 0x80
    ∷ gives (esc "y" ++ esc "`") 1 (code "y")
    -- M-106: each form with > but >6 h and >6 l, and > after an argument
    ∷ gives (esc "[>5h") 3 (code "h")
    ∷ gives (esc "[>h") 3 (code "h")
    ∷ gives (esc "[>6;h") 3 (code "h")
    ∷ gives (esc "[0>6h") 3 (code "h")
    ∷ gives (esc "[6>h") 3 (code "h")
    ∷ gives (esc "[>>6h") 3 (code "h")
    ∷ gives (esc "[>6m") 3 (code "m")
    ∷ gives (esc "[>10006h") 3 (code "h")
    ∷ gives (esc "[>06h" ++ esc "[>6l") 0 0
    -- ESC b and ESC c clear both
    ∷ gives (esc "y" ++ esc "b") 0 0
    ∷ gives (esc "y" ++ esc "c") 0 0
    ∷ []

as_worked_out : map as_run examples ≡ examples
unfolding host_steps streams gives as_run examples
as_worked_out = refl
