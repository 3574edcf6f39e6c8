use mathlib.Core.Path.{◌≡◌}
use mathlib.Core.List.{List, ◌++◌}
use Prim.Native.Nat.{ℕ, ◌*◌}
use lib.ListN.{take, drop}
use Rattle.words.specs.Output.{Wrote}
use Rattle.numerals.specs.Hexadecimal.{pairs_of}
use Rattle.numerals.proofs.decode.Given as goal

-- what is written so far, with the bytes of the digits from 2 * i on, are all bytes
abbrev pub invariant-loop-i : goal.invariant-loop-i
invariant-loop-i l =
    (written : List ℕ) ×
    Wrote 0 written l.initial.text l.i l.text ×
    (written ++ pairs_of (drop (2 * l.i) (take l.digits l.initial.text)) ≡ pairs_of (take l.digits l.initial.text))
