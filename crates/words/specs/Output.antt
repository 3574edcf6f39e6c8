-- What is written into a lent output.
use Rattle.std.specs.Prelude.{List, ◌++◌, ◌≡◌, ℕ, ◌+◌, length, take, drop}

-- The list with bytes written over it from a place on.
unfoldable pub placed : ℕ → List ℕ → List ℕ → List ℕ
placed at bytes list = take at list ++ (bytes ++ drop (at + length bytes) list)

-- Bytes were written into `before` at a place: `next` is the place after them, and nothing else changed.
pub record Wrote (at : ℕ) (bytes before : List ℕ) (next : ℕ) (after : List ℕ) : Type 0 where
  pub next_is : next ≡ at + length bytes
  pub left : after ≡ placed at bytes before
