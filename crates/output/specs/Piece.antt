-- What is written of an item, whichever it is: its bytes, as many each time.
use Rattle.std.specs.Prelude.{List, ◌≡◌, ℕ, length}

pub record Piece (T : Type 0) : Type 0 where
  pub bytes : T → List ℕ
  pub width : ℕ
  pub long : (item : T) → length (bytes item) ≡ width
