-- Words as bytes.
use Rattle.std.specs.Prelude.{List, [], ◌∷◌, ℕ}
use Prim.Native.Char.{code}
use Prim.Native.String as string
use Prim.Native.String.{String}

-- The codes of a word's characters.
abbrev pub bytes : String → List ℕ
bytes string.[] = []
bytes (string.◌∷◌ character word) = code character ∷ bytes word
