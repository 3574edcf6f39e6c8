-- Tests and choices: the words in which the definitions' tables are written.
use Rattle.std.specs.Prelude.{Bool, true, false, ℕ, leb}

-- A table: the first line whose test holds decides.
infixr 10 If◌then◌else◌
unfoldable pub If◌then◌else◌ : {A : Type 0} → Bool → A → A → A
If◌then◌else◌ true a b = a
If◌then◌else◌ false a b = b

-- Both tests hold; at least one of them does. (These stay shut in goals, where the library's `&&` and `||` would open.)
infixr 16 ◌and◌
unfoldable pub ◌and◌ : Bool → Bool → Bool
◌and◌ true b = b
◌and◌ false b = false

infixr 15 ◌or◌
unfoldable pub ◌or◌ : Bool → Bool → Bool
◌or◌ true b = true
◌or◌ false b = b

-- `byte is 0x20 to 0x7E`: both ends belong to the range.
infix 20 ◌is◌to◌
unfoldable pub ◌is◌to◌ : ℕ → ℕ → ℕ → Bool
n is low to high = leb low n and leb n high
