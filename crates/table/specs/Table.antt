-- Document 01, "Commands": the table by final byte. How many arguments a command may have, and what an argument of 0
-- stands for.
use Rattle.std.specs.Prelude.{ℕ, eqb, get_or, List}
use Prim.Native.Char.{code}
use Rattle.words.specs.Choice.{If◌then◌else◌, ◌or◌, ◌is◌to◌}

pub record Allowed : Type 0 where
  pub most : ℕ
  pub zero_is : ℕ

abbrev pub takes : ℕ → ℕ → Allowed
takes most zero_is = record { most = most; zero_is = zero_is }

-- 0 stands for a command that isn't listed: a sequence has one argument at least, and a listed one may have one.
unfoldable pub allowed : ℕ → Allowed
allowed final =
    If final is code "A" to code "D" then takes 1 1  -- CUU, CUD, CUF, CUB
    else If final is code "E" to code "F" then takes 1 1  -- CNL, CPL
    else If eqb final (code "G") then takes 1 1  -- CHA
    else If eqb final (code "d") then takes 1 1  -- VPA
    else If eqb final (code "H") then takes 2 1  -- CUP
    else If eqb final (code "f") then takes 2 1  -- HVP
    else If eqb final (code "I") or eqb final (code "Z") then takes 1 1  -- CHT, CBT
    else If eqb final (code "W") then takes 1 0  -- CTC
    else If eqb final (code "J") or eqb final (code "K") then takes 1 0  -- ED, EL
    else If eqb final (code "m") then takes 8 0  -- SGR
    else If eqb final (code "h") or eqb final (code "l") then takes 8 0  -- SM, RM
    else If eqb final (code "n") then takes 1 0  -- DSR
    else If eqb final (code "o") then takes 1 0  -- DAQ (M-103)
    else takes 0 0

-- The value of argument i, counted from 0.
unfoldable pub value_of : ℕ → List ℕ → ℕ → ℕ
value_of final arguments i =
    If eqb (get_or arguments i 0) 0 then (allowed final).zero_is
    else get_or arguments i 0
