-- Document 01, "Reading host bytes", first paragraph, and document 02, M-106: the half-read record.
use Rattle.std.specs.Prelude.{Bool, true, false, List, [], ◌∷◌, ℕ, ◌+◌, ◌-◌, ◌*◌, get_or, set, replicate, ltb, leb, eqb}
use Rattle.words.specs.Choice.{If◌then◌else◌, ◌and◌, ◌is◌to◌}
use Rattle.sequence.specs.declared.HalfRead.{HalfRead}

-- The kinds: 0 none, 1 after ESC, 2 after ESC and an intermediate. These three keep nothing else. After ESC [ the kind
-- tells 4 that nothing came yet, 5 that > came right away, and 3 all else.
abbrev pub bare : ℕ → HalfRead
bare kind = record { kind = kind; arguments = replicate 8 0; count = 0; spoilt = false }

abbrev pub nothing_read : HalfRead
nothing_read = bare 0

abbrev pub esc_read : HalfRead
esc_read = bare 1

abbrev pub intermediate_read : HalfRead
intermediate_read = bare 2

-- After ESC [ one argument is reached, and an omitted argument is 0.
abbrev pub one_argument : ℕ → HalfRead
one_argument kind = record { kind = kind; arguments = replicate 8 0; count = 1; spoilt = false }

abbrev pub argument_read : HalfRead
argument_read = one_argument 3

abbrev pub bracket_read : HalfRead
bracket_read = one_argument 4

abbrev pub private_mark_read : HalfRead
private_mark_read = one_argument 5

-- Spoiling leaves one argument of 0.
abbrev pub spoilt_read : HalfRead
spoilt_read = record { kind = 3; arguments = replicate 8 0; count = 1; spoilt = true }

-- An argument reached is at most 9,999, and one not reached is 0; the first is numbered 0.
unfoldable pub largest_argument : ℕ → ℕ → ℕ
largest_argument i reached =
    If ltb i reached then 9999
    else 0

-- All arguments from number i on fit, where so many are reached.
unfoldable pub arguments_fit : ℕ → ℕ → List ℕ → Bool
arguments_fit reached i [] = true
arguments_fit reached i (argument ∷ rest) =
    leb argument (largest_argument i reached) and arguments_fit reached (i + 1) rest

-- A record in range: what number 2 of "Numbers a call gives back" asks of it.
unfoldable pub valid_half_read : HalfRead → Bool
valid_half_read half =
    If half.spoilt then eqb half.kind 3 and eqb half.count 1 and arguments_fit 0 0 half.arguments
    else If eqb half.kind 3 then half.count is 1 to 8 and arguments_fit half.count 0 half.arguments
    else If eqb half.kind 4 then eqb half.count 1 and arguments_fit 0 0 half.arguments
    else If eqb half.kind 5 then eqb half.count 1 and arguments_fit half.count 0 half.arguments
    else leb half.kind 2 and eqb half.count 0 and arguments_fit 0 0 half.arguments

-- The argument being read, and the record with another value for it.
abbrev pub last_argument : HalfRead → ℕ
last_argument half = get_or half.arguments (half.count - 1) 0

abbrev pub with_last_argument : HalfRead → ℕ → HalfRead
with_last_argument half value =
    record {
      kind = half.kind;
      arguments = set half.arguments (half.count - 1) value;
      count = half.count;
      spoilt = half.spoilt;
    }

-- A digit is put at the argument's end; above 9,999 it spoils; nothing adds to a spoilt sequence.
unfoldable pub with_digit : HalfRead → ℕ → HalfRead
with_digit half digit =
    If half.spoilt then half
    else If ltb 9999 (last_argument half * 10 + digit) then spoilt_read
    else with_last_argument half (last_argument half * 10 + digit)

-- A semicolon starts the next argument; a ninth spoils.
unfoldable pub with_next_argument : HalfRead → HalfRead
with_next_argument half =
    If half.spoilt then half
    else If leb 8 half.count then spoilt_read
    else record { kind = half.kind; arguments = half.arguments; count = half.count + 1; spoilt = half.spoilt }
