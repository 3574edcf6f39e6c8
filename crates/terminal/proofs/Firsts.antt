-- Of a list of tests, whatever it is, the first that holds decides.
use mathlib.Core.Path.{◌≡◌, refl}
use mathlib.Core.Bool.{Bool, true, false}
use mathlib.Core.List.{List, [], ◌∷◌, ◌++◌}
use Rattle.words.specs.Choice.{◌and◌}
use Rattle.words.proofs.Choosing.{then_case, else_case, either_way, both}
use Rattle.terminal.specs.declared.Answer.{Answer}
use Rattle.terminal.specs.declared.Answer.TheVariants.{Done}
use Rattle.terminal.specs.Answers.{changes_nothing}
use Rattle.terminal.specs.Tests.{LineTest, first_of}

-- Which line decides: those before it fail.
pub data First : List LineTest → Answer → Type 0 where
  none : First [] Done
  this : {line : LineTest} {later : List LineTest} → line.holds ≡ true → First (line ∷ later) line.answer
  past : {line : LineTest} {later : List LineTest} {answer : Answer} → line.holds ≡ false → First later answer → First (line ∷ later) answer

pub decided : {lines : List LineTest} {answer : Answer} → First lines answer → first_of lines ≡ answer
unfolding first_of
decided none = refl
decided (this holds) = then_case _ _ _ holds
decided (past {line} {later} fails first) = rw (else_case line.holds line.answer (first_of later) fails) (decided first)

-- None of some lines holds: what is after them decides.
pub data AllFail : List LineTest → Type 0 where
  no_line : AllFail []
  fails : {line : LineTest} {later : List LineTest} → line.holds ≡ false → AllFail later → AllFail (line ∷ later)

pub through : {before later : List LineTest} {answer : Answer} → AllFail before → First later answer → First (before ++ later) answer
through no_line first = first
through (fails this-fails others-fail) first = past this-fails (through others-fail first)

-- A call's lines: some that change nothing, and a last one. One of the former decides, or the last, or none holds.
unfoldable pub all_change_nothing : List LineTest → Bool
all_change_nothing [] = true
all_change_nothing (line ∷ later) = changes_nothing line.answer and all_change_nothing later

pub data Tested (before : List LineTest) (last : LineTest) : Type 0 where
  one_holds : (answer : Answer) → changes_nothing answer ≡ true → First (before ++ (last ∷ [])) answer → Tested before last
  last_holds : AllFail before → last.holds ≡ true → Tested before last
  none_holds : AllFail before → last.holds ≡ false → Tested before last

pub tested : (before : List LineTest) (last : LineTest) → all_change_nothing before ≡ true → Tested before last
unfolding all_change_nothing
tested [] last all = either_way last.holds (λ holds. last_holds no_line holds) (λ not_so. none_holds no_line not_so)
tested (line ∷ later) last all =
    either_way line.holds
    (λ holds. one_holds line.answer (both all).0 (this holds))
    (λ this-fails. go this-fails (tested later last (both all).1))
  where
    go : line.holds ≡ false → Tested later last → Tested (line ∷ later) last
    go this-fails (one_holds answer nothing first) = one_holds answer nothing (past this-fails first)
    go this-fails (last_holds others-fail holds) = last_holds (fails this-fails others-fail) holds
    go this-fails (none_holds others-fail not_so) = none_holds (fails this-fails others-fail) not_so
