-- An ordered list of tests decides as the table's lines do, where each test holds exactly when its line does.
use mathlib.Core.Path.{◌≡◌, refl, sym, ap, ◌∙◌, subst}
use mathlib.Core.Bool.{Bool, true, false}
use mathlib.Core.List.{List, [], ◌∷◌}
use mathlib.Core.Logic.{◌↔◌}
use Prim.Native.Nat.{ℕ}
use Rattle.words.proofs.Choosing.{not_both, then_case, else_case}
use Rattle.terminal.specs.Answers.{number_of}
use Rattle.terminal.specs.Tests.{LineTest, first_of}
use Rattle.terminal.specs.Lines.{TableLine, Decides, none_holds, this_holds, not_this}

pub data Matches : List LineTest → List TableLine → Type 1 where
  ends : Matches [] []
  next : {lines : List LineTest} {rows : List TableLine} (line : LineTest) (row : TableLine) → (line.holds ≡ true) ↔ row.Holds → number_of line.answer ≡ row.number → Matches lines rows → Matches (line ∷ lines) (row ∷ rows)

renumbered : {rows : List TableLine} {m n : ℕ} → m ≡ n → Decides rows m → Decides rows n
renumbered {rows} e decides = subst (Decides rows) e decides

pub first_decides_row : {lines : List LineTest} {rows : List TableLine} → Matches lines rows → Decides rows (number_of (first_of lines))
unfolding first_of number_of
first_decides_row ends = none_holds
first_decides_row (next {lines} {rows} line row test number later) = go line.holds refl (first_decides_row later)
  where
    go : (b : Bool) → line.holds ≡ b → Decides rows (number_of (first_of lines)) → Decides (row ∷ rows) (number_of (first_of (line ∷ lines)))
    go true holds rest = renumbered (sym number ∙ sym (ap number_of (then_case _ _ _ holds))) (this_holds row rows (test.0 holds))
    go false fails rest = renumbered (sym (ap number_of (else_case _ _ _ fails))) (not_this row rows _ (λ holds. not_both (test.1 holds) fails) rest)

-- No two numbers are decided.
pub decides_one : {rows : List TableLine} {m n : ℕ} → Decides rows m → Decides rows n → m ≡ n
decides_one none_holds none_holds = refl
decides_one (this_holds row later a) (this_holds _ _ b) = refl
decides_one (this_holds row later a) (not_this _ _ n b rest) = absurd (b a)
decides_one (not_this row later m a rest) (this_holds _ _ b) = absurd (a b)
decides_one (not_this row later m a rest) (not_this _ _ n b other) = decides_one rest other
