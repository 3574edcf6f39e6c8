-- What the commands make of a pen is a pen as it may be.
use mathlib.Core.Path.{◌≡◌, refl, sym, ◌∙◌}
use mathlib.Core.Bool.{true, false}
use mathlib.Core.List.{List, [], ◌∷◌}
use Prim.Native.Nat.{ℕ}
use borrow.Author.Tests.{not-true}
use lib.Dec.{eqb}
use Rattle.words.specs.Choice.{◌or◌}
use Rattle.words.proofs.Choosing.{either_line, both, second_decides}
use Rattle.page.specs.Marks.{is_protected}
use Rattle.state.specs.Pen.{valid_pen}
use Rattle.state.proofs.Keeping.{unprotected_keeps_pen, protected_keeps_pen, numeric_keeps_pen, alphabetic_keeps_pen, required_keeps_pen, plain_keeps_pen, bold_keeps_pen, underlined_keeps_pen, blinking_keeps_pen, reversed_keeps_pen, concealed_keeps_pen}
use Rattle.table.specs.Settings.{is_area, pen_of_area, pen_after, pen_after_all}

-- A value that is none of 0, 1, 3 and 4 is taken by a pen that is not protected.
open_pen : (pen value : ℕ) → is_area pen value ≡ true → eqb value 0 ≡ false → eqb value 1 ≡ false → eqb value 3 ≡ false → eqb value 4 ≡ false → is_protected pen ≡ false
unfolding is_area
open_pen pen value taken a b c d =
    not-true _ (both (sym (second_decides _ _ a ∙ second_decides _ _ b ∙ second_decides _ _ c ∙ second_decides _ _ d) ∙ taken)).1

-- The pen after DAQ.
pub area_keeps_pen : (value pen : ℕ) → is_area pen value ≡ true → valid_pen pen ≡ true → valid_pen (pen_of_area value pen) ≡ true
unfolding pen_of_area
area_keeps_pen value pen taken p =
    let ok : ℕ → Type 0 = λ n. valid_pen n ≡ true in
    either_line ok _ _ _ (λ _. unprotected_keeps_pen pen p)
    (λ a. either_line ok _ _ _ (λ _. protected_keeps_pen pen p)
    (λ b. either_line ok _ _ _ (λ _. numeric_keeps_pen pen p)
    (λ c. either_line ok _ _ _ (λ _. alphabetic_keeps_pen pen p)
    (λ d. required_keeps_pen pen p (open_pen pen value taken a b c d)))))

-- ESC V and ESC W: every pen takes 1 and 0.
pub one_is_area : (pen : ℕ) → is_area pen 1 ≡ true
unfolding is_area ◌or◌
one_is_area pen = refl

pub zero_is_area : (pen : ℕ) → is_area pen 0 ≡ true
unfolding is_area ◌or◌
zero_is_area pen = refl

-- The pen after SGR.
pen_after_keeps_pen : (value pen : ℕ) → valid_pen pen ≡ true → valid_pen (pen_after value pen) ≡ true
unfolding pen_after
pen_after_keeps_pen value pen p =
    let ok : ℕ → Type 0 = λ n. valid_pen n ≡ true in
    either_line ok _ _ _ (λ _. plain_keeps_pen pen p)
    (λ _. either_line ok _ _ _ (λ _. bold_keeps_pen pen p)
    (λ _. either_line ok _ _ _ (λ _. underlined_keeps_pen pen p)
    (λ _. either_line ok _ _ _ (λ _. blinking_keeps_pen pen p)
    (λ _. either_line ok _ _ _ (λ _. reversed_keeps_pen pen p) (λ _. concealed_keeps_pen pen p)))))

pub pen_after_all_keeps_pen : (values : List ℕ) (pen : ℕ) → valid_pen pen ≡ true → valid_pen (pen_after_all values pen) ≡ true
unfolding pen_after_all
pen_after_all_keeps_pen [] pen p = p
pen_after_all_keeps_pen (value ∷ later) pen p = pen_after_all_keeps_pen later (pen_after value pen) (pen_after_keeps_pen value pen p)
