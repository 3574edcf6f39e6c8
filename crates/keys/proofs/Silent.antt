-- Which keys send nothing: all but 266, which alone is ever held back.
use mathlib.Core.Path.{◌≡◌, refl, sym, ap, ◌∙◌}
use mathlib.Core.Bool.{true, false}
use mathlib.Core.List.{List}
use Prim.Native.Nat.{ℕ, ◌≤◌}
use native.Mathlib.Omega.{arith}
use borrow.Author.Tests.{eqb-true, ne_eqb}
use Rattle.words.specs.Choice.{If◌then◌else◌, ◌and◌, ◌is◌to◌}
use Rattle.words.proofs.Choosing.{then_case, else_case, either_line, first_fails, range_holds}
use Rattle.page.specs.Page.{Page}
use Rattle.steps.specs.declared.Step.{Step}
use Rattle.steps.specs.Steps.{Terminal, bytes_of}
use Rattle.steps.specs.Told.{Told, told, tells, written}
use Rattle.sending.specs.Sending.{sends_full, send_block}
use Rattle.keys.specs.Keys.{is_typing, is_not_taken, is_held_back, typed_step, to_next_field, to_previous_field, to_first_unprotected, field_blanked, rest_shifted, taken_step, key_step}
use Rattle.steps.proofs.Writing.{Silent, told_silent}

key_silent : (key : ℕ) (t : Terminal) → (key ≡ 266 → ⊥) → Silent (taken_step key t)
unfolding taken_step typed_step to_next_field to_previous_field to_first_unprotected field_blanked rest_shifted bytes_of
key_silent key t not-266 =
    either_line Silent _ _ _ (λ _. either_line Silent _ _ _ (λ _. refl) (λ _. refl))
    (λ _. either_line Silent _ _ _ (λ _. refl)
    (λ _. either_line Silent _ _ _ (λ _. refl)
    (λ _. either_line Silent _ _ _ (λ _. refl)
    (λ _. either_line Silent _ _ _ (λ _. refl)
    (λ _. either_line Silent _ _ _ (λ _. refl)
    (λ _. either_line Silent _ _ _ (λ _. refl)
    (λ _. either_line Silent _ _ _ (λ _. refl)
    (λ _. either_line Silent _ _ _ (λ _. either_line Silent _ _ _ (λ _. refl) (λ _. refl))
    (λ _. either_line Silent _ _ _ (λ _. either_line Silent _ _ _ (λ _. refl) (λ _. refl))
    (λ _. either_line Silent _ _ _ (λ _. either_line Silent _ _ _ (λ _. refl) (λ _. refl))
    (λ _. either_line Silent _ _ _ (λ asked. absurd (not-266 (eqb-true _ _ asked)))
    (λ _. either_line Silent _ _ _ (λ _. refl) (λ _. refl)))))))))))))

-- The numbers of the keys that type.
pub typing_range : (key : ℕ) → is_typing key ≡ true → (32 ≤ key) × (key ≤ 126)
unfolding is_typing
typing_range key = range_holds key 32 126

-- A key that lines 8 and 9 let pass; line 9 all but 266.
pub taken_step_lem : (key : ℕ) (t : Terminal) → is_not_taken key t ≡ false → is_held_back key t ≡ false → key_step key t ≡ taken_step key t
unfolding key_step
taken_step_lem key t taken free = else_case _ _ _ taken ∙ else_case _ _ _ free

pub not_held_back : (key : ℕ) (t : Terminal) → (key ≡ 266 → ⊥) → is_held_back key t ≡ false
unfolding is_held_back
not_held_back key t other = first_fails _ _ (ne_eqb key 266 other)

pub typing_not_held_back : (key : ℕ) (t : Terminal) → is_typing key ≡ true → is_held_back key t ≡ false
typing_not_held_back key t typing = let range = typing_range key typing in not_held_back key t (λ e. omega arith)

send_step : (t : Terminal) → taken_step 266 t ≡ send_block (sends_full t.state) t
unfolding taken_step is_typing ◌is◌to◌ ◌and◌ If◌then◌else◌
send_step t = refl

-- Where the code tells what such a key does, it tells what is written.
module _ (key : ℕ) (t : Terminal) (output : List ℕ) (taken : is_not_taken key t ≡ false) (free : is_held_back key t ≡ false) where
  pub key_told : {step : Step} {page : Page} → (key ≡ 266 → ⊥) → told step page ≡ tells (taken_step key t) → record { told = told step page; output = output } ≡ written 0 output t (key_step key t)
  key_told {step} {page} not-266 says =
      told_silent 0 output t (taken_step key t) step page says (key_silent key t not-266)
      ∙ ap (written 0 output t) (sym (taken_step_lem key t taken free))

  pub typing_told : {step : Step} {page : Page} → is_typing key ≡ true → told step page ≡ tells (typed_step key t) → record { told = told step page; output = output } ≡ written 0 output t (key_step key t)
  unfolding taken_step
  typing_told {step} {page} typing says =
      let range = typing_range key typing in
      key_told {step = step} {page = page} (λ e. omega arith) (says ∙ ap tells (sym (then_case _ _ _ typing)))

  pub sending_told : {said : Told} {left : List ℕ} → key ≡ 266 → record { told = said; output = left } ≡ written 0 output t (send_block (sends_full t.state) t) → record { told = said; output = left } ≡ written 0 output t (key_step key t)
  sending_told asked says = says ∙ ap (written 0 output t) (sym (taken_step_lem key t taken free ∙ ap (λ (k : ℕ). taken_step k t) asked ∙ send_step t))
