-- Every key keeps the arrays' lengths, whatever the terminal. The proofs follow the definitions line by line.
use mathlib.Core.Bool.{Bool}
use mathlib.Core.List.{List}
use Prim.Native.Nat.{ℕ}
use Rattle.words.specs.Choice.{If◌then◌else◌}
use Rattle.words.proofs.Choosing.{either_line}
use Rattle.places.specs.declared.Place.{Place}
use Rattle.std.specs.Prelude.{Option, Some, None}
use Rattle.state.specs.State.{Arrays, unlocked}
use Rattle.state.specs.Moves.{up_by, down_by, right_by, left_by}
use Rattle.state.proofs.Arrays.{cursor_keeps_arrays, locks_keep_arrays}
use Rattle.steps.specs.Steps.{Terminal, Stepped}
use Rattle.sending.specs.Sending.{send_block}
use Rattle.keys.specs.Keys.{gone_to, typed_step, to_next_field, to_previous_field, to_first_unprotected, field_blanked, rest_shifted, taken_step, key_step}

abbrev Keeps : Stepped → Type 0
Keeps step = Arrays step.terminal.state

line : (test : Bool) (a b : Stepped) → Keeps a → Keeps b → Keeps (If test then a else b)
line test a b first rest = either_line Keeps test a b (λ _. first) (λ _. rest)

module _ (t : Terminal) (has : Arrays t.state) where
  gone_keeps : (sought : Option Place) → Arrays (gone_to sought t.state)
  unfolding gone_to
  gone_keeps (Some place) = cursor_keeps_arrays t.state has _
  gone_keeps None = has

  shifted_keeps : (change : List ℕ → List ℕ) → Keeps (rest_shifted change t)
  unfolding rest_shifted
  shifted_keeps change = line _ _ _ has has

pub key_keeps_arrays : (key : ℕ) (t : Terminal) → Arrays t.state → Arrays (key_step key t).terminal.state
unfolding key_step taken_step typed_step up_by down_by left_by right_by to_next_field to_previous_field to_first_unprotected field_blanked send_block unlocked
key_keeps_arrays key t has =
    let moves = cursor_keeps_arrays t.state has in
    line _ _ _ has
    (line _ _ _ has
    (line _ _ _ (line _ _ _ (gone_keeps t has _) has)
    (line _ _ _ (moves _)
    (line _ _ _ (moves _)
    (line _ _ _ (moves _)
    (line _ _ _ (moves _)
    (line _ _ _ (gone_keeps t has _)
    (line _ _ _ (gone_keeps t has _)
    (line _ _ _ (gone_keeps t has _)
    (line _ _ _ (line _ _ _ (gone_keeps t has _) has)
    (line _ _ _ (shifted_keeps t has _)
    (line _ _ _ (shifted_keeps t has _)
    (line _ _ _ has
    (line _ _ _ (locks_keep_arrays t.state has _) has))))))))))))))
