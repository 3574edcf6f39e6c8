-- Every call keeps the arrays' lengths, whatever came in, and a start gives them.
use mathlib.Core.List.{List, [], ◌∷◌}
use Prim.Native.Nat.{ℕ, ◌-◌}
use lib.ListN.{length}
use Rattle.words.proofs.Choosing.{either_line}
use Rattle.page.specs.Page.{Page}
use Rattle.state.specs.declared.Size.{Size}
use Rattle.state.specs.State.{Arrays}
use Rattle.state.proofs.Arrays.{fresh_arrays, zero_arrays}
use Rattle.steps.specs.Steps.{Terminal, Stepped, bytes_of}
use Rattle.commands.specs.Commands.{fresh_step}
use Rattle.commands.specs.Host.{host_step}
use Rattle.commands.proofs.Arrays.{host_keeps_arrays}
use Rattle.keys.proofs.Arrays.{key_keeps_arrays}
use Rattle.terminal.specs.declared.Answer.{Answer}
use Rattle.terminal.specs.Runs.{steps_of, fitting, after}
use Rattle.terminal.specs.Answers.{Outcome, unchanged, after_steps, gives}
use Rattle.terminal.specs.Calls.{start_step, start_call, host_call, key_call}

-- A call leaves the terminal as it was, or where its steps led.
gives_arrays : (answer : Answer) (taken : ℕ) (t : Terminal) (lent : List ℕ) (steps : List Stepped) → Arrays t.state → Arrays (after t steps).state → Arrays (gives answer taken t lent steps).terminal.state
unfolding gives unchanged after_steps
gives_arrays answer taken t lent steps has stepped =
    either_line (λ (outcome : Outcome). Arrays outcome.terminal.state) _ _ _ (λ _. has) (λ _. stepped)

steps_keep_arrays : (room : ℕ) (t : Terminal) (bytes : List ℕ) → Arrays t.state → Arrays (after t (fitting room (steps_of t bytes))).state
unfolding steps_of fitting after
steps_keep_arrays room t [] has = has
steps_keep_arrays room t (byte ∷ later) has =
    either_line (λ (steps : List Stepped). Arrays (after t steps).state) _ _ _
    (λ _. steps_keep_arrays (room - length (bytes_of (host_step byte t).transmission)) (host_step byte t).terminal later (host_keeps_arrays byte t has))
    (λ _. has)

pub start_has_arrays : (size : Size) (page : Page) → Arrays (start_call size page).terminal.state
unfolding start_call start_step fresh_step after
start_has_arrays size page = gives_arrays _ _ _ _ _ zero_arrays (fresh_arrays size)

pub host_call_keeps_arrays : (t : Terminal) (bytes lent : List ℕ) → Arrays t.state → Arrays (host_call t bytes lent).terminal.state
unfolding host_call
host_call_keeps_arrays t bytes lent has = gives_arrays _ _ t lent _ has (steps_keep_arrays _ t bytes has)

pub key_call_keeps_arrays : (t : Terminal) (key : ℕ) (lent : List ℕ) → Arrays t.state → Arrays (key_call t key lent).terminal.state
unfolding key_call fitting after
key_call_keeps_arrays t key lent has =
    gives_arrays _ _ t lent _ has
    (either_line (λ (steps : List Stepped). Arrays (after t steps).state) _ _ _ (λ _. key_keeps_arrays key t has) (λ _. has))
