-- ESC S given 0, whatever was half read: two steps, of which the second sends the full block of the page.
use mathlib.Core.Path.{◌≡◌, refl, sym, ap, ◌∙◌, subst}
use mathlib.Core.Bool.{true}
use mathlib.Core.List.{List, [], ◌∷◌, append-nil}
use Prim.Native.Nat.{ℕ}
use Prim.Native.Char.{code}
use native.Mathlib.Omega.{arith}
use Rattle.sequence.specs.Record.{esc_read}
use Rattle.state.specs.State.{with_half}
use Rattle.steps.specs.Steps.{Terminal, full_block, Stepped, bytes_of, block_transmission, goes_to, Valid}
use Rattle.steps.specs.Seen.{block_here}
use Rattle.commands.specs.Host.{host_step}
use Rattle.commands.proofs.Theorems.{step_keeps_valid}
use Rattle.terminal.specs.Runs.{steps_of, after, bytes_sent_by}
use Rattle.terminal.specs.Answers.{Outcome, number_of, bytes_sent}
use Rattle.terminal.specs.Calls.{host_call}
use Rattle.terminal.proofs.Cases.{HostCase, host_case}
use Rattle.terminal.proofs.Cases as Cases
use Rattle.terminal.proofs.Theorems.{numbered, did_so, did_number, bytes_sent_lem}
use Rattle.promises.specs.Rules.{byte, step_of}
use Rattle.promises.specs.Further.{full_by_esc_s}
use Rattle.promises.proofs.Asking.{block_asked}
use Rattle.promises.proofs.FeedingRuns.{reading, reads_on_lem}
use Rattle.promises.proofs.FeedingPlace.{esc_event}
use Rattle.samples.specs.Samples.{esc_s}

module _ (t : Terminal) where
  -- ESC drops what was half read, and changes nothing else; then S.
  abbrev pub after_esc : Terminal
  after_esc = reading t esc_read

  abbrev pub on_s : Stepped
  on_s = host_step (code "S") after_esc

  on_esc : host_step 0x1B t ≡ goes_to (with_half t.state esc_read) t
  on_esc = reads_on_lem t 0x1B (esc_event t.state.half)

  pub valid_after_esc : Valid t → Valid after_esc
  valid_after_esc valid = subst (λ (esc : Stepped). Valid esc.terminal) on_esc (step_keeps_valid 0x1B t valid)

  pub full_sent : on_s.transmission ≡ full_block (block_here true t)
  unfolding step_of block_transmission
  full_sent = block_asked after_esc true (byte (code "S")) (full_by_esc_s refl)

  two_steps : steps_of t esc_s ≡ goes_to (with_half t.state esc_read) t ∷ on_s ∷ []
  unfolding steps_of
  two_steps = ap (λ (esc : Stepped). esc ∷ host_step (code "S") esc.terminal ∷ []) on_esc

-- What the call found, left and sent.
pub record FullAsked (t : Terminal) (outcome : Outcome) : Type 0 where
  pub valid : Valid t
  pub terminal : outcome.terminal ≡ (on_s t).terminal
  pub sent : bytes_sent outcome ≡ block_here true t

pub full_asked : (t : Terminal) (lent : List ℕ) → (host_call t esc_s lent).number ≡ 0 → FullAsked t (host_call t esc_s lent)
unfolding number_of after bytes_sent_by bytes_of
full_asked t lent is-done = go (host_case t esc_s lent)
  where
    go : HostCase t esc_s lent → FullAsked t (host_call t esc_s lent)
    go (Cases.refused answer not-0 not-3 is) = absurd (not-0 (sym (numbered _ _ _ is) ∙ is-done))
    go (Cases.stopped valid line is) = absurd (omega (arith, sym (did_number _ _ _ _ _ is) ∙ is-done))
    go (Cases.done valid fits is) =
        let did = did_so _ _ _ _ _ is in
        record {
          valid = valid;
          terminal = did.terminal ∙ ap (after t) (two_steps t);
          sent = bytes_sent_lem did ∙ ap bytes_sent_by (two_steps t) ∙ append-nil _ ∙ ap bytes_of (full_sent t);
        }
