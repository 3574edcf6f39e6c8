-- From steps to calls: quiet bytes, however they are cut into reads, are all taken, and every read is given 0.
use mathlib.Core.Path.{◌≡◌, refl, sym, ap, ◌∙◌, subst}
use mathlib.Core.List.{List, [], ◌∷◌, ◌++◌}
use Prim.Native.Nat.{ℕ, ◌≤◌}
use native.Mathlib.Omega.{arith}
use lib.ListN.{length, length-append}
use Rattle.steps.specs.Steps.{Terminal, Stepped, bytes_of, Valid}
use Rattle.terminal.specs.Runs.{steps_of, after, bytes_sent_by}
use Rattle.terminal.specs.Answers.{number_of, Outcome, bytes_sent}
use Rattle.terminal.specs.Calls.{host_call}
use Rattle.terminal.proofs.Cases.{host_did}
use Rattle.terminal.proofs.Theorems.{did_so, did_number, bytes_sent_lem}
use Rattle.promises.specs.Entries.{our_entries, outcome_of, outcomes, total, AllDone, no_more, done, Read, reads, joined_bytes, read_all}
use Rattle.promises.proofs.FeedingRuns.{Quiet, Leads, arrived, onward, leads_cut, leads_validly}

quiet_bytes : {step : Stepped} → Quiet step → bytes_of step.transmission ≡ []
unfolding bytes_of
quiet_bytes quiet = ap bytes_of quiet.nothing_sent

-- The steps of quiet bytes send nothing, and leave the terminal to which they lead.
sends_nothing : {t end : Terminal} {bytes : List ℕ} → Leads t bytes end → bytes_sent_by (steps_of t bytes) ≡ []
unfolding steps_of bytes_sent_by
sends_nothing (arrived _) = refl
sends_nothing (onward first quiet way) = λ i. quiet_bytes quiet i ++ sends_nothing way i

comes_to : {t end : Terminal} {bytes : List ℕ} → Leads t bytes end → after t (steps_of t bytes) ≡ end
unfolding steps_of after
comes_to (arrived here) = here
comes_to (onward first _ way) = comes_to way

-- One read.
record Answered (outcome : Outcome) (end : Terminal) : Type 0 where
  number : outcome.number ≡ 0
  nothing_sent : bytes_sent outcome ≡ []
  terminal : outcome.terminal ≡ end

read_answered : {t end : Terminal} {bytes : List ℕ} → Leads t bytes end → Valid t → length bytes ≤ 65536 → (output : List ℕ) → Answered (host_call t bytes output) end
unfolding number_of
read_answered {t} {bytes} way valid short output =
    let is = host_did t bytes output valid short (omega (arith, ap length (sends_nothing way))) in
    let did = did_so _ _ _ _ _ is in
    record { number = did_number _ _ _ _ _ is; nothing_sent = bytes_sent_lem did ∙ sends_nothing way; terminal = did.terminal ∙ comes_to way }

-- All reads of a stream.
pub record ReadThrough (t : Terminal) (cut : List Read) (end : Terminal) : Type 0 where
  pub answered : AllDone (outcomes our_entries t (reads cut))
  pub nothing_sent : (read_all our_entries t cut).bytes_sent ≡ []
  pub terminal : (read_all our_entries t cut).terminal ≡ end

pub read_through : {t end : Terminal} (cut : List Read) → Leads t (joined_bytes cut) end → Valid t → length (joined_bytes cut) ≤ 65536 → ReadThrough t cut end
unfolding outcomes total joined_bytes outcome_of
read_through [] (arrived here) valid short = record { answered = no_more; nothing_sent = refl; terminal = here }
read_through {t} {end} (first ∷ later) way valid short =
    let lengths = length-append first.bytes (joined_bytes later) in
    let parts = leads_cut first.bytes (joined_bytes later) way in
    let one = read_answered parts.1 valid (omega arith) first.output in
    let others = subst (λ (start : Terminal). ReadThrough start later end) (sym one.terminal) (read_through {t = parts.0} later parts.2 (leads_validly parts.1 valid) (omega arith)) in
    record {
      answered = done _ _ one.number others.answered;
      nothing_sent = λ i. one.nothing_sent i ++ others.nothing_sent i;
      terminal = others.terminal;
    }
