-- What the samples' calls give, put together.
use mathlib.Core.Path.{◌≡◌, sym, ap, ◌∙◌, subst}
use mathlib.Core.Bool.{true}
use mathlib.Core.List.{List, [], ◌∷◌, ◌++◌, append-nil}
use Prim.Native.Nat.{ℕ, ◌+◌, ◌-◌, ◌≤◌}
use Prim.Native.Char.{code}
use native.Mathlib.Nat.{add-zero}
use native.Mathlib.Omega.{arith}
use lib.ListN.{length, take, drop, length-take, length-drop, take-append-drop}
use lib.Seq.{take_all}
use Rattle.words.specs.Choice.{◌or◌}
use Rattle.page.specs.Page.{Page}
use Rattle.steps.specs.Steps.{Terminal, Stepped, Valid}
use Rattle.steps.specs.Seen.{block_here}
use Rattle.terminal.specs.declared.Answer.{Answer}
use Rattle.terminal.specs.declared.Reply.{Reply}
use Rattle.terminal.specs.Answers.{Outcome, given, unchanged, bytes_sent}
use Rattle.terminal.specs.Calls.{host_call, key_call}
use Rattle.terminal.specs.Claims.{Did}
use Rattle.terminal.proofs.Deciding.{or_false}
use Rattle.terminal.proofs.Cases.{HostCase, host_case, KeyCase, key_case}
use Rattle.terminal.proofs.Cases as Cases
use Rattle.terminal.proofs.Theorems.{leaves, did_so, host_done, bytes_sent_lem}
use Rattle.promises.specs.Rules.{our_rules, byte, step_of, byte_steps, Total, total_of}
use Rattle.promises.specs.Entries.{outcome_of, outcomes, total, no_more, done, joined_bytes}
use Rattle.promises.specs.FeedingBack.{Receives}
use Rattle.promises.proofs.Calling.{first_done}
use Rattle.promises.proofs.Theorems.{demand_2}
use Rattle.samples.specs.Samples.{InTwoReads, Restored, esc_s, SentOn}
use Rattle.samples.proofs.Asking.{after_esc, valid_after_esc, full_sent, full_asked}

pub whole_rest : (bytes : List ℕ) (at : ℕ) → at ≤ length bytes → take (length bytes - at) (drop at bytes) ≡ drop at bytes
whole_rest bytes at inside =
    let all : length (drop at bytes) ≤ length bytes - at = simp length-drop (omega arith) in
    take_all (length bytes - at) (drop at bytes) all

-- What two calls leave together.
abbrev together : Outcome → Outcome → Total
together first second =
    record {
      terminal = second.terminal;
      bytes_sent = bytes_sent first ++ bytes_sent second;
      stored = first.stored + second.stored;
      refused = first.refused + second.refused;
      protection = first.protection or second.protection;
    }

together_is : (t : Terminal) (first second : Outcome) → together first second ≡ total t (first ∷ second ∷ [])
unfolding total
together_is t first second = rw (append-nil (bytes_sent second), add-zero second.stored, add-zero second.refused, or_false second.protection)

module _ (t : Terminal) (bytes : List ℕ) (cut : ℕ) (lent lent_later : List ℕ) where
  abbrev first_call : Outcome
  first_call = host_call t (take cut bytes) lent

  abbrev second_call : Outcome
  second_call = host_call first_call.terminal (drop cut bytes) lent_later

  cut_anywhere : first_call.number ≡ 0 → second_call.number ≡ 0 → together first_call second_call ≡ total_of t (byte_steps our_rules t bytes)
  unfolding outcomes outcome_of joined_bytes
  cut_anywhere one two =
      let whole : take cut bytes ++ (drop cut bytes ++ []) ≡ bytes = rw (append-nil (drop cut bytes)) (take-append-drop cut bytes) in
      together_is t first_call second_call
      ∙ demand_2.cutting t
      (record { bytes = take cut bytes; output = lent } ∷ record { bytes = drop cut bytes; output = lent_later } ∷ [])
      (done first_call _ one (done second_call _ two no_more))
      ∙ ap (λ (stream : List ℕ). total_of t (byte_steps our_rules t stream)) whole

  pub in_two : {first second : Reply} {between page : Page} {part rest output output_later : List ℕ} →
      part ≡ take cut bytes → rest ≡ drop cut bytes →
      given first between output ≡ host_call t part lent →
      given second page output_later ≡ host_call (record { state = first.state; page = between }) rest lent_later →
      InTwoReads t bytes cut lent lent_later (record { first = first; second = second }) page output output_later
  in_two {first} {second} {between} {page} {output} part_is rest-is is-first is-second =
      let one = is-first ∙ ap (λ (bytes : List ℕ). host_call t bytes lent) part_is in
      let left = ap (λ (o : Outcome). o.terminal) one in
      let two = is-second ∙ (λ i. host_call (left i) (rest-is i) lent_later) in
      record {
        first = (λ i. given first (sym left i).page output) ∙ one;
        second = two;
        as_one = λ one-done two-done.
            (λ i. together (one i) (two i))
            ∙ cut_anywhere (sym (ap (λ (o : Outcome). o.number) one) ∙ one-done) (sym (ap (λ (o : Outcome). o.number) two) ∙ two-done);
      }

-- The bytes sent fit the output, whatever a call is given.
steps_fit : {taken : ℕ} {t : Terminal} {lent : List ℕ} {steps : List Stepped} {outcome : Outcome} → Did taken t lent steps outcome → outcome.sent ≤ length outcome.output
steps_fit {outcome} did =
    let all = did.sent ∙ ap length (sym (bytes_sent_lem did)) in
    omega (arith, all, length-take outcome.sent outcome.output)

none_fit : (answer : Answer) (t : Terminal) (lent : List ℕ) {outcome : Outcome} → outcome ≡ unchanged answer t lent → outcome.sent ≤ length outcome.output
none_fit answer t lent is = omega (arith, (leaves answer t lent is).sent)

pub host_fits : (t : Terminal) (bytes lent : List ℕ) {outcome : Outcome} → outcome ≡ host_call t bytes lent → outcome.sent ≤ length outcome.output
host_fits t bytes lent {outcome} same = go (host_case t bytes lent)
  where
    go : HostCase t bytes lent → outcome.sent ≤ length outcome.output
    go (Cases.refused answer not-0 not-3 is) = none_fit _ _ _ (same ∙ is)
    go (Cases.stopped valid line is) = steps_fit (did_so _ _ _ _ _ (same ∙ is))
    go (Cases.done valid fits is) = steps_fit (did_so _ _ _ _ _ (same ∙ is))

pub key_fits : (t : Terminal) (key : ℕ) (lent : List ℕ) {outcome : Outcome} → outcome ≡ key_call t key lent → outcome.sent ≤ length outcome.output
key_fits t key lent {outcome} same = go (key_case t key lent)
  where
    go : KeyCase t key lent → outcome.sent ≤ length outcome.output
    go (Cases.refused answer not-0 is) = none_fit _ _ _ (same ∙ is)
    go (Cases.pressed passes fits is) = steps_fit (did_so _ _ _ _ _ (same ∙ is))

module _ (sender receiver : Terminal) (lent_there : List ℕ) (valid : Valid sender) (receives : Receives sender receiver) where
  abbrev block : List ℕ
  block = block_here true sender

  -- The sender after ESC has the same page.
  receives_still : Receives (after_esc sender) receiver
  receives_still =
      record {
        valid = receives.valid;
        size = receives.size;
        protection = receives.protection;
        nothing_half_read = receives.nothing_half_read;
        unprotected_pen = receives.unprotected_pen;
      }

  restored : Restored sender receiver block (host_call receiver block lent_there)
  unfolding outcomes outcome_of total joined_bytes step_of
  restored =
      let outcome = host_call receiver block lent_there in
      let fed = demand_2.feeding_back (after_esc sender) receiver (byte (code "S")) block (record { bytes = block; output = lent_there } ∷ []) (valid_after_esc sender valid) (full_sent sender) receives_still (append-nil block) in
      let number : outcome.number ≡ 0 = first_done fed.answered in
      let steps-done = host_done receiver block lent_there number in
      record {
        answered = number;
        nothing_sent = steps-done.sent ∙ ap length (sym (bytes_sent_lem steps-done) ∙ sym (append-nil (bytes_sent outcome)) ∙ fed.nothing_sent);
        nothing_refused = fed.nothing_refused;
        characters = fed.characters;
        protected_cells = fed.protected_cells;
        protection = fed.protection;
      }

pub sent_on : (sender receiver : Terminal) (lent lent_there : List ℕ) {sends gets : Outcome} → sends ≡ host_call sender esc_s lent → gets ≡ host_call receiver (bytes_sent sends) lent_there → SentOn sender receiver lent lent_there sends gets
sent_on sender receiver lent lent_there {sends} one two =
    record {
      first = one;
      second = two;
      fed_back = λ is-done receives.
          let asked = full_asked sender lent (sym (ap (λ (o : Outcome). o.number) one) ∙ is-done) in
          let bytes = ap bytes_sent one ∙ asked.sent in
          subst (Restored sender receiver (bytes_sent sends)) (sym two)
          (subst (λ (block : List ℕ). Restored sender receiver block (host_call receiver block lent_there)) (sym bytes)
          (restored sender receiver lent_there asked.valid receives));
    }
