-- The terminal of document 01: its rules keep the laws of a step, and its entries demand 1 and Follows.
use mathlib.Core.Path.{◌≡◌, refl, sym, ap, subst}
use mathlib.Core.Bool.{Bool}
use mathlib.Core.List.{List, [], ◌∷◌}
use Prim.Native.Nat.{ℕ}
use native.Mathlib.Omega.{arith}
use lib.ListN.{length}
use Rattle.steps.specs.Steps.{Terminal, Stepped, Valid}
use Rattle.steps.specs.Claims.{SendsBlock}
use Rattle.commands.specs.Host.{host_step}
use Rattle.keys.specs.Keys.{key_step}
use Rattle.commands.proofs.Lengths.{step_short}
use Rattle.commands.proofs.Theorems.{step_keeps_valid, step_keeps_size, step_touches_only, step_sends_full, step_sends_no_changed, step_reports}
use Rattle.keys.proofs.Theorems.{key_takes, no_key_changes_bits, key_keeps_valid, key_keeps_size, key_touches_only, key_tags, key_sends_full, key_sends_changed, key_sends_no_report, key_keeps_protection}
use Rattle.terminal.specs.Runs.{steps_of}
use Rattle.terminal.specs.Calls.{host_call}
use Rattle.terminal.specs.Claims.{NumberedBy, Did}
use Rattle.terminal.specs.Lines.{Line3, host_table}
use Rattle.terminal.proofs.Counts.{key_short}
use Rattle.terminal.proofs.Theorems
use Rattle.promises.specs.Rules.{our_rules, Input, byte, press, step_of, steps, byte_steps}
use Rattle.promises.specs.Entries.{our_entries}
use Rattle.promises.specs.Further.{KeysTake}
use Rattle.promises.proofs.Laws.{BlockOfPage, StepLaw, StepLaws, Keeps}

-- Of a step: what the theorems of its crate say.
is_block : {full : Bool} {Asked : Type 0} {t : Terminal} {step : Stepped} {bytes : List ℕ} → SendsBlock full Asked t step bytes → BlockOfPage full t step bytes
is_block sent = record { of_page = sent.of_page; no_cell = sent.no_cell }

our_every_step : (input : Input) (t : Terminal) → Valid t → StepLaw t (step_of our_rules input t)
unfolding step_of
our_every_step (byte b) t valid = record {
  valid = step_keeps_valid b t valid;
  size = step_keeps_size b t valid;
  touches = step_touches_only b t valid;
  reports = step_reports b t valid;
  by_full_block = λ bytes sends. is_block (step_sends_full b t valid bytes sends);
  by_changed_block = λ bytes sends. absurd (step_sends_no_changed b t valid bytes sends);
  short = step_short b t valid.size;
}
our_every_step (press key) t valid = record {
  valid = key_keeps_valid key t valid;
  size = key_keeps_size key t valid;
  touches = key_touches_only key t valid;
  reports = λ bytes sends. absurd (key_sends_no_report key t bytes sends);
  by_full_block = λ bytes sends. is_block (key_sends_full key t bytes sends);
  by_changed_block = λ bytes sends. is_block (key_sends_changed key t bytes sends);
  short = key_short key t valid (key_step key t).transmission refl;
}

pub our_step_laws : StepLaws our_rules
our_step_laws = record {
  every_step = our_every_step;
  every_key = λ key t valid. record {
    tag_law = record { protection = key_keeps_protection key t; tags = λ cell named. (key_tags key t valid cell named).1 };
    names_unprotected = λ cell named. (key_tags key t valid cell named).0;
  };
}

-- Of a call: what the theorems of `terminal` say. Its steps of host bytes are these rules'.
our_steps : (t : Terminal) (bytes : List ℕ) → byte_steps our_rules t bytes ≡ steps_of t bytes
unfolding steps step_of steps_of
our_steps t [] = refl
our_steps t (b ∷ later) = ap (λ (run : List Stepped). host_step b t ∷ run) (our_steps (host_step b t).terminal later)

pub our_keeps : Keeps our_rules our_entries
our_keeps = record {
  numbers = record {
    of_start = Theorems.start_exactly;
    of_host = λ t bytes lent.
        subst (λ (run : List Stepped). NumberedBy (host_table t bytes (length lent) run) (host_call t bytes lent)) (sym (our_steps t bytes)) (Theorems.host_exactly t bytes lent);
    of_key = Theorems.key_exactly;
  };
  refusals = record {
    of_start = Theorems.start_refused;
    of_host = Theorems.host_refused;
    of_host_3 = λ t bytes lent three.
        subst (λ (run : List Stepped). (line : Line3 (length lent) run) × Did (length line.before) t lent line.before (host_call t bytes lent))
        (sym (our_steps t bytes)) (Theorems.host_stopped t bytes lent three);
    of_key = Theorems.key_refused;
  };
  follows = record {
    of_start = Theorems.start_done;
    of_host = λ t bytes lent zero.
        subst (λ (run : List Stepped). Did (length bytes) t lent run (host_call t bytes lent)) (sym (our_steps t bytes)) (Theorems.host_done t bytes lent zero);
    of_key = Theorems.key_done;
  };
}

-- M-103: what a key stores is taken, and it leaves every mark but modified.
pub our_keys_take : KeysTake our_rules
our_keys_take = record {
  taken = λ t valid key. key_takes key t valid;
  kinds = λ t key cell.
      record {
        protected = no_key_changes_bits key t 0 (λ same. omega arith) cell;
        numeric = no_key_changes_bits key t 7 (λ same. omega arith) cell;
        alphabetic = no_key_changes_bits key t 8 (λ same. omega arith) cell;
        required = no_key_changes_bits key t 9 (λ same. omega arith) cell;
      };
}
