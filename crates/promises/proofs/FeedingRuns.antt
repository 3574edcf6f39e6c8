-- Host bytes whose steps are quiet: each sends nothing and refuses nothing.
use mathlib.Core.Path.{◌≡◌, refl, sym, ap, ◌∙◌, subst}
use mathlib.Core.Bool.{false}
use mathlib.Core.List.Memᴰ
use mathlib.Core.List.{List, [], ◌∷◌, ◌++◌, Memᴰ}
use mathlib.Core.Logic.{⊎_elim}
use Prim.Native.Nat.{ℕ}
use Rattle.sequence.specs.declared.HalfRead.{HalfRead}
use Rattle.sequence.specs.declared.Advanced.{Advanced}
use Rattle.sequence.specs.Reading.{reads_on, advance_of}
use Rattle.state.specs.State.{with_half}
use Rattle.steps.specs.Steps.{Terminal, silent, Stepped, with_state, goes_to, Valid}
use Rattle.commands.specs.Host.{event_step, host_step}
use Rattle.commands.proofs.Theorems.{step_keeps_valid, step_keeps_size}
use Rattle.promises.specs.Rules.{our_rules, step_of, steps, byte_steps}

-- The terminal with another half-read record.
abbrev pub reading : Terminal → HalfRead → Terminal
reading t half = with_state t (with_half t.state half)

-- The step of a byte, by the record and the event to which it leads; and of one that is only read on.
pub step_is : (t : Terminal) (next : ℕ) {advanced : Advanced} {step : Stepped} → advance_of t.state.half next ≡ advanced → event_step t.state.half advanced.event (reading t advanced.half) ≡ step → host_step next t ≡ step
unfolding host_step
step_is t next is acts = ap (λ (a : Advanced). event_step t.state.half a.event (reading t a.half)) is ∙ acts

pub reads_on_lem : (t : Terminal) (next : ℕ) {half : HalfRead} → advance_of t.state.half next ≡ reads_on half → host_step next t ≡ goes_to (with_half t.state half) t
unfolding event_step
reads_on_lem t next on = step_is t next on refl

pub record Quiet (step : Stepped) : Type 0 where
  pub nothing_sent : step.transmission ≡ silent
  pub not_refused : step.was_refused ≡ false

-- These bytes, read from the first terminal, lead to the second, each by a quiet step.
pub data Leads : Terminal → List ℕ → Terminal → Type 0 where
  arrived : {t end : Terminal} → t ≡ end → Leads t [] end
  onward : {t end : Terminal} (first : ℕ) {later : List ℕ} → Quiet (host_step first t) → Leads (host_step first t).terminal later end → Leads t (first ∷ later) end

-- A byte in front, by what its step is.
pub leads_on : {t : Terminal} (first : ℕ) {later : List ℕ} {end : Terminal} {step : Stepped} → host_step first t ≡ step → step.transmission ≡ silent → step.was_refused ≡ false → Leads step.terminal later end → Leads t (first ∷ later) end
leads_on first {later} {end} is nothing accepted on =
    onward first
    (record { nothing_sent = ap (λ (s : Stepped). s.transmission) is ∙ nothing; not_refused = ap (λ (s : Stepped). s.was_refused) is ∙ accepted })
    (subst (λ (s : Stepped). Leads s.terminal later end) (sym is) on)

-- Bytes that follow bytes, and bytes that are cut in two.
pub leads_then : {t between end : Terminal} {one other : List ℕ} → Leads t one between → Leads between other end → Leads t (one ++ other) end
leads_then {end} {other} (arrived here) on = subst (λ (start : Terminal). Leads start other end) (sym here) on
leads_then (onward first quiet way) on = onward first quiet (leads_then way on)

pub leads_cut : {t end : Terminal} (one other : List ℕ) → Leads t (one ++ other) end → (between : Terminal) × Leads t one between × Leads between other end
leads_cut {t} [] other way = (t, arrived refl, way)
leads_cut {t} (first ∷ later) other (onward _ quiet way) = let rest = leads_cut {t = (host_step first t).terminal} later other way in (rest.0, onward first quiet rest.1, rest.2)

-- Where they lead, the terminal is valid and has its size.
pub leads_validly : {t end : Terminal} {bytes : List ℕ} → Leads t bytes end → Valid t → Valid end
leads_validly (arrived here) valid = subst Valid here valid
leads_validly {t} (onward first _ way) valid = leads_validly way (step_keeps_valid first t valid)

pub leads_sized : {t end : Terminal} {bytes : List ℕ} → Leads t bytes end → Valid t → end.state.size ≡ t.state.size
leads_sized (arrived here) valid = ap (λ (t : Terminal). t.state.size) (sym here)
leads_sized {t} (onward first _ way) valid = leads_sized way (step_keeps_valid first t valid) ∙ step_keeps_size first t valid

-- None of the steps refuses.
pub none_refused : {t end : Terminal} {bytes : List ℕ} → Leads t bytes end → (step : Stepped) → Memᴰ step (byte_steps our_rules t bytes) → step.was_refused ≡ false
unfolding steps step_of
none_refused (arrived here) step among = absurd (Memᴰ.not-nil among)
none_refused (onward first quiet way) step among =
    ⊎_elim (λ here. ap (λ (s : Stepped). s.was_refused) here ∙ quiet.not_refused) (none_refused way step) (Memᴰ.cases_cons among)
