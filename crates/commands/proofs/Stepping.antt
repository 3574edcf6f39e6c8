-- From a host byte to the event it gives and the terminal on which the event acts.
use mathlib.Core.Path.{◌≡◌, sym, ap, ◌∙◌, subst}
use mathlib.Core.Bool.{true}
use Prim.Native.Nat.{ℕ}
use Rattle.sequence.specs.declared.Advanced.{Advanced}
use Rattle.sequence.specs.declared.Event.{Event}
use Rattle.sequence.specs.Reading.{advance_of}
use Rattle.sequence.specs.Record.{valid_half_read}
use Rattle.sequence.proofs.Keeping.{advance_keeps}
use Rattle.sequence.proofs.Events.{Tells, event_tells}
use Rattle.state.specs.declared.State.{State}
use Rattle.state.specs.State.{with_half}
use Rattle.state.proofs.Keeping.{parts, half_keeps_valid}
use Rattle.steps.specs.Steps.{Terminal, Valid, with_state}
use Rattle.commands.specs.Host.{event_step, host_step}

module _ (t : Terminal) (byte : ℕ) (advanced : Advanced) (next : State) (is : advanced ≡ advance_of t.state.half byte) (goes : next ≡ with_half t.state advanced.half) where
  pub next_valid : Valid t → Valid (with_state t next)
  next_valid valid =
      let half : valid_half_read advanced.half ≡ true = rw is (advance_keeps t.state.half byte (parts t.state valid.state).half) in
      rw goes (record { size = valid.size; state = (half_keeps_valid t.state valid.state advanced.half half).valid; page = valid.page })

  module _ (event : Event) (gives : advanced.event ≡ event) where
    pub host_is : host_step byte t ≡ event_step t.state.half event (with_state t next)
    unfolding host_step
    host_is =
        (λ i. event_step t.state.half (sym is i).event (with_state t (with_half t.state (sym is i).half)))
        ∙ (λ i. event_step t.state.half (gives i) (with_state t (sym goes i)))

    pub tells_of : Tells t.state.half byte event
    tells_of = subst (Tells t.state.half byte) (ap (λ (a : Advanced). a.event) (sym is) ∙ gives) (event_tells t.state.half byte)
