use mathlib.Core.Path.{sym, ap, ◌∙◌}
use Prim.Native.Nat.{min}
use lib.ListN.{length-take}
use Rattle.std.specs.Prelude.{Option, Some}
use Rattle.frames.specs.declared.Held.{Held}
use Rattle.frames.specs.Held.{kept, session_in}
use Rattle.frames.proofs.Answering.{none_in}
use Rattle.frames.proofs.settled.Goals as goal

pub returns-in_err-cells : goal.returns-in_err-cells
unfolding kept
returns-in_err-cells c characters marks long =
    c.from_residual.ensures ∙ sym (ap kept (none_in characters marks c.in_err-cells.was))

pub returns : goal.returns
unfolding kept session_in
returns c characters marks long =
    let held = c.in_ok-cells.field-0 in
    let cells = c.min.ensures ∙ sym (length-take held.cells characters ∙ ap (min held.cells) long) in
    (λ i. Some (record { cells = cells i; state = held.state }))
    ∙ sym (ap (λ (held : Option Held). kept (session_in held characters marks)) c.in_ok-cells.was)
