use mathlib.Core.Path.{◌∙◌}
use Rattle.record.specs.Record.{state_in}
use Rattle.record.proofs.state_in.Goals as goal

pub returns : goal.returns
unfolding state_in
returns c =
    (λ i. record {
      size = record { rows = (c.from.ensures ∙ c.number_at.ensures) i; columns = (c.from-2.ensures ∙ c.number_at-2.ensures) i };
      cursor = record { row = (c.from-3.ensures ∙ c.number_at-3.ensures) i; column = (c.from-4.ensures ∙ c.number_at-4.ensures) i };
      modes = record { pen = c.number_at-5.ensures i; erasure = c.flag_at.ensures i; full = c.flag_at-2.ensures i };
      locks = record { manual = c.flag_at-3.ensures i; soft = c.flag_at-4.ensures i; message = c.byte_at.ensures i; byte = c.byte_at-2.ensures i };
      stops = c.stops_in.ensures i;
      half = record { kind = c.byte_at-3.ensures i; arguments = c.arguments_in.ensures i; count = c.byte_at-4.ensures i; spoilt = c.flag_at-5.ensures i };
    })
