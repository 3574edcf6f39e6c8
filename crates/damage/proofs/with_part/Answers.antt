use mathlib.Core.Path.{◌≡◌, ap, ◌∙◌}
use mathlib.Core.List.{List}
use Prim.Native.Nat.{ℕ, ◌%◌}
use lib.ListN.{get_or}
use Rattle.damage.specs.Parts.{chosen, with_part}
use Rattle.damage.proofs.with_part.Goals as goal

pub returns : goal.returns
unfolding with_part
returns c =
    let low : get_or c.to_le_bytes.result 0 0 ≡ c.args.value % 256 = ap (λ (bytes : List ℕ). get_or bytes 0 0) c.to_le_bytes.ensures in
    (λ i. record {
      size = record { rows = (c.chosen.ensures ∙ ap (λ (n : ℕ). chosen 0 c.args.part n c.args.state.size.rows) c.from.ensures) i; columns = (c.chosen-2.ensures ∙ ap (λ (n : ℕ). chosen 1 c.args.part n c.args.state.size.columns) c.from-2.ensures) i };
      cursor = record { row = (c.chosen-3.ensures ∙ ap (λ (n : ℕ). chosen 2 c.args.part n c.args.state.cursor.row) c.from-3.ensures) i; column = (c.chosen-4.ensures ∙ ap (λ (n : ℕ). chosen 3 c.args.part n c.args.state.cursor.column) c.from-4.ensures) i };
      modes = record { pen = c.chosen-5.ensures i; erasure = c.chosen-6.ensures i; full = c.chosen-7.ensures i };
      locks = record { manual = c.chosen-8.ensures i; soft = c.chosen-9.ensures i; message = (c.chosen-10.ensures ∙ ap (λ (n : ℕ). chosen 8 c.args.part n c.args.state.locks.message) low) i; byte = (c.chosen-11.ensures ∙ ap (λ (n : ℕ). chosen 180 c.args.part n c.args.state.locks.byte) low) i };
      stops = c.stops_with.ensures i;
      half = record { kind = (c.chosen-12.ensures ∙ ap (λ (n : ℕ). chosen 9 c.args.part n c.args.state.half.kind) low) i; arguments = c.arguments_with.ensures i; count = (c.chosen-13.ensures ∙ ap (λ (n : ℕ). chosen 11 c.args.part n c.args.state.half.count) low) i; spoilt = c.chosen-14.ensures i };
    })
