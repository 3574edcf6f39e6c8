use mathlib.Core.List.{◌∷◌, ◌++◌}
use Rattle.panel.specs.Panel.{result_bytes}
use Rattle.panel.proofs.Laws.{four_told}
use Rattle.panel.proofs.result_bytes.Goals as goal

pub returns : goal.returns
unfolding result_bytes
returns c =
    let taken = four_told c.args.taken c.to_le_bytes.ensures in
    let sent = four_told c.args.sent c.to_le_bytes-2.ensures in
    let stored = four_told c.args.stored c.to_le_bytes-3.ensures in
    λ i. c.args.number ∷ (taken i ++ sent i ++ stored i)
