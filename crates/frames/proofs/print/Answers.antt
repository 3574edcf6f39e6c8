use mathlib.Core.Path.{ap, ◌∙◌, subst}
use mathlib.Core.List.{List, ◌∷◌, ◌++◌}
use Prim.Native.Nat.{ℕ}
use lib.ListN.{take}
use Rattle.words.specs.Output.{Wrote}
use Rattle.frames.specs.Printing.{high_first, line_of, printed}
use Rattle.frames.proofs.Calling.{one_byte, last_byte, last_four, four_told}
use Rattle.frames.proofs.print.Goals as goal

pub returns : goal.returns
unfolding printed high_first
returns c page =
    let number = c.number_of.ensures ∙ one_byte _ in
    let row = ap last_byte c.to_be_bytes.ensures in
    let column = ap last_byte c.to_be_bytes-2.ensures in
    let stored = ap last_four c.to_be_bytes-3.ensures ∙ four_told c.args.reply.stored in
    subst (λ (bytes : List ℕ). Wrote 0 bytes c.args.text.now c.put_line.result c.put_line.new.text)
    (λ i. line_of (number i ∷ row i ∷ column i ∷ stored i ++ take c.args.reply.sent c.args.out.now))
    c.put_line.ensures
