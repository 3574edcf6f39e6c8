use mathlib.Core.Path.{◌≡◌, ap, ◌∙◌}
use mathlib.Core.List.{List}
use Prim.Native.Nat.{ℕ}
use native.Mathlib.Omega.{arith}
use lib.ListN.{length, take}
use Rattle.words.proofs.Output.{placed_before}
use Rattle.numerals.specs.Hexadecimal.{bytes_in}
use Rattle.frames.specs.Frames.{frame_in, frame_of}
use Rattle.frames.specs.Held.{line_in, kind_of}
use Rattle.frames.proofs.frame.Goals as goal

pub returns : goal.returns
unfolding frame_of
returns c =
    let said = bytes_in (line_in c.args.line.now c.args.digits) in
    let wrote = c.bytes-count.ensures.0 in
    let count : c.bytes-count.result ≡ length said = omega (arith, wrote.next_is) in
    let first = (λ i. take (count i) (wrote.left i)) ∙ placed_before said _ in
    (c.kind_of.ensures ∙ ap (λ (bytes : List ℕ). kind_of (frame_in bytes)) first, wrote.left)
