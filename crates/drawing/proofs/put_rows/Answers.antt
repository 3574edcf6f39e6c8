use mathlib.Core.Path.{◌≡◌, refl, sym, ap, ◌∙◌}
use mathlib.Core.List.{List, [], ◌++◌, append-nil, append_assoc}
use Prim.Native.Nat.{ℕ, ◌-◌}
use native.Mathlib.Omega.{arith}
use borrow.Author.Rules.{rules}
use lib.ListN.{length, take, length-append}
use Rattle.words.proofs.Output.{wrote_none, wrote_then}
use Rattle.drawing.proofs.Lines.{row_taken, rows_next, rows_end}
use Rattle.drawing.specs.Drawing.{row_lines}
use Rattle.drawing.proofs.put_rows.Goals as goal

pub loop-init : goal.loop-init
loop-init g c =
    let all : c.args.rows - 0 ≡ c.args.rows = omega arith in
    (rw all c.requires.cells_len, refl, [], wrote_none _ _, ap (λ (n : ℕ). row_lines g.C.Cell.line n c.args.columns c.args.cells.now) all)

pub put_row-next-requires : goal.put_row-next-requires
put_row-next-requires g c =
    let line = g.C.Cell.line in
    let left = c.loop.left.now in
    let next = rows_next line c.args.rows c.loop.counter c.args.columns left c.loop-test.true in
    let pieces = ap (length {A = ℕ}) next ∙ length-append (line (take c.args.columns left)) _ in
    let whole = sym (length-append c.loop.invariant.2 _) ∙ ap (length {A = ℕ}) c.loop.invariant.4 in
    rw c.split_at.ensures.front (omega (arith, pieces, whole, c.loop.invariant.3.next_is, c.requires.cells_in_bounds))

pub loop-preserved : goal.loop-preserved
loop-preserved g c =
    let line = g.C.Cell.line in
    let left = c.loop.left.now in
    let some = c.loop-test.true in
    let written : List ℕ = c.loop.invariant.2 in
    let row : List ℕ = line (take c.args.columns left) in
    let next = rows_next line c.args.rows c.loop.counter c.args.columns left some in
    let wrote = rw c.split_at.ensures.front at c.put_row-next.ensures in (
      omega (arith, row_taken c.args.rows c.loop.counter c.args.columns some, c.split_at.ensures.back_len),
      search rules,
      written ++ row,
      wrote_then (omega (arith, c.requires.cells_in_bounds)) c.loop.invariant.3 wrote,
      rw c.split_at.ensures.back (append_assoc written row _ ∙ ap (λ (list : List ℕ). written ++ list) (sym next) ∙ c.loop.invariant.4),
    )

pub returns : goal.returns
returns g c =
    let written : List ℕ = c.loop.invariant.2 in
    let none = rows_end g.C.Cell.line c.args.rows c.loop.counter c.args.columns c.loop.left.now (omega arith) in
    let whole = sym (append-nil written) ∙ ap (λ (list : List ℕ). written ++ list) (sym none) ∙ c.loop.invariant.4 in
    rw whole at c.loop.invariant.3
