use native.Mathlib.Nat.{mul-le-mul_right}
use native.Mathlib.Omega.{arith}
use Rattle.std.proofs.lemmas.Result.{err_from_is_err_and}
use Rattle.page.specs.Page.{page_of}
use Rattle.state.proofs.Keeping.{size_bounds}
use Rattle.steps.proofs.Soundness.{sized}
use Rattle.sending.proofs.Laws.{block_told}
use Rattle.sending.proofs.send_block.Goals as goal

pub write_block-requires : goal.write_block-requires
write_block-requires c = let size = c.args.state.size in
    let page = page_of c.args.characters.now c.args.marks.now in
    let fits = sized size page c.requires.valid.size in
    let bounds = size_bounds size fits.listed in
    let rows = mul-le-mul_right size.columns bounds.rows_most in record { columns_nonzero = (bounds.some_columns, bounds.columns_most, omega arith, omega arith); at_in_bounds = c.requires.at_in_bounds }

pub returns-in_err-bytes : goal.returns-in_err-bytes
returns-in_err-bytes c =
    let page = page_of c.args.characters.now c.args.marks.now in
    let refused = err_from_is_err_and c.from_residual.result c.from_residual.ensures.1 in
    λ before. rw refused.1 (block_told c.args.full c.args.state before page c.args.at c.args.out.now _ _ _ c.in_err-bytes.ensures)

pub returns : goal.returns
returns c =
    let page = page_of c.args.characters.now c.args.marks.now in
    λ before. rw c.did_send.ensures (block_told c.args.full c.args.state before page c.args.at c.args.out.now _ _ _ c.in_ok-bytes.ensures)
