use mathlib.Core.Path.{◌≡◌, sym, ap, ◌∙◌}
use mathlib.Core.List.{List, [], ◌∷◌, ◌++◌, append_assoc}
use Prim.Native.Nat.{ℕ, ◌-◌, ◌≤◌}
use native.Mathlib.Omega.{arith}
use borrow.Author.Rules.{rules}
use lib.ListN.{length, length-append}
use Rattle.words.proofs.Output.{wrote_none, wrote_then}
use Rattle.page.specs.Page.{page_of, cells}
use Rattle.places.specs.declared.Place.{Place}
use Rattle.places.proofs.Walking.{sets_out_first, turn, walked}
use Rattle.blocks.specs.Blocks.{block, bytes_at}
use Rattle.blocks.proofs.Laws.{rest_from, rest_next, rest_ends, whole_block}
use Rattle.blocks.proofs.put_block.Goals as goal

pub loop-place-init : goal.loop-place-init
loop-place-init c =
    let page = page_of c.args.characters.now c.args.marks.now in
    let is = c.into_iter-place-iterator.ensures.into_iter_gives ∙ c.onward-place-items.ensures in
    let walks = sets_out_first c.first.ensures is in
    let rest : ℕ → List ℕ = λ cell. rest_from c.args.full c.args.columns page (cells page - cell) cell in
    record {
      walks = walks.0;
      as_long = search rules;
      written = [];
      wrote = wrote_none _ _;
      rest = ap rest walks.1 ∙ sym (whole_block c.args.full c.args.columns page);
    }

pub put_at-next-requires : goal.put_at-next-requires
put_at-next-requires c =
    let full = c.args.full in
    let columns = c.args.columns in
    let page = page_of c.args.characters.now c.args.marks.now in
    let known = c.loop-place.invariant in
    let bounds = c.requires.columns_nonzero in
    let now = turn known.walks c.in-Some.ensures.steps in
    let cell = c.loop-place.place-iterator.here.cell in
    let pieces = ap (length {A = ℕ}) (rest_next full columns page cell now.less) ∙ length-append (bytes_at full columns page cell) _ in
    let whole = sym (length-append known.written _) ∙ ap (length {A = ℕ}) known.rest in
    rw (now.here, known.walks.columns_are) (record {
      columns_bound = (bounds.1, omega (arith, now.less), bounds.2, bounds.3);
      cell_in_bounds = omega (arith, pieces, whole, known.wrote.next_is, known.as_long);
    })

pub loop-place-preserved : goal.loop-place-preserved
loop-place-preserved c =
    let full = c.args.full in
    let columns = c.args.columns in
    let page = page_of c.args.characters.now c.args.marks.now in
    let known = c.loop-place.invariant in
    let now = turn known.walks c.in-Some.ensures.steps in
    let cell = c.loop-place.place-iterator.here.cell in
    let place = ap (λ (p : Place). p.cell) now.here in
    let rest : ℕ → List ℕ = λ k. rest_from full columns page (cells page - k) k in
    let bytes : List ℕ = bytes_at full columns page cell in
    let joined = rest_next full columns page cell now.less in
    record {
      walks = now.on;
      as_long = search rules;
      written = known.written ++ bytes;
      wrote = wrote_then (omega arith) known.wrote (rw (place, now.same_columns) at c.put_at-next.ensures);
      rest = append_assoc known.written bytes _ ∙ (λ i. known.written ++ (bytes ++ rest (now.next_cell i))) ∙ ap (λ (list : List ℕ). known.written ++ list) (sym joined) ∙ known.rest;
    }

pub put_byte-requires : goal.put_byte-requires
put_byte-requires c =
    let page = page_of c.args.characters.now c.args.marks.now in
    let known = c.loop-place.invariant in
    let end = walked known.walks c.in-None.ensures.steps in
    let whole : known.written ++ (0x03 ∷ []) ≡ block c.args.full c.args.columns page =
    ap (λ (list : List ℕ). known.written ++ list) (sym (rest_ends c.args.full c.args.columns page _ (omega (arith, end)))) ∙ known.rest in
    omega (arith, sym (length-append known.written (0x03 ∷ [])) ∙ ap (length {A = ℕ}) whole, known.wrote.next_is, known.as_long)

pub returns : goal.returns
returns c =
    let page = page_of c.args.characters.now c.args.marks.now in
    let known = c.loop-place.invariant in
    let end = walked known.walks c.in-None.ensures.steps in
    let whole : known.written ++ (0x03 ∷ []) ≡ block c.args.full c.args.columns page =
    ap (λ (list : List ℕ). known.written ++ list) (sym (rest_ends c.args.full c.args.columns page _ (omega (arith, end)))) ∙ known.rest in
    let room : c.args.at ≤ length c.args.out.now = omega arith in
    rw (← whole) (wrote_then room known.wrote c.put_byte.ensures)
