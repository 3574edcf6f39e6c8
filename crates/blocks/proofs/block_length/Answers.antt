use mathlib.Core.Path.{◌≡◌, ap, ◌∙◌}
use mathlib.Core.List.{List}
use Prim.Native.Nat.{ℕ, ◌+◌, ◌-◌, ◌<◌, ◌≤◌}
use native.Mathlib.Omega.{arith}
use lib.ListN.{length, length-append}
use Rattle.page.specs.Page.{page_of, cells}
use Rattle.places.specs.declared.Place.{Place}
use Rattle.places.proofs.Walking.{sets_out_first, turn, walked}
use Rattle.blocks.specs.Blocks.{bytes_at}
use Rattle.blocks.proofs.Laws.{rest_from, rest_next, rest_ends, whole_block}
use Rattle.blocks.proofs.block_length.Goals as goal

pub loop-place-init : goal.loop-place-init
loop-place-init c =
    let is = c.into_iter-place-iterator.ensures.into_iter_gives ∙ c.onward-place-items.ensures in
    let walks = sets_out_first c.first.ensures is in
    record {
      walks = walks.0;
      bounded = omega arith;
      counted_off = λ characters same.
          let page = page_of characters c.args.marks.now in
          let rest : ℕ → ℕ = λ cell. length (rest_from c.args.full c.args.columns page (cells page - cell) cell) in
          omega (arith, ap rest walks.1, ap (length {A = ℕ}) (whole_block c.args.full c.args.columns page));
    }

pub length_at-total-requires : goal.length_at-total-requires
length_at-total-requires c =
    let now = turn c.loop-place.invariant.walks c.in-Some.ensures.steps in
    (rw now.here now.less, c.requires)

pub loop-place-preserved : goal.loop-place-preserved
loop-place-preserved c =
    let now = turn c.loop-place.invariant.walks c.in-Some.ensures.steps in
    let cell = c.loop-place.place-iterator.here.cell in
    let place = ap (λ (p : Place). p.cell) now.here in
    let count = c.length_at-total.ensures in
    record {
      walks = now.on;
      bounded = omega (arith, now.next_cell, count.upper_bound, c.loop-place.invariant.bounded);
      counted_off = λ characters same.
          let page = page_of characters c.args.marks.now in
          let rest : ℕ → List ℕ = λ k. rest_from c.args.full c.args.columns page (cells page - k) k in
          let bytes : ℕ → List ℕ = bytes_at c.args.full c.args.columns page in
          let here : cell < cells page = omega (arith, same, now.less) in
          let told : length (bytes_at c.args.full c.in-Some.place.columns page c.in-Some.place.cell) ≡ length (bytes cell) =
          λ i. length (bytes_at c.args.full (now.same_columns i) page (place i)) in
          let joined = ap (length {A = ℕ}) (rest_next c.args.full c.args.columns page cell here) ∙ length-append (bytes cell) (rest (cell + 1)) in
          omega (arith, c.loop-place.invariant.counted_off characters same, count.by_index characters same, told, joined, ap (λ (k : ℕ). length (rest k)) now.next_cell);
    }

pub returns : goal.returns
returns c =
    λ characters same.
    let page = page_of characters c.args.marks.now in
    let end = walked c.loop-place.invariant.walks c.in-None.ensures.steps in
    let all : cells page ≤ c.loop-place.place-iterator.here.cell = omega (arith, same, end) in
    omega (arith, c.loop-place.invariant.counted_off characters same, ap (length {A = ℕ}) (rest_ends c.args.full c.args.columns page _ all))
