use mathlib.Core.Path.{◌≡◌, sym, ◌∙◌}
use mathlib.Core.Bool.{true, false}
use Prim.Native.Nat.{◌<◌}
use native.Mathlib.Omega.{arith}
use lib.ListN.{length}
use Rattle.words.proofs.Writing.{none_changed, not_yet, next_changed, next_same, all_changed}
use Rattle.words.proofs.Passing.{place_counted, place_passed_by, all_counted}
use Rattle.page.specs.Page.{page_of, erasable, erased, cells_erased}
use Rattle.page.proofs.Laws.{erases, passes_by, leaves_before, leaves_after, still_erasable}
use Rattle.page.proofs.erasing.erase.Goals as goal
use Rattle.page.proofs.erasing.erase.Goals.{then-is_erasable, else-is_erasable}

pub loop-cell-init : goal.loop-cell-init
unfolding erased cells_erased
loop-cell-init c =
    let args = c.args in
    record {
      few = omega arith;
      characters = none_changed _ args.from 0 args.characters.now (λ k x h. leaves_before _ _ _ _ 0x20 k x (omega arith));
      marks = none_changed _ args.from 0 args.marks.now (λ k x h. leaves_before _ _ _ _ 0 k x (omega arith));
      counted = omega arith;
    }

pub loop-cell-preserved : goal.loop-cell-preserved
unfolding erased
loop-cell-preserved c =
    let args = c.args in
    let cell = c.loop-cell.cell in
    let kept = c.loop-cell.invariant in
    let more = c.loop-cell-test.true in
    let here : cell < length args.characters.now = omega arith in
    let marked : cell < length args.marks.now = omega arith in
    let same = sym (still_erasable args.mode _ _ cell (not_yet _ _ _ _ kept.marks marked)) ∙ sym c.is_erasable.ensures in
    elim c.if-is_erasable.branch [
      | then-is_erasable w ↦
          let hit : erasable args.mode args.marks.now cell ≡ true = same ∙ w.if-is_erasable.true in
          record {
            few = omega (arith, w.count-is);
            characters = w.characters-is ∙ next_changed _ _ _ _ kept.characters here 0x20 (sym (erases _ _ _ _ 0x20 cell _ (omega arith) more hit));
            marks = w.marks-is ∙ w.set_mark.ensures ∙ next_changed _ _ _ _ kept.marks marked 0 (sym (erases _ _ _ _ 0 cell _ (omega arith) more hit));
            counted = rw w.count-is (place_counted _ _ _ _ _ kept.counted more hit);
          }
      | else-is_erasable w ↦
          let miss : erasable args.mode args.marks.now cell ≡ false = same ∙ w.if-is_erasable.false in
          record {
            few = omega (arith, w.count-is);
            characters = w.characters-is ∙ next_same _ _ _ _ kept.characters here (sym (passes_by _ _ _ _ 0x20 cell _ miss));
            marks = w.marks-is ∙ next_same _ _ _ _ kept.marks marked (sym (passes_by _ _ _ _ 0 cell _ miss));
            counted = rw w.count-is (place_passed_by _ _ _ _ _ kept.counted more miss);
          }
    ]

pub returns : goal.returns
unfolding erased
returns c =
    let args = c.args in
    let kept = c.loop-cell.invariant in
    let all = erased args.mode args.from args.to (page_of args.characters.now args.marks.now) in
    let now-characters : c.loop-cell.characters ≡ all.characters =
    all_changed _ _ _ c.loop-cell.cell kept.characters (λ k x h. leaves_after _ _ _ _ 0x20 k x (omega arith)) in
    let now-marks : c.loop-cell.marks ≡ all.marks =
    all_changed _ _ _ c.loop-cell.cell kept.marks (λ k x h. leaves_after _ _ _ _ 0 k x (omega arith)) in
    record {
      page = λ i. page_of (now-characters i) (now-marks i);
      counted = all_counted _ _ _ _ _ kept.counted c.loop-cell-test.false;
    }
