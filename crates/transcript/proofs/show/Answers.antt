use mathlib.Core.Path.{◌≡◌, sym}
use Prim.Native.Nat.{◌*◌}
use native.Mathlib.Omega.{arith}
use lib.ListN.{length, take}
use borrow.Author.Rules.{rules}
use Rattle.frames.proofs.Lending.{wrote_inside}
use Rattle.transcript.proofs.Showing.{cells_fit, page_length, five_digits, text_fits}
use Rattle.transcript.proofs.show.Goals as goal

pub overflow_mul-cells : goal.overflow_mul-cells
overflow_mul-cells g c =
    let most = cells_fit _ (sym c.if-not-is_listed.ensures) (sym c.if-not-is_valid.ensures) in
    omega arith

pub shared_ref_as_front-draw : goal.shared_ref_as_front-draw
shared_ref_as_front-draw g c = cells_fit _ (sym c.if-not-is_listed.ensures) (sym c.if-not-is_valid.ensures)

pub draw-end-requires : goal.draw-end-requires
draw-end-requires g c =
    let state = c.in-Some.field-0.state in
    let listed = sym c.if-not-is_listed.ensures in
    let is = sym c.if-not-is_valid.ensures in
    let cells = state.size.rows * state.size.columns in
    let characters = page_length state listed is c.args.rooms.now.characters (search rules) in
    let marks = page_length state listed is c.args.rooms.now.marks (search rules) in
    let long : length c.args.text.now ≡ 131087 = search rules in
    let text = text_fits state listed is (take cells c.args.rooms.now.characters) (take cells c.args.rooms.now.marks) characters marks in
    record { five_digits_each = five_digits state listed is; characters_len = (characters, marks); marks_in_bounds = omega (arith, text, long) }

pub shared_ref_as_front-print : goal.shared_ref_as_front-print
shared_ref_as_front-print g c = let fits = wrote_inside c.draw-end.ensures in search rules
