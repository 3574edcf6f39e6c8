use mathlib.Core.Path.{◌≡◌, sym, ◌∙◌}
use mathlib.Core.Bool.{false}
use Prim.Native.Nat.{◌-◌, ◌<◌, ◌≤◌}
use native.Mathlib.Omega.{arith}
use lib.ListN.{length}
use Rattle.words.specs.Output.{placed}
use Rattle.output.specs.Decimal.{place_bytes}
use Rattle.output.proofs.Digits.{place_long}
use Rattle.steps.specs.Steps.{bytes_of}
use Rattle.steps.specs.Told.{told}
use Rattle.sending.specs.Sending.{cursor_report}
use Rattle.steps.proofs.Writing.{no_room, with_room}
use Rattle.sending.proofs.cursor_report.Goals as goal

pub returns-then-out-at : goal.returns-then-out-at
unfolding cursor_report bytes_of
returns-then-out-at c =
    λ before page.
    let cursor = c.args.state.cursor in
    let report = place_long cursor.row cursor.column 0x52 in
    let counted = place_long cursor.row cursor.column 0 in
    let size : c.place_length-bytes.result ≡ length (place_bytes cursor.row cursor.column 0x52) = omega (arith, c.place_length-bytes.ensures.value) in
    let little : length c.args.out.now - c.args.at < length (place_bytes cursor.row cursor.column 0x52) = omega arith in
    sym (no_room _ _ _ _ little)

pub put_place-requires : goal.put_place-requires
put_place-requires c =
    let cursor = c.args.state.cursor in
    let report = place_long cursor.row cursor.column 0x52 in
    let counted = place_long cursor.row cursor.column 0 in
    let size : c.place_length-bytes.result ≡ length (place_bytes cursor.row cursor.column 0x52) = omega (arith, c.place_length-bytes.ensures.value) in
    omega arith

pub returns : goal.returns
unfolding cursor_report bytes_of
returns c =
    λ before page.
    let cursor = c.args.state.cursor in
    let report = place_long cursor.row cursor.column 0x52 in
    let counted = place_long cursor.row cursor.column 0 in
    let size : c.place_length-bytes.result ≡ length (place_bytes cursor.row cursor.column 0x52) = omega (arith, c.place_length-bytes.ensures.value) in
    let enough : length (place_bytes cursor.row cursor.column 0x52) ≤ length c.args.out.now - c.args.at = omega arith in
    (λ i. record { told = told (c.did_send.ensures i) page; output = c.put_place.ensures.left i })
    ∙ (λ i. record { told = told (record { state = c.args.state; stored = 0; sent = size i; refused = false; protection = false }) page; output = placed c.args.at (place_bytes cursor.row cursor.column 0x52) c.args.out.now })
    ∙ sym (with_room _ _ _ _ enough)
