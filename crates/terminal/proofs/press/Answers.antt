use mathlib.Core.Path.{sym, ap, ◌∙◌}
use Prim.Native.Nat.{◌<◌, ◌≤◌}
use native.Mathlib.Omega.{arith}
use lib.ListN.{length}
use Rattle.page.specs.Page.{page_of}
use Rattle.steps.specs.Steps.{Terminal, bytes_of}
use Rattle.keys.specs.Keys.{key_step}
use Rattle.terminal.specs.declared.Answer.TheVariants.{Done, NoRoom}
use Rattle.terminal.specs.Runs.{count_of}
use Rattle.terminal.specs.Answers.{number_of, unchanged}
use Rattle.terminal.proofs.Deciding.{key_no_room, key_done}
use Rattle.terminal.proofs.Running.{counted_one, was_done, exceeded}
use Rattle.terminal.proofs.press.Goals as goal

pub returns-in_default : goal.returns-in_default
returns-in_default c =
    let t : Terminal = record { state = c.args.state; page = page_of c.args.characters.now c.args.marks.now } in
    let full = exceeded 0 c.args.out.now t _ _ _ c.step.result c.args.state c.step.ensures c.in_default.not-Ok in
    let exceeds : length c.args.out.now < length (bytes_of (key_step c.args.key t).transmission) = omega (arith, full.exceeds) in
    c.refuse_call.ensures _ _
    ∙ (λ i. unchanged NoRoom (record { state = c.args.state; page = full.same_page i }) (full.same_output i))
    ∙ sym (key_no_room t c.args.key c.args.out.now c.requires exceeds)

pub returns : goal.returns
returns c =
    let t : Terminal = record { state = c.args.state; page = page_of c.args.characters.now c.args.marks.now } in
    let was = was_done 0 c.args.out.now t (key_step c.args.key t) _ _ c.in-Ok.step c.in-Ok.ensures in
    let fits : length (bytes_of (key_step c.args.key t).transmission) ≤ length c.args.out.now = omega (arith, was.fits) in
    (λ i. record {
      number = number_of Done;
      taken = 0;
      sent = was.sent i;
      stored = was.stored i;
      refused = (c.from.ensures ∙ counted_one _ ∙ ap count_of was.refused) i;
      protection = was.protection i;
      terminal = was.terminal i;
      output = was.writes i;
    })
    ∙ sym (key_done t c.args.key c.args.out.now c.requires fits)
