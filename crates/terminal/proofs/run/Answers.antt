use mathlib.Core.Path.{refl, sym, ◌∙◌}
use Prim.Native.Nat.{◌+◌}
use native.Mathlib.Omega.{arith}
use borrow.Author.Rules.{rules}
use borrow.Author.Tests.{eqb-true}
use Rattle.words.proofs.Choosing.{both}
use Rattle.state.specs.State.{with_half}
use Rattle.state.proofs.Keeping.{parts, half_keeps_valid}
use Rattle.sequence.proofs.Keeping.{nothing_valid}
use Rattle.steps.specs.Light.{light_step}
use Rattle.steps.proofs.Measuring.{measured}
use Rattle.terminal.specs.Runs.{count_of}
use Rattle.terminal.specs.Answers.{number_of}
use Rattle.terminal.proofs.Running.{counted_one, joined, sets_out, ends_done}
use Rattle.terminal.proofs.Onward.{goes_over_text, text_past, arrived_valid, arrived_past, arrived_inside, goes_lightly, goes_heavily, stops_full}
use Rattle.terminal.proofs.run.Goals as goal

pub loop-taken-init : goal.loop-taken-init
loop-taken-init c = (sets_out _ _ _ c.requires.valid, refl, refl, refl)

-- Text.
pub text_run-run-requires : goal.text_run-run-requires
text_run-run-requires c = let valid = c.loop-taken.invariant.0.valid in record { valid = record { size = valid.size; state = (half_keeps_valid c.loop-taken.here valid.state _ nothing_valid).valid; page = valid.page }; from_in_bounds = search rules }

pub overflow_sub-stored : goal.overflow_sub-stored
overflow_sub-stored c =
    let tests = both (sym c.takes_text.ensures ∙ c.if-takes_text.true) in
    let outside = eqb-true _ _ tests.0 in
    let more = c.loop-taken-test.true in
    let ran = c.text_run-run.ensures in
    let past = text_past _ _ _ _ _ _ _ _ _ _ c.loop-taken.invariant.0 more outside tests.1 _ _ ran.marks_after ran.end_value in
    omega (arith, past)

pub overflow_add-stored : goal.overflow_add-stored
overflow_add-stored c =
    let tests = both (sym c.takes_text.ensures ∙ c.if-takes_text.true) in
    let outside = eqb-true _ _ tests.0 in
    let more = c.loop-taken-test.true in
    let ran = c.text_run-run.ensures in
    let on = goes_over_text _ _ _ _ _ _ _ _ _ _ c.loop-taken.invariant.0 more outside tests.1 _ _ ran.marks_after ran.end_value in
    omega (arith, on.few, on.inside, c.requires.bytes_len_bound)

pub loop-taken-smaller-then-takes_text : goal.loop-taken-smaller-then-takes_text
loop-taken-smaller-then-takes_text c =
    let tests = both (sym c.takes_text.ensures ∙ c.if-takes_text.true) in
    let outside = eqb-true _ _ tests.0 in
    let more = c.loop-taken-test.true in
    let ran = c.text_run-run.ensures in
    let past = text_past _ _ _ _ _ _ _ _ _ _ c.loop-taken.invariant.0 more outside tests.1 _ _ ran.marks_after ran.end_value in
    omega (arith, past, more)

pub loop-taken-preserved-then-takes_text : goal.loop-taken-preserved-then-takes_text
loop-taken-preserved-then-takes_text c =
    let tests = both (sym c.takes_text.ensures ∙ c.if-takes_text.true) in
    let outside = eqb-true _ _ tests.0 in
    let more = c.loop-taken-test.true in
    let ran = c.text_run-run.ensures in
    (goes_over_text _ _ _ _ _ _ _ _ _ _ c.loop-taken.invariant.0 more outside tests.1 _ _ ran.marks_after ran.end_value, search rules, search rules, search rules)

-- Bytes read on to an event.
pub read-read-requires : goal.read-read-requires
read-read-requires c = record { half_value = (parts c.loop-taken.here c.loop-taken.invariant.0.valid.state).half; from_in_bounds = c.loop-taken-test.true }

pub light_step-light-requires : goal.light_step-light-requires
light_step-light-requires c = let more = c.loop-taken-test.true in
    let read = c.read-read.ensures in record { on_page = (measured (arrived_valid _ _ _ _ _ _ _ _ _ _ c.loop-taken.invariant.0 more _ read)).on_page; light = sym c.is_light.ensures ∙ c.if-is_light.true }

pub loop-taken-smaller-in-Cursor : goal.loop-taken-smaller-in-Cursor
loop-taken-smaller-in-Cursor c =
    let more = c.loop-taken-test.true in
    let read = c.read-read.ensures in
    omega (arith, arrived_past _ _ _ _ _ _ _ _ _ _ c.loop-taken.invariant.0 more _ read, arrived_inside _ _ _ _ _ _ _ _ _ _ c.loop-taken.invariant.0 more _ read, more)

pub loop-taken-preserved-in-Cursor : goal.loop-taken-preserved-in-Cursor
unfolding light_step count_of
loop-taken-preserved-in-Cursor c =
    let more = c.loop-taken-test.true in
    let read = c.read-read.ensures in
    let variant = c.in-Cursor.is in
    let tells = c.light_step-light.ensures in
    (goes_lightly _ _ _ _ _ _ _ _ _ _ c.loop-taken.invariant.0 more _ read _ _ variant tells c.loop-taken.refused (omega arith), c.loop-taken.invariant.1, c.loop-taken.invariant.2, c.loop-taken.invariant.3)

pub loop-taken-smaller-in-Modes : goal.loop-taken-smaller-in-Modes
loop-taken-smaller-in-Modes c =
    let more = c.loop-taken-test.true in
    let read = c.read-read.ensures in
    omega (arith, arrived_past _ _ _ _ _ _ _ _ _ _ c.loop-taken.invariant.0 more _ read, arrived_inside _ _ _ _ _ _ _ _ _ _ c.loop-taken.invariant.0 more _ read, more)

pub loop-taken-preserved-in-Modes : goal.loop-taken-preserved-in-Modes
unfolding light_step count_of
loop-taken-preserved-in-Modes c =
    let more = c.loop-taken-test.true in
    let read = c.read-read.ensures in
    let variant = c.in-Modes.is in
    let tells = c.light_step-light.ensures in
    (goes_lightly _ _ _ _ _ _ _ _ _ _ c.loop-taken.invariant.0 more _ read _ _ variant tells c.loop-taken.refused (omega arith), c.loop-taken.invariant.1, c.loop-taken.invariant.2, c.loop-taken.invariant.3)

pub overflow_add-refused : goal.overflow_add-refused
unfolding light_step count_of
overflow_add-refused c =
    let more = c.loop-taken-test.true in
    let read = c.read-read.ensures in
    let variant = c.in-Refused.is in
    let tells = c.light_step-light.ensures in
    let on = goes_lightly _ _ _ _ _ _ _ _ _ _ c.loop-taken.invariant.0 more _ read _ _ variant tells (c.loop-taken.refused + 1) refl in
    omega (arith, on.few_refused, on.inside, c.requires.bytes_len_bound)

pub loop-taken-smaller-in-Refused : goal.loop-taken-smaller-in-Refused
loop-taken-smaller-in-Refused c =
    let more = c.loop-taken-test.true in
    let read = c.read-read.ensures in
    omega (arith, arrived_past _ _ _ _ _ _ _ _ _ _ c.loop-taken.invariant.0 more _ read, arrived_inside _ _ _ _ _ _ _ _ _ _ c.loop-taken.invariant.0 more _ read, more)

pub loop-taken-preserved-in-Refused : goal.loop-taken-preserved-in-Refused
unfolding light_step count_of
loop-taken-preserved-in-Refused c =
    let more = c.loop-taken-test.true in
    let read = c.read-read.ensures in
    let variant = c.in-Refused.is in
    let tells = c.light_step-light.ensures in
    (rw c.refuse-here.ensures (goes_lightly _ _ _ _ _ _ _ _ _ _ c.loop-taken.invariant.0 more _ read _ _ variant tells (c.loop-taken.refused + 1) refl), c.loop-taken.invariant.1, c.loop-taken.invariant.2, c.loop-taken.invariant.3)

-- Any other event.
pub heavy_step-requires : goal.heavy_step-requires
heavy_step-requires c = let more = c.loop-taken-test.true in
    let read = c.read-read.ensures in
    let going = c.loop-taken.invariant.0 in
    let next = c.with_half-next.ensures in record { valid = rw next (arrived_valid _ _ _ _ _ _ _ _ _ _ c.loop-taken.invariant.0 more _ read); at_in_bounds = (omega (arith, going.room, going.as_long), rw next (sym c.is_light.ensures ∙ c.if-is_light.false)) }

pub overflow_sub-result : goal.overflow_sub-result
overflow_sub-result c =
    let more = c.loop-taken-test.true in
    let read = c.read-read.ensures in
    omega (arith, arrived_past _ _ _ _ _ _ _ _ _ _ c.loop-taken.invariant.0 more _ read)

pub returns-in_default : goal.returns-in_default
unfolding number_of
returns-in_default c =
    let more = c.loop-taken-test.true in
    let read = c.read-read.ensures in
    let told = rw c.with_half-next.ensures at (c.heavy_step.ensures (with_half c.loop-taken.here c.read-read.result.before)) in
    stops_full _ _ _ _ _ _ _ _ _ _ c.loop-taken.invariant.0 more _ read _ _ c.heavy_step.result _ told c.in_default.not-Ok c.requires.valid c.requires.bytes_len_bound

pub overflow_add-sent : goal.overflow_add-sent
overflow_add-sent c =
    let more = c.loop-taken-test.true in
    let read = c.read-read.ensures in
    let told = rw c.with_half-next.ensures at (c.in-Ok.ensures (with_half c.loop-taken.here c.read-read.result.before)) in
    let on = goes_heavily _ _ _ _ _ _ _ _ _ _ c.loop-taken.invariant.0 more _ read _ _ c.in-Ok.step told in
    omega (arith, on.room, c.well_formed)

pub overflow_add-stored-else-is_light : goal.overflow_add-stored-else-is_light
overflow_add-stored-else-is_light c =
    let more = c.loop-taken-test.true in
    let read = c.read-read.ensures in
    let told = rw c.with_half-next.ensures at (c.in-Ok.ensures (with_half c.loop-taken.here c.read-read.result.before)) in
    let on = goes_heavily _ _ _ _ _ _ _ _ _ _ c.loop-taken.invariant.0 more _ read _ _ c.in-Ok.step told in
    omega (arith, on.few, on.inside, c.requires.bytes_len_bound)

pub overflow_add-refused-else-is_light : goal.overflow_add-refused-else-is_light
overflow_add-refused-else-is_light c =
    let more = c.loop-taken-test.true in
    let read = c.read-read.ensures in
    let told = rw c.with_half-next.ensures at (c.in-Ok.ensures (with_half c.loop-taken.here c.read-read.result.before)) in
    let on = goes_heavily _ _ _ _ _ _ _ _ _ _ c.loop-taken.invariant.0 more _ read _ _ c.in-Ok.step told in
    omega (arith, c.from-refused.ensures, counted_one c.in-Ok.step.refused, on.few_refused, on.inside, c.requires.bytes_len_bound)

pub loop-taken-smaller : goal.loop-taken-smaller
loop-taken-smaller c =
    let more = c.loop-taken-test.true in
    let read = c.read-read.ensures in
    omega (arith, arrived_past _ _ _ _ _ _ _ _ _ _ c.loop-taken.invariant.0 more _ read, arrived_inside _ _ _ _ _ _ _ _ _ _ c.loop-taken.invariant.0 more _ read, more)

pub loop-taken-preserved : goal.loop-taken-preserved
loop-taken-preserved c =
    let more = c.loop-taken-test.true in
    let read = c.read-read.ensures in
    let told = rw c.with_half-next.ensures at (c.in-Ok.ensures (with_half c.loop-taken.here c.read-read.result.before)) in
    let on = goes_heavily _ _ _ _ _ _ _ _ _ _ c.loop-taken.invariant.0 more _ read _ _ c.in-Ok.step told in
    (rw (c.from-refused.ensures, counted_one c.in-Ok.step.refused, joined c.loop-taken.protection c.in-Ok.step.protection) on, search rules, search rules, search rules)

pub returns : goal.returns
unfolding number_of
returns c =
    sym (ends_done c.loop-taken.invariant.0 c.requires.valid c.requires.bytes_len_bound c.loop-taken-test.false)
