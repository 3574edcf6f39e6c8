use mathlib.Core.Path.{◌≡◌}
use Rattle.words.specs.Choice.{If◌then◌else◌}
use Rattle.commands.specs.Text.{control_step}
use Rattle.commands.specs.Light.{is_light}
use Rattle.steps.proofs.Measuring.{measured}
use Rattle.commands.proofs.Lightness.{heavy_control}
use Rattle.commands.proofs.control.Goals as goal

pub tab_on-requires : goal.tab_on-requires
unfolding control_step If◌then◌else◌
tab_on-requires c = (measured c.requires.valid).on_page

pub returns-then-byte-eq9 : goal.returns-then-byte-eq9
unfolding control_step If◌then◌else◌
returns-then-byte-eq9 c = rw (c.quiet.ensures _, c.tab_on.ensures, c.if-byte-eq9.true)

pub returns : goal.returns
unfolding control_step is_light If◌then◌else◌
returns c =
    let is-LF : c.args.byte ≡ 0x0A = heavy_control _ _ c.args.byte c.requires.byte_value c.if-byte-eq9.false in
    rw (c.line_down.ensures, is-LF)
