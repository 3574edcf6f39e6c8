use Rattle.state.proofs.Pens.{plain_by_mask}
use Rattle.state.proofs.pen.pen_plain.Goals as goal

pub returns : goal.returns
returns c = plain_by_mask c.args.pen c.ranges.pen.fits
