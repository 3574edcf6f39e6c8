use mathlib.Core.Path.{sym}
use lib.Seq.{length-take-le}
use Rattle.samples.proofs.Laws.{host_fits, sent_on}
use Rattle.samples.proofs.send_on.Goals as goal

pub slice_bounds-host-end-2 : goal.slice_bounds-host-end-2
slice_bounds-host-end-2 c = host_fits _ _ _ c.host-first.ensures

pub returns : goal.returns
returns c =
    sent_on _ _ _ _ c.host-first.ensures c.host-second.ensures

pub slice_bounds-host-end-3 : goal.slice_bounds-host-end-3
slice_bounds-host-end-3 c = sym (length-take-le _ _ (host_fits _ _ _ c.host-first.ensures))
