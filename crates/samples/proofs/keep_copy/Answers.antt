use Rattle.samples.proofs.Copying.{full_fits, later_fits, full_is_block, later_is_block, copy_made}
use Rattle.samples.proofs.keep_copy.Goals as goal

pub lay_later-copy-requires : goal.lay_later-copy-requires
lay_later-copy-requires c =
    let calls = c.call_three-replies.ensures in
    record {
      sent = (full_fits calls, later_fits calls);
      blocks = λ answered. (later_is_block calls answered, full_is_block calls answered);
    }

pub returns : goal.returns
returns c = copy_made c.call_three-replies.ensures _ c.lay_later-copy.ensures
