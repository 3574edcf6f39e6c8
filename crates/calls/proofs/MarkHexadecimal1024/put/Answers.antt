use borrow.Author.Rules.{rules}
use Rattle.frames.proofs.Lending.{wrote_inside}
use Rattle.calls.proofs.MarkHexadecimal1024.put.Goals as goal

pub returns : goal.returns
returns c = let fits = wrote_inside c.put_hex_pairs.ensures in search rules
