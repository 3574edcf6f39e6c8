use borrow.Author.Rules.{rules}
use Rattle.frames.proofs.Lending.{wrote_inside}
use Rattle.calls.proofs.U8Hexadecimal2048.put.Goals as goal

pub returns : goal.returns
returns c = let fits = wrote_inside c.put_hex.ensures in search rules
