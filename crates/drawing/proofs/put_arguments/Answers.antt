use borrow.Author.Rules.{rules}
use Rattle.words.proofs.Elements.{exactly_these}
use Rattle.drawing.proofs.put_arguments.Goals as goal

pub returns : goal.returns
returns c = rw (exactly_these {n = 8} 0 c.args.arguments (search rules)) c.put_each.ensures
