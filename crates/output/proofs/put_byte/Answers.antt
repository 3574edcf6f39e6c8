use Rattle.words.proofs.Output.{wrote_one}
use Rattle.output.proofs.put_byte.Goals as goal

pub returns : goal.returns
returns c = wrote_one _ _ _ c.requires
