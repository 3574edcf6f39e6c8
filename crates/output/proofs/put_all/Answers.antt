use mathlib.Core.List.{flat_map}
use Rattle.std.proofs.lemmas.List.Concat.{flat_map_single}
use Rattle.std.proofs.lemmas.List.{map-id}
use Rattle.output.proofs.put_all.Goals as goal

pub returns : goal.returns
unfolding flat_map
returns c = rw (flat_map_single (λ byte. byte) c.args.bytes.now, map-id c.args.bytes.now) at c.put_each.ensures
