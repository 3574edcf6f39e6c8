use mathlib.Core.Path.{◌≡◌, refl}
use Prim.Native.Nat.{◌-◌}
use Rattle.page.specs.Page.{page_of}
use Rattle.keys.proofs.Laws.{rest_on_page}
use Rattle.keys.proofs.rest_takes.Goals as goal

pub take-requires : goal.take-requires
take-requires g c =
    let bounds = rest_on_page c.requires.1.0 in
    rw c.rest_of_field-rest.ensures (c.requires.1.1.0 _ _ _ _ refl refl bounds.some bounds.on_page bounds.as_many)

pub returns : goal.returns
returns g c =
    let rest = c.rest_of_field-rest.result in
    let answered : c.take.result ≡ g.taken (page_of c.args.characters.now c.args.marks.now) rest.start (rest.end - rest.start - 1) =
    c.requires.1.1.1 c.args.characters c.args.marks rest.start rest.end c.take.result c.take.ensures in
    rw c.rest_of_field-rest.ensures at answered
