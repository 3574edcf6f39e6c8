use mathlib.Core.Path.{refl}
use borrow.Author.Rules.{rules}
use Rattle.copy.proofs.Laws.{lay_next, lay_end}
use Rattle.copy.proofs.Passes.{writing_starts, part_fits, part_written, end_fits, all_written}
use Rattle.copy.proofs.put_laid.Goals as goal

pub loop-own-init : goal.loop-own-init
loop-own-init c = (rw c.into_iter-own-iterator.ensures.into_iter_gives (writing_starts _ _ _), refl)

pub put_all-next-requires : goal.put_all-next-requires
put_all-next-requires c =
    let turn = c.loop-own.invariant in
    part_fits turn.0 _ _ (lay_next _ c.in-Some.ensures.steps c.laid_part.ensures) c.requires turn.1

pub loop-own-preserved : goal.loop-own-preserved
loop-own-preserved c =
    let laid = lay_next _ c.in-Some.ensures.steps c.laid_part.ensures in
    (part_written c.loop-own.invariant.0 _ _ laid c.put_all-next.ensures, search rules)

pub put_byte-requires : goal.put_byte-requires
put_byte-requires c =
    let turn = c.loop-own.invariant in
    end_fits turn.0 (lay_end _ _ c.in-None.ensures.steps) c.requires turn.1

pub returns : goal.returns
returns c = all_written c.loop-own.invariant.0 (lay_end _ _ c.in-None.ensures.steps) c.put_byte.ensures
