use native.Mathlib.Omega.{arith}
use Rattle.copy.proofs.Laws.{some, none_left, first_ends}
use Rattle.copy.proofs.EntriesIterator.next.Goals as goal

pub bounds-self-0 : goal.bounds-self-0
bounds-self-0 c = some _ c.args.self.now.block

pub returns-then-self-ne-ESC-clause-steps : goal.returns-then-self-ne-ESC-clause-steps
returns-then-self-ne-ESC-clause-steps c = none_left _ c.args.self.now.block c.if-self-ne-ESC.true

pub split_at-requires : goal.split_at-requires
split_at-requires c =
    let ends = first_ends _ c.args.self.now.block c.if-self-ne-ESC.false in
    omega (arith, ends.within, c.entry_end.ensures)

pub invariant_of-self : goal.invariant_of-self
invariant_of-self c =
    let ends = first_ends _ c.args.self.now.block c.if-self-ne-ESC.false in
    record { block = rw (c.split_at.ensures.back, c.entry_end.ensures) ends.rest_block }

pub returns-clause-steps : goal.returns-clause-steps
returns-clause-steps c =
    let ends = first_ends _ c.args.self.now.block c.if-self-ne-ESC.false in
    rw (c.split_at.ensures.front, c.split_at.ensures.back, c.entry_end.ensures) ends.first

pub returns-clause-goes : goal.returns-clause-goes
returns-clause-goes c =
    let ends = first_ends _ c.args.self.now.block c.if-self-ne-ESC.false in
    record {
      on = λ _. (tt, tt, omega (arith, ends.past, ends.within, c.entry_end.ensures, c.split_at.ensures.back_len));
      keeps = tt;
      rests = λ _. tt;
    }
