use borrow.Author.Tests.{ne_eqb}
use Rattle.words.specs.Choice.{If◌then◌else◌}
use Rattle.commands.specs.Commands.{esc_step}
use Rattle.steps.proofs.Writing.{told_silent}
use Rattle.commands.proofs.Silent.{esc_silent}
use Rattle.commands.proofs.esc_step.Goals as goal

pub returns-then-byte-eq83 : goal.returns-then-byte-eq83
unfolding esc_step If◌then◌else◌
returns-then-byte-eq83 c = λ before. rw c.if-byte-eq83.true (c.send_block.ensures before)

pub silent_esc_step-requires : goal.silent_esc_step-requires
silent_esc_step-requires c = record { valid = c.requires.valid; byte_value = (c.requires.at_in_bounds.1, c.if-byte-eq83.false) }

pub returns : goal.returns
returns c = λ before. told_silent _ _ _ _ _ _ c.silent_esc_step.ensures (esc_silent _ _ (ne_eqb _ _ c.if-byte-eq83.false))
