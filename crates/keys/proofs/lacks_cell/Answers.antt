use mathlib.Core.Path.{sym, ◌∙◌}
use Rattle.words.specs.Choice.{If◌then◌else◌, ◌or◌}
use Rattle.keys.specs.Keys.{lacks_cell}
use Rattle.keys.proofs.lacks_cell.Goals as goal
use Rattle.keys.proofs.lacks_cell.Goals.{then-is_typing-via-then-is_typing, then-is_typing-via-else-is_typing+then-is_editing}

pub returns-then-is_typing : goal.returns-then-is_typing
unfolding lacks_cell If◌then◌else◌ ◌or◌
returns-then-is_typing c =
    elim c.then-is_typing.branch [
      | then-is_typing-via-then-is_typing w ↦
          rw (sym c.is_typing.ensures ∙ w.if-is_typing.true, sym c.stands_unprotected.ensures)
      | then-is_typing-via-else-is_typing+then-is_editing w ↦
          rw (sym c.is_typing.ensures ∙ w.if-is_typing.false, sym w.is_editing.ensures ∙ w.if-is_editing.true, sym c.stands_unprotected.ensures)
    ]

pub returns-then-is_field_move : goal.returns-then-is_field_move
unfolding lacks_cell If◌then◌else◌ ◌or◌
returns-then-is_field_move c =
    rw (sym c.is_typing.ensures ∙ c.if-is_typing.false, sym c.is_editing.ensures ∙ c.if-is_editing.false, sym c.is_field_move.ensures ∙ c.if-is_field_move.true)
    c.has_no_field.ensures

pub returns-else-is_field_move : goal.returns-else-is_field_move
unfolding lacks_cell If◌then◌else◌ ◌or◌
returns-else-is_field_move c =
    rw (sym c.is_typing.ensures ∙ c.if-is_typing.false, sym c.is_editing.ensures ∙ c.if-is_editing.false, sym c.is_field_move.ensures ∙ c.if-is_field_move.false)
    c.if-is_field_move.false
