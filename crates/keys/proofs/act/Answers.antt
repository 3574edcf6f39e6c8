use borrow.Author.Tests.{ne_eqb}
use Rattle.words.specs.Choice.{If◌then◌else◌, ◌and◌, ◌is◌to◌}
use Rattle.keys.specs.Keys.{is_typing, taken_step}
use Rattle.steps.proofs.Measuring.{measured}
use Rattle.keys.proofs.act.Goals as goal

pub down_by-requires : goal.down_by-requires
unfolding taken_step is_typing ◌is◌to◌ ◌and◌ If◌then◌else◌
down_by-requires c = (measured c.requires.valid).on_page

pub right_by-requires : goal.right_by-requires
unfolding taken_step is_typing ◌is◌to◌ ◌and◌ If◌then◌else◌
right_by-requires c = (measured c.requires.valid).on_page

pub returns-in-256 : goal.returns-in-256
unfolding taken_step is_typing ◌is◌to◌ ◌and◌ If◌then◌else◌
returns-in-256 c = rw (c.quiet.ensures _, c.up_by.ensures, c.in-256.is)

pub returns-in-257 : goal.returns-in-257
unfolding taken_step is_typing ◌is◌to◌ ◌and◌ If◌then◌else◌
returns-in-257 c = rw (c.quiet-in-257.ensures _, c.down_by.ensures, c.in-257.is)

pub returns-in-258 : goal.returns-in-258
unfolding taken_step is_typing ◌is◌to◌ ◌and◌ If◌then◌else◌
returns-in-258 c = rw (c.quiet-in-258.ensures _, c.left_by.ensures, c.in-258.is)

pub returns-in-259 : goal.returns-in-259
unfolding taken_step is_typing ◌is◌to◌ ◌and◌ If◌then◌else◌
returns-in-259 c = rw (c.quiet-in-259.ensures _, c.right_by.ensures, c.in-259.is)

pub returns-in-260 : goal.returns-in-260
unfolding taken_step is_typing ◌is◌to◌ ◌and◌ If◌then◌else◌
returns-in-260 c = rw (c.to_next_field.ensures, c.in-260.is)

pub returns-in-261 : goal.returns-in-261
unfolding taken_step is_typing ◌is◌to◌ ◌and◌ If◌then◌else◌
returns-in-261 c = rw (c.to_previous_field.ensures, c.in-261.is)

pub returns-in-262 : goal.returns-in-262
unfolding taken_step is_typing ◌is◌to◌ ◌and◌ If◌then◌else◌
returns-in-262 c = rw (c.to_first_unprotected.ensures, c.in-262.is)

pub returns-in-263 : goal.returns-in-263
unfolding taken_step is_typing ◌is◌to◌ ◌and◌ If◌then◌else◌
returns-in-263 c = rw (c.blank_field.ensures, c.in-263.is)

pub returns-in-264 : goal.returns-in-264
unfolding taken_step is_typing ◌is◌to◌ ◌and◌ If◌then◌else◌
returns-in-264 c = rw (c.shift_rest.ensures, c.in-264.is)

pub returns-in-265 : goal.returns-in-265
unfolding taken_step is_typing ◌is◌to◌ ◌and◌ If◌then◌else◌
returns-in-265 c = rw (c.shift_rest-in-265.ensures, c.in-265.is)

pub returns-in-268 : goal.returns-in-268
unfolding taken_step is_typing ◌is◌to◌ ◌and◌ If◌then◌else◌
returns-in-268 c = rw (c.quiet-in-268.ensures _, c.unlock.ensures, c.in-268.is)

pub returns-in_default : goal.returns-in_default
unfolding taken_step If◌then◌else◌
returns-in_default c =
    let none = c.in_default.in_default-own.rest in
    let other = c.requires.key_value in
    rw (c.quiet-in_default.ensures _)
    (simp (
      other.0,
      ne_eqb _ _ none.0.0.0.0.0.0.0.0.0.0.1,
      ne_eqb _ _ none.0.0.0.0.0.0.0.0.0.1,
      ne_eqb _ _ none.0.0.0.0.0.0.0.0.1,
      ne_eqb _ _ none.0.0.0.0.0.0.0.1,
      ne_eqb _ _ none.0.0.0.0.0.0.1,
      ne_eqb _ _ none.0.0.0.0.0.1,
      ne_eqb _ _ none.0.0.0.0.1,
      ne_eqb _ _ none.0.0.0.1,
      ne_eqb _ _ none.0.0.1,
      ne_eqb _ _ none.0.1,
      ne_eqb _ _ other.1,
      ne_eqb _ _ none.1,
    ))
