-- What is opened where something is computed from the definitions: each name stands for all that its line lists.
use Rattle.words.specs.Choice.{If◌then◌else◌, ◌and◌, ◌or◌, ◌is◌to◌}
use Rattle.words.specs.Lists.{within, every, some, all_from, some_from, each_from, numbers_from, on_part, selected}
use Rattle.words.specs.Output.{placed}
use Rattle.sequence.specs.Record.{arguments_fit, largest_argument, valid_half_read, with_digit, with_next_argument}
use Rattle.sequence.specs.Reading.{is_control, is_cancel, outside_sequence, after_esc, after_intermediate, after_bracket, right_after_bracket, after_private_mark, sequence_read_on, inside_sequence, advance_of}
use Rattle.page.specs.Marks.{valid_mark, numeric_takes, alphabetic_takes, takes, unprotected}
use Rattle.page.specs.Page.{valid_page, text_stored, typed, takes_from_right, takes_from_left, tagged, blanked, closed_up, mark_after_block, modified_cleared}
use Rattle.places.specs.Places.{place_of}
use Rattle.output.specs.Decimal.{decimal, place_bytes}
use Rattle.fields.specs.Fields.{joined, starts_field, field_start, end_from, field_end, fields_from}
use Rattle.fields.specs.Required.{is_left_blank, some_left_blank}
use Rattle.fields.specs.Searches.{or_else, first_unprotected_from, first_unprotected, next_unprotected}
use Rattle.blocks.specs.Blocks.{entry_bytes, encode, entry_of, is_in_block}
use Rattle.blocks.specs.Decode.{in_front, split, read_number, read_entry, decode}
use Rattle.blocks.specs.Lay.{same_place, laid_on, lay}
use Rattle.blocks.specs.Finding.{ends_report, ends_head, outside, inside, after_byte, blocks_from}
use Rattle.state.specs.State.{message_of, refused, input_disabled, unlocked}
use Rattle.state.specs.Moves.{on_by, right_by}
use Rattle.state.specs.Pen.{valid_pen}
use Rattle.state.specs.Tests.{listed_rows, listed_columns, listed_size, size_fits, cursor_fits, stops_fit, valid_message, valid_state}
use Rattle.steps.specs.Steps.{bytes_of, block_transmission}
use Rattle.table.specs.Table.{allowed, value_of}
use Rattle.state.specs.Moves.{to_next_cell}
use Rattle.commands.specs.Text.{text_step}
use Rattle.sending.specs.Sending.{send_block, ready_report, cursor_report, status_report}
use Rattle.table.specs.Settings.{pen_of_area, area_set}
use Rattle.table.specs.PrivateForms.{private_step}
use Rattle.table.specs.Moves.{to_place, kept_column, is_move, move_step}
use Rattle.commands.specs.Commands.{esc_step, listed_step, bracket_step}
use Rattle.commands.specs.Host.{event_step, host_step}
use Rattle.keys.specs.Keys.{is_typing, is_editing, is_field_move, is_known, is_locked, is_locked_out, lacks_cell, is_not_taken, is_held_back, gone_to, typed_step, field_blanked, rest_shifted, taken_step, key_step}
use Rattle.terminal.specs.Runs.{steps_of, fitting, after, bytes_sent_by, cells_stored_by, count_of, refused_by, protection_by}
use Rattle.terminal.specs.Answers.{number_of, unchanged, after_steps, changes_nothing, gives}
use Rattle.terminal.specs.Tests.{first_of, exceeds_room, passes_line2, start_lines, host_refusals, key_refusals, host_lines, key_lines}
use Rattle.terminal.specs.Calls.{start_call, host_call, key_call}
use Rattle.promises.specs.Rules.{step_of, steps}
use Rattle.promises.specs.Entries.{outcome_of, outcomes, total, inputs_of, inputs_done, joined_bytes}

-- Tests, and the first two lines of the table.
unfoldable pub tests : Unit {0}
unfolding If◌then◌else◌ ◌and◌ ◌or◌ ◌is◌to◌
tests = tt

unfoldable pub validity : Unit {0}
unfolding tests every arguments_fit largest_argument valid_half_read valid_mark valid_page valid_pen listed_rows listed_columns listed_size size_fits cursor_fits stops_fit valid_message valid_state
validity = tt

-- The bytes of a block whose fields are known, and a block laid over a copy.
unfoldable pub block_bytes : Unit {0}
unfolding tests selected unprotected place_of decimal place_bytes joined starts_field end_from field_end fields_from entry_bytes encode entry_of some_from is_in_block
block_bytes = tt

unfoldable pub laying : Unit {0}
unfolding tests in_front split read_number read_entry decode same_place laid_on lay entry_bytes encode decimal place_bytes
laying = tt

-- Whether one of some fields that are known is left blank.
unfoldable pub blank_fields : Unit {0}
unfolding tests some all_from some_from unprotected joined starts_field end_from field_end fields_from is_left_blank some_left_blank
blank_fields = tt

-- The blocks found in bytes.
unfoldable pub finding : Unit {0}
unfolding tests ends_report ends_head outside inside after_byte blocks_from
finding = tt

-- The steps of host bytes and of keys.
unfoldable pub host_steps : Unit {0}
unfolding tests with_digit with_next_argument is_control is_cancel outside_sequence after_esc after_intermediate after_bracket right_after_bracket after_private_mark sequence_read_on inside_sequence advance_of text_stored mark_after_block modified_cleared each_from message_of refused input_disabled decimal place_bytes bytes_of block_transmission allowed value_of to_place kept_column to_next_cell text_step send_block pen_of_area area_set esc_step ready_report cursor_report status_report is_move move_step listed_step bracket_step private_step event_step host_step
host_steps = tt

unfoldable pub key_steps : Unit {0}
unfolding tests within some each_from numbers_from on_part all_from numeric_takes alphabetic_takes takes unprotected typed takes_from_right takes_from_left tagged blanked closed_up mark_after_block modified_cleared place_of joined field_start end_from field_end some_left_blank or_else first_unprotected_from first_unprotected next_unprotected on_by right_by unlocked bytes_of block_transmission send_block is_typing is_editing is_field_move is_known is_locked is_locked_out lacks_cell is_not_taken is_held_back gone_to typed_step field_blanked rest_shifted taken_step key_step
key_steps = tt

-- Calls, with all but their steps; and what several of them leave.
unfoldable pub calls : Unit {0}
unfolding validity bytes_of placed steps_of fitting after bytes_sent_by cells_stored_by count_of refused_by protection_by number_of unchanged after_steps changes_nothing gives first_of exceeds_room passes_line2 start_lines host_refusals key_refusals host_lines key_lines start_call host_call key_call
calls = tt

unfoldable pub streams : Unit {0}
unfolding step_of steps outcome_of outcomes total inputs_of inputs_done joined_bytes
streams = tt
