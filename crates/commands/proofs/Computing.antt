-- What a computed step comes to: all that is unfolded on the way, for the worked examples.
use Rattle.words.specs.Choice.{If◌then◌else◌, ◌and◌, ◌or◌, ◌is◌to◌}
use Rattle.words.specs.Lists.{within, every, each_from, numbers_from, selected}
use Rattle.sequence.specs.Record.{with_digit, with_next_argument}
use Rattle.sequence.specs.Reading.{is_control, is_cancel, outside_sequence, after_esc, after_intermediate, after_bracket, right_after_bracket, after_private_mark, sequence_read_on, inside_sequence, advance_of}
use Rattle.page.specs.Marks.{unprotected}
use Rattle.page.specs.Page.{text_stored, erasable, erased, cells_erased, scrolled_up, scrolled_down, mark_after_block, modified_cleared}
use Rattle.output.specs.Decimal.{decimal, place_bytes}
use Rattle.places.specs.Places.{place_of}
use Rattle.fields.specs.Fields.{joined, starts_field, end_from, field_end, fields_from, fields_of}
use Rattle.blocks.specs.Blocks.{entry_bytes, encode, entry_of, is_in_block, entries_sent, block}
use Rattle.state.specs.State.{message_of, refused, input_disabled, input_enabled}
use Rattle.state.specs.Moves.{back_by, on_by, up_by, down_by, right_by, left_by, to_margin, to_next_cell}
use Rattle.state.specs.Tabs.{stop_set, stop_cleared, stops_cleared, stop_right, stop_left, stops_on, stops_back, tabbed_on, tabbed_back}
use Rattle.steps.specs.Steps.{bytes_of, block_transmission}
use Rattle.table.specs.Table.{allowed, value_of}
use Rattle.commands.specs.Text.{text_step, line_down, line_up, next_line, control_step}
use Rattle.commands.specs.Commands.{fresh_step, esc_step, erasing, erase_part, listed_step, bracket_step}
use Rattle.sending.specs.Sending.{send_block, ready_report, cursor_report, status_report}
use Rattle.table.specs.Moves.{to_column, to_row, to_place, kept_column, is_move, move_step}
use Rattle.table.specs.PrivateForms.{private_step}
use Rattle.table.specs.Settings.{tab_control, is_area, pen_of_area, area_set, area_qualified, is_visual, pen_after, pen_after_all, rendition, set_mode}
use Rattle.commands.specs.Host.{event_step, host_step}

-- Tests and lists.
unfoldable tests : Unit {0}
unfolding If◌then◌else◌ ◌and◌ ◌or◌ ◌is◌to◌ within every each_from numbers_from selected
tests = tt

-- Reading a byte.
unfoldable readings : Unit {0}
unfolding tests with_digit with_next_argument is_control is_cancel outside_sequence after_esc after_intermediate after_bracket right_after_bracket after_private_mark sequence_read_on inside_sequence advance_of
readings = tt

-- What becomes of the state.
unfoldable states : Unit {0}
unfolding tests message_of refused input_disabled input_enabled back_by on_by up_by down_by right_by left_by to_margin to_next_cell stop_set stop_cleared stops_cleared stop_right stop_left stops_on stops_back tabbed_on tabbed_back is_area pen_of_area is_visual pen_after pen_after_all
states = tt

-- What becomes of the page.
unfoldable pages : Unit {0}
unfolding tests unprotected text_stored erasable erased cells_erased scrolled_up scrolled_down mark_after_block modified_cleared
pages = tt

-- What is sent.
unfoldable transmissions : Unit {0}
unfolding tests unprotected place_of joined starts_field end_from field_end fields_from fields_of decimal place_bytes entry_bytes encode entry_of is_in_block entries_sent block block_transmission bytes_of
transmissions = tt

-- The step of a host byte.
unfoldable pub host_steps : Unit {0}
unfolding readings states pages transmissions text_step line_down line_up next_line control_step fresh_step send_block esc_step allowed value_of to_column to_row to_place kept_column is_move move_step tab_control area_set area_qualified erasing erase_part rendition set_mode ready_report cursor_report status_report listed_step bracket_step private_step event_step host_step
host_steps = tt
